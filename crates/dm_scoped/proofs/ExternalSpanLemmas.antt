-- A typed external declaration has the span of its syntax.
use Rattle.std.specs.Prelude.{◌≡◌, Bool, true, false, not, ℕ, List, [], ◌∷◌, ◌++◌, map, refl}
use Rattle.std.proofs.Common.{ap, ◌∙◌, subst}
use Rattle.dm_token.specs.declared.place.Span.{Span}
use Rattle.dm_token.specs.declared.token.CToken.{CToken}
use Rattle.dm_type.specs.declared.shape.Shape.{Shape}
use Rattle.dm_syn.specs.Spans.{declarator_span, external_span}
use Rattle.dm_syn.specs.Trees.{Declarator, Stmt, External}
use Rattle.dm_syn.specs.Trees as tree
use Rattle.dm_tree.specs.Trees.{Tree}
use Rattle.dm_tree.specs.Units.{Declaration, declares, defines_function, TypedUnit}
use Rattle.dm_tree.specs.Units as unit
use Rattle.dm_typing.specs.Known.{Known, Setting, Outcome, given, broken}
use Rattle.dm_typing.specs.Specifiers.{of_definition}
use Rattle.dm_edecl.specs.Standing.{Standing, Progress, goes_on, stops, further, collecting, keeps}
use Rattle.dm_edecl.specs.Linkages.{entry_of, number_here, function_here, is_defined, with_whole_kinds}
use Rattle.dm_edecl.specs.Declaring.{Specified, specified, name_at, declarable, fits_main, declarators_of, expressions_of, typed_declaration}
use Rattle.dm_edecl.specs.Units.{Heading, numbers_of, external_of, typed_heading, body_within, typed_body, function_defined, typed_external, typed_externals, unit_setting, beginning, unit_of, typed_unit}

-- what is typed is such
unfoldable IfTyped : {A : Type 0} → (A → Type 0) → Progress A → Type 0
IfTyped P (goes_on t it) = P it
IfTyped P (stops rule at) = Unit {0}

there : {A : Type 0} (P : A → Type 0) (t : Standing) (it : A) → P it → IfTyped P (goes_on t it)
unfolding IfTyped
there P t it h = h

further-typed : {A B : Type 0} (P : A → Type 0) (Q : B → Type 0) (progress : Progress A) (next : Standing → A → Progress B) → IfTyped P progress
    → ((t : Standing) (it : A) → P it → IfTyped Q (next t it)) → IfTyped Q (further progress next)
unfolding IfTyped
further-typed P Q (goes_on t it) next h step = step t it h
further-typed P Q (stops rule at) next h step = tt

any-typed : {A : Type 0} (progress : Progress A) → IfTyped (λ it. Unit {0}) progress
unfolding IfTyped
any-typed (goes_on t it) = tt
any-typed (stops rule at) = tt

collecting-typed : {A B : Type 0} (Q : B → Type 0) (s : Standing) (outcome : Outcome A) (next : Standing → List Tree → A → Progress B)
    → ((t : Standing) (constants : List Tree) (it : A) → IfTyped Q (next t constants it)) → IfTyped Q (collecting s outcome next)
unfolding IfTyped
collecting-typed Q s (given known it) next step = step _ known.constants it
collecting-typed Q s (broken rule at) next step = tt

keeps-typed : {A : Type 0} (P : A → Type 0) (test : Bool) (rule at : ℕ) (next : Progress A) → IfTyped P next → IfTyped P (keeps test rule at next)
unfolding IfTyped
keeps-typed P true rule at next h = h
keeps-typed P false rule at next h = tt

abbrev HasSpan : Span → unit.External → Type 0
HasSpan span one = one.span ≡ span

module _ (setting : Setting) where
  declarable-typed : (P : unit.External → Type 0) (said : Specified) (s : Standing) (here name : ℕ) (entry : Declaration) (next : Progress unit.External) → IfTyped P next
      → IfTyped P (declarable said s false here name entry next)
  declarable-typed P said s here name entry next h = keeps-typed P _ 2 name _ (keeps-typed P _ 3 said.first _ (keeps-typed P _ 5 here _ (keeps-typed P _ 36 name next h)))

  function-spanned : (said : Specified) (s : Standing) (span : Span) (declarator : Declarator) (body : Stmt) (constants : List Tree) (heading : Heading) (entry : Declaration)
      → IfTyped (HasSpan span) (function_defined setting said s span declarator body constants heading entry)
  function-spanned said s span declarator body constants heading entry =
      keeps-typed (HasSpan span) (not (is_defined (number_here s entry) s.linked)) 2 (name_at declarator) _
      (declarable-typed (HasSpan span) said s (declarator_span declarator).first (name_at declarator) entry _
      (keeps-typed (HasSpan span) (fits_main entry) 36 (name_at declarator) _
      (further-typed (λ it. Unit {0}) (HasSpan span) (typed_body setting (body_within heading.kind) (function_here s entry) heading.scope body) _
      (any-typed (typed_body setting (body_within heading.kind) (function_here s entry) heading.scope body))
      (λ t made any. there (HasSpan span) t (external_of span constants (defines_function (number_here s entry) (numbers_of heading.parameters) made)) refl))))

  external-spanned : (s : Standing) (one : External) → IfTyped (HasSpan (external_span one)) (typed_external setting s one)
  external-spanned s (tree.external span declaration) =
      further-typed (λ it. Unit {0}) (HasSpan span) (typed_declaration setting s declaration) _ (any-typed (typed_declaration setting s declaration))
      (λ t it any. there (HasSpan span) t (external_of span it.constants (declares (declarators_of it.locals) (expressions_of it.locals))) refl)
  external-spanned s (tree.definition span specifiers declarator body) =
      collecting-typed (HasSpan span) s (specified setting of_definition false s.known specifiers) _ (λ t constants said.
      collecting-typed (HasSpan span) t (typed_heading setting t.known said.kind declarator) _ (λ u more heading.
      function-spanned said u span declarator body (constants ++ more) heading (entry_of setting u.known said.storage (name_at declarator) heading.kind)))

  abbrev HaveSpans : List External → List unit.External → Type 0
  HaveSpans externals made = map (λ (one : unit.External). one.span) made ≡ map external_span externals

  externals-spanned : (s : Standing) (all : List External) → IfTyped (HaveSpans all) (typed_externals setting s all)
  externals-spanned s [] = there (HaveSpans []) s [] refl
  externals-spanned s (first ∷ others) =
      further-typed (HasSpan (external_span first)) (HaveSpans (first ∷ others)) (typed_external setting s first) _ (external-spanned s first) (λ t made is.
      further-typed (HaveSpans others) (HaveSpans (first ∷ others)) (typed_externals setting t others) _ (externals-spanned t others) (λ u more are.
      there (HaveSpans (first ∷ others)) u (made ∷ more)
      (ap (λ (span : Span). span ∷ map (λ (one : unit.External). one.span) more) is ∙ ap (λ list. external_span first ∷ list) are)))

unit-spanned : (externals : List External) (progress : Progress (List unit.External)) → IfTyped (λ made. map (λ (one : unit.External). one.span) made ≡ map external_span externals) progress
    → (known : Known) (one : TypedUnit) → unit_of progress ≡ given known one → map (λ (it : unit.External). it.span) one.externals ≡ map external_span externals
unfolding IfTyped
unit-spanned externals (goes_on behind all) h known one e =
    let same : record { declared = with_whole_kinds behind.linked 0 behind.known.declared; externals = all } ≡ one = cc in
    subst (λ (it : TypedUnit). map (λ (one : unit.External). one.span) it.externals ≡ map external_span externals) same h
unit-spanned externals (stops rule at) h known one e = absurd (cc)

pub externals-have-spans : (shapes : List Shape) (tokens : List CToken) (externals : List External) (known : Known) (one : TypedUnit) → typed_unit shapes tokens externals ≡ given known one
    → map (λ (it : unit.External). it.span) one.externals ≡ map external_span externals
externals-have-spans shapes tokens externals known one e =
    unit-spanned externals (typed_externals (unit_setting tokens externals) (beginning shapes) externals) (externals-spanned (unit_setting tokens externals) (beginning shapes) externals) known one e
