-- Where a rule of a function definition or a unit is broken: at a token of its own.
use Rattle.std.specs.Prelude.{◌≡◌, ℕ, ◌+◌, ◌<◌, ◌≤◌, Bool, true, false, ◌&&◌, not, List, [], ◌∷◌, ◌++◌, Option, Some, None, is_some, refl}
use Rattle.std.proofs.Common.{subst, arith}
use Rattle.dm_name_map.specs.Numbers.{Numbers}
use Rattle.dm_token.specs.declared.place.Span.{Span}
use Rattle.dm_token.specs.declared.token.CToken.{CToken}
use Rattle.dm_type.specs.declared.shape.Shape.{Shape}
use Rattle.dm_type.specs.CTypes.{CType}
use Rattle.dm_type.specs.TableLaws.{injected}
use Rattle.dm_syn.specs.declared.declared.Declared.{Declared}
use Rattle.dm_syn.specs.Sources.{Source}
use Rattle.dm_syn.specs.Spans.{expr_span, specifiers_span, declarator_span, declaration_span, parameter_span, parameters_after, pointers_after, direct_after, stmt_span, block_items_after, external_span}
use Rattle.dm_syn.specs.Scopes.{parameter_declares, external_declares}
use Rattle.dm_syn.specs.Grammar.{IsDeclarator, IsDirect, AreParameters, AreMoreParameters, IsParameter}
use Rattle.dm_syn.specs.Statements.{own_parameters, own_in_direct, own_in_pointers, IsStmt, IsExternal}
use Rattle.dm_syn.specs.Trees.{Declarator, Direct, Parameters, Parameter, Stmt, External}
use Rattle.dm_syn.specs.Trees as tree
use Rattle.dm_tree.specs.Trees as label
use Rattle.dm_tree.specs.Units.{Declaration, defines_function, declares}
use Rattle.dm_tree.specs.Units as unit
use Rattle.dm_typing.specs.Known.{Known, Setting, Outcome, given, with_it, obeys}
use Rattle.dm_typing.specs.Conversions.{is_complete}
use Rattle.dm_typing.specs.Specifiers.{elsewhere, of_definition}
use Rattle.dm_typing.specs.Sound.{BreaksWithin}
use Rattle.dm_typing.specs.Typing.{TypedParameter, parameter_of, parameter_at, entered, is_no_parameters, without_void}
use Rattle.dm_typing.proofs.PlaceLemmas.{Places, Plain, wider, after-places, with-places, obeys-places}
use Rattle.dm_typing.proofs.WholePlaceLemmas.{PlacedDeclarator, pointers-on, parameter-here, expr-placed, specifiers-placed, declarator-placed, direct-placed, parameters-placed, more-parameters-placed, parameter-placed}
use Rattle.dm_edecl.specs.Standing.{Standing, Progress, goes_on, stops, further, keeps, opened}
use Rattle.dm_edecl.specs.Linkages.{entry_of, function_here, number_here, is_defined}
use Rattle.dm_edecl.specs.Declaring.{Specified, specified, typed_declarator, name_at, fits_main, declarable, typed_declaration}
use Rattle.dm_edecl.specs.Statements.{Within, statement, typed_items_in}
use Rattle.dm_edecl.specs.Units.{is_only, may_be_defined, defined_parameter, defined_parameters, own_defined, Heading, innermost, typed_heading, numbers_of, body_within, typed_body, external_of, function_defined, typed_external, typed_externals, unit_setting, beginning, unit_of, typed_unit}
use Rattle.dm_edecl.specs.Placing.{StopsWithin, externals_after, AreExternals}
use Rattle.dm_edecl.proofs.PlacingLemmas.{stops-wider, further-within, collecting-within, keeps-within, closed-within, either-places, BeginsAt, specified-placed, declarator-typed, name-placed, declarable-within, declaration-placed}
use Rattle.dm_edecl.proofs.StatementPlacingLemmas.{stmt-placed, block-placed}

-- ---- the parameters at the name of a declarator

-- parameters that stand within some tokens
record StandWithin (source : Source) (least most : ℕ) (parameters : Parameters) : Type 0 where
  names : List Declared
  at : ℕ
  low : least ≤ at
  high : parameters_after at parameters ≤ most
  formed : AreParameters source names at parameters

-- so do those that stand nearest to a name so far, if any do
abbrev NearestWithin : Source → ℕ → ℕ → Option Parameters → Type 0
NearestWithin source least most nearest = (parameters : Parameters) → nearest ≡ Some parameters → StandWithin source least most parameters

past-pointers : (source : Source) (least most : ℕ) (consts : List ℕ) (nearest : Option Parameters) → NearestWithin source least most nearest
    → NearestWithin source least most (own_in_pointers consts nearest)
past-pointers source least most [] nearest near = near
past-pointers source least most (many ∷ others) nearest near = λ parameters e. absurd (cc)

module _ (setting : Setting) (least most : ℕ) where
  mutual
    unfolding IsDeclarator IsDirect

    own-within : (names : List Declared) (of_parameter : Bool) (nearest : Option Parameters) (declarator : Declarator) → IsDeclarator setting.source names of_parameter declarator
        → least ≤ (declarator_span declarator).first → (declarator_span declarator).after ≤ most → NearestWithin setting.source least most nearest
        → NearestWithin setting.source least most (own_parameters nearest declarator)
    own-within names of_parameter nearest (tree.shaped span consts direct) h low high near =
        let begins = pointers-on span.first consts in
        let ends = h.2 in
        own-in-direct _ of_parameter (pointers_after span.first consts) (own_in_pointers consts nearest) direct h.1 (omega (arith, low, begins)) (omega (arith, high, ends))
        (past-pointers setting.source least most consts nearest near)

    own-in-direct : (names : List Declared) (of_parameter : Bool) (at : ℕ) (nearest : Option Parameters) (direct : Direct) → IsDirect setting.source names of_parameter at direct
        → least ≤ at → direct_after at direct ≤ most → NearestWithin setting.source least most nearest → NearestWithin setting.source least most (own_in_direct nearest direct)
    own-in-direct names of_parameter at nearest tree.absent h low high near = near
    own-in-direct names of_parameter at nearest (tree.declared name) h low high near = near
    own-in-direct names of_parameter at nearest (tree.enclosed declarator) h low high near =
        let begins = h.2 in own-within _ of_parameter nearest declarator h.3 (omega (arith, low, begins)) (omega (arith, high)) near
    own-in-direct names of_parameter at nearest (tree.array direct) h low high near =
        own-in-direct _ of_parameter at None direct h.0 low (omega (arith, high)) (λ parameters e. absurd (cc))
    own-in-direct names of_parameter at nearest (tree.sized direct length) h low high near =
        let some = (expr-placed setting _ (expr_span length) length h.3).0 in
        let begins = h.2 in own-in-direct _ of_parameter at None direct h.0 low (omega (arith, high, begins, some)) (λ parameters e. absurd (cc))
    own-in-direct names of_parameter at nearest (tree.function direct parameters) h low high near =
        let begins = (direct-placed setting _ of_parameter at direct h.0).on in
        let ends = (parameters-placed setting _ (direct_after at direct + 1) parameters h.2).0 in
        own-in-direct _ of_parameter at (Some parameters) direct h.0 low (omega (arith, high, ends))
        (λ own e. subst (StandWithin setting.source least most) (injected parameters own e)
        (record { names = _; at = direct_after at direct + 1; low = omega (arith, low, begins); high = omega (arith, high); formed = h.2 }))

-- ---- the parameters of a function definition

module _ (setting : Setting) where
  one-defined : (names : List Declared) (alone : Bool) (known : Known) (parameter : Parameter) → IsParameter setting.source names parameter
      → Places (parameter_span parameter).first (parameter_span parameter).after Plain (defined_parameter setting alone known parameter)
  unfolding IsParameter
  one-defined names alone known (tree.parameter span specifiers declarator) h =
      let whole = parameter-placed setting names (tree.parameter span specifiers declarator) h in
      let shape = declarator-placed setting _ true declarator h.3 in
      let words = (specifiers-placed setting names elsewhere false specifiers h.1).0 in
      let on = whole.0 in
      let starts = h.0 in
      let follows = h.2 in
      let ends = h.4 in
      let here = parameter-here span declarator on (omega (arith, starts, follows, words)) (omega (arith, ends)) shape.shown in
      after-places span.first span.after span.first span.after Plain Plain (parameter_of setting true known (tree.parameter span specifiers declarator)) _ (omega arith) (omega arith)
      (whole.1 true known)
      (λ behind one any. let fine : Outcome TypedParameter = given behind one in
      either-places span.first span.after (alone && is_no_parameters (one ∷ [])) fine (may_be_defined behind span declarator one fine) tt
      (obeys-places span.first span.after Plain (is_complete behind one.kind) 5 (parameter_at span declarator) (obeys (is_some one.declared) 35 span.first fine) here.0 here.1
      (obeys-places span.first span.after Plain (is_some one.declared) 35 span.first fine (omega arith) on tt)))

  -- a parameter, and others behind it
  defined-from : (at end : ℕ) (alone : Bool) (known : Known) (first : Parameter) (others : Parameters) → at ≤ (parameter_span first).first
      → (parameter_span first).first < (parameter_span first).after → (parameter_span first).after ≤ end
      → ((alone : Bool) (known : Known) → Places (parameter_span first).first (parameter_span first).after Plain (defined_parameter setting alone known first))
      → ((known : Known) → Places (parameter_span first).after end Plain (defined_parameters setting false known others))
      → Places at end Plain (defined_parameters setting alone known (tree.more_parameters first others))
  defined-from at end alone known first others low on high one rest =
      let span = parameter_span first in
      after-places span.first span.after at end Plain Plain (defined_parameter setting (alone && is_only others) known first)
      (λ then_known made. with_it (defined_parameters setting false then_known others) (λ behind more. made ∷ more)) low high (one (alone && is_only others) known)
      (λ then_known made any. with-places span.after end at end Plain Plain (defined_parameters setting false then_known others) (λ behind more. made ∷ more) (omega (arith, low, on)) (omega arith)
      (rest then_known) (λ behind more all. tt))

  more-defined : (names : List Declared) (at : ℕ) (known : Known) (parameters : Parameters) → AreMoreParameters setting.source names at parameters
      → Places at (parameters_after at parameters) Plain (defined_parameters setting false known parameters)
  unfolding AreMoreParameters
  more-defined names at known tree.no_parameters h = tt
  more-defined names at known (tree.more_parameters first others) h =
      let starts = h.1 in
      defined-from at (parameters_after (parameter_span first).after others) false known first others (omega (arith, starts)) (parameter-placed setting _ first h.2).0
      (more-parameters-placed setting _ _ others h.3).0 (λ alone before. one-defined _ alone before first h.2) (λ before. more-defined (parameter_declares setting.source first ++ names) _ before others h.3)

  all-defined : (names : List Declared) (at : ℕ) (known : Known) (parameters : Parameters) → AreParameters setting.source names at parameters
      → Places at (parameters_after at parameters) Plain (defined_parameters setting true known parameters)
  unfolding AreParameters
  all-defined names at known tree.no_parameters h = tt
  all-defined names at known (tree.more_parameters first others) h =
      let starts = h.0 in
      defined-from at (parameters_after (parameter_span first).after others) true known first others (omega (arith, starts)) (parameter-placed setting _ first h.1).0
      (more-parameters-placed setting _ _ others h.2).0 (λ alone before. one-defined _ alone before first h.1) (λ before. more-defined (parameter_declares setting.source first ++ names) _ before others h.2)

  own-placed : (first behind : ℕ) (known : Known) (own : Option Parameters) → NearestWithin setting.source first behind own → Places first behind Plain (own_defined setting known own)
  own-placed first behind known None near = tt
  own-placed first behind known (Some parameters) near =
      let it = near parameters refl in
      wider it.at (parameters_after it.at parameters) first behind Plain Plain (defined_parameters setting true (entered known) parameters) it.low it.high (λ made any. tt)
      (all-defined it.names it.at (entered known) parameters it.formed)

  heading-placed : (names : List Declared) (declarator : Declarator) → IsDeclarator setting.source names false declarator → PlacedDeclarator setting declarator → (known : Known) (base : CType)
      → Places (declarator_span declarator).first (declarator_span declarator).after Plain (typed_heading setting known base declarator)
  heading-placed names declarator is shape known base =
      let span = declarator_span declarator in
      let own = own_parameters None declarator in
      after-places span.first span.after span.first span.after Plain Plain (own_defined setting known own) _ (omega arith) (omega arith)
      (own-placed span.first span.after known own (own-within setting span.first span.after names false None declarator is (omega arith) (omega arith) (λ parameters e. absurd (cc))))
      (λ inside parameters any. with-places span.first span.after span.first span.after Plain Plain (typed_declarator setting known base declarator)
      (λ (behind : Known) kind. record { kind = kind; parameters = without_void parameters; scope = innermost inside.scopes }) (omega arith) (omega arith)
      (declarator-typed setting declarator shape known base) (λ behind kind all. tt))

  -- ---- function definitions

  body-within : (names : List Declared) (body : Stmt) → IsStmt setting.source names body → (within : Within) (s : Standing) (scope : Numbers)
      → StopsWithin (stmt_span body).first (stmt_span body).after (typed_body setting within s scope body)
  unfolding IsStmt
  body-within names (tree.block span items) h within s scope =
      let all = block-placed setting _ (span.first + 1) items _ h.1.1 in
      let end = block_items_after (span.first + 1) items in
      let ends = h.2 in
      closed-within span.first span.after s (further (typed_items_in setting within (opened scope s) items) (λ t trees. goes_on t (statement setting span label.block trees)))
      (further-within span.first span.after (typed_items_in setting within (opened scope s) items) (λ t trees. goes_on t (statement setting span label.block trees))
      (stops-wider (span.first + 1) end span.first span.after (typed_items_in setting within (opened scope s) items) (omega arith) (omega (arith, ends)) (all.1 within (opened scope s)))
      (λ t trees. tt))
  body-within names body h within s scope = (stmt-placed setting names body h).1 within s

  definition-within : (said : Specified) (s : Standing) (span : Span) (declarator : Declarator) (names : List Declared) (body : Stmt) (constants : List label.Tree) (heading : Heading) (entry : Declaration)
      → span.first ≤ said.first → said.first < span.after → span.first ≤ (declarator_span declarator).first → (declarator_span declarator).first < span.after
      → span.first ≤ name_at declarator → name_at declarator < span.after → span.first ≤ (stmt_span body).first → (stmt_span body).after ≤ span.after → IsStmt setting.source names body
      → StopsWithin span.first span.after (function_defined setting said s span declarator body constants heading entry)
  definition-within said s span declarator names body constants heading entry begins below low high from to after-low after-high is =
      let number = number_here s entry in
      let inside = function_here s entry in
      let made : Standing → label.Tree → Progress unit.External =
      λ t tree. goes_on t (external_of span constants (defines_function number (numbers_of heading.parameters) tree)) in
      let rest = further (typed_body setting (body_within heading.kind) inside heading.scope body) made in
      let whole = keeps (fits_main entry) 36 (name_at declarator) rest in
      keeps-within span.first span.after (not (is_defined number s.linked)) 2 (name_at declarator)
      (declarable said s false (declarator_span declarator).first (name_at declarator) entry whole) from to
      (declarable-within setting said span.first span.after begins below s false (declarator_span declarator).first (name_at declarator) entry whole low high from to
      (keeps-within span.first span.after (fits_main entry) 36 (name_at declarator) rest from to
      (further-within span.first span.after (typed_body setting (body_within heading.kind) inside heading.scope body) made
      (stops-wider (stmt_span body).first (stmt_span body).after span.first span.after (typed_body setting (body_within heading.kind) inside heading.scope body) after-low after-high
      (body-within names body is (body_within heading.kind) inside heading.scope))
      (λ t tree. tt))))

  -- ---- external declarations

  pub external-placed : (names : List Declared) (external : External) → IsExternal setting.source names external
      → ((external_span external).first < (external_span external).after)
      × ((s : Standing) → StopsWithin (external_span external).first (external_span external).after (typed_external setting s external))
  unfolding IsExternal
  external-placed names (tree.external span declaration) h =
      let inner = declaration_span declaration in
      let one = declaration-placed setting names declaration h.1 in
      let some = one.0 in
      let starts = h.0 in
      let ends = h.2 in (
        omega (arith, starts, some, ends),
        λ s. further-within span.first span.after (typed_declaration setting s declaration) _
            (stops-wider inner.first inner.after span.first span.after (typed_declaration setting s declaration) (omega (arith, starts)) (omega (arith, ends)) (one.1 s)) (λ t it. tt),
      )
  external-placed names (tree.definition span specifiers declarator body) h =
      let words = specifiers_span specifiers in
      let inner = declarator_span declarator in
      let shape = declarator-placed setting _ false declarator h.3 in
      let name = name-placed setting declarator shape h.4 in
      let some = (specifiers-placed setting names of_definition false specifiers h.1).0 in
      let most = (stmt-placed setting _ body h.8).0 in
      let from = name.0 in
      let to = name.1 in
      let starts = h.0 in
      let follows = h.2 in
      let then_follows = h.6 in
      let ends = h.9 in
      let low : span.first ≤ words.first = omega (arith, starts) in
      let mid : words.after ≤ inner.first = omega (arith, follows) in
      let high : inner.after < span.after = omega (arith, then_follows, most, ends) in (
        omega (arith, low, some, mid, from, to, high),
        λ s. collecting-within words.first words.after span.first span.after (BeginsAt words.first) s (specified setting of_definition false s.known specifiers) _
            low (omega (arith, mid, from, to, high)) (specified-placed setting names of_definition false specifiers h.1 s.known)
            (λ t constants said begins. collecting-within inner.first inner.after span.first span.after Plain t (typed_heading setting t.known said.kind declarator) _
            (omega (arith, low, some, mid)) (omega (arith, high)) (heading-placed _ declarator h.3 shape t.known said.kind)
            (λ u more heading any. definition-within said u span declarator _ body (constants ++ more) heading (entry_of setting u.known said.storage (name_at declarator) heading.kind)
            (omega (arith, begins, low)) (omega (arith, begins, some, mid, from, to, high)) (omega (arith, low, some, mid)) (omega (arith, from, to, high)) (omega (arith, low, some, mid, from))
            (omega (arith, to, high)) (omega (arith, low, some, mid, from, to, then_follows)) (omega (arith, ends)) h.8)),
      )

  externals-placed : (names : List Declared) (at : ℕ) (externals : List External) → AreExternals setting.source names at externals
      → (at ≤ externals_after at externals) × ((s : Standing) → StopsWithin at (externals_after at externals) (typed_externals setting s externals))
  externals-placed names at [] h = (omega arith, λ s. tt)
  externals-placed names at (first ∷ others) h =
      let span = external_span first in
      let end = externals_after span.after others in
      let one = external-placed names first h.1 in
      let rest = externals-placed (external_declares setting.source first ++ names) span.after others h.2 in
      let some = one.0 in
      let more = rest.0 in
      let starts = h.0 in (
        omega (arith, starts, some, more),
        λ s. further-within at end (typed_external setting s first) _ (stops-wider span.first span.after at end (typed_external setting s first) (omega (arith, starts)) more (one.1 s))
            (λ t made. further-within at end (typed_externals setting t others) (λ u list. goes_on u (made ∷ list))
            (stops-wider span.after end at end (typed_externals setting t others) (omega (arith, starts, some)) (omega arith) (rest.1 t)) (λ u list. tt)),
      )

-- ---- units

within-unit : (first behind : ℕ) (progress : Progress (List unit.External)) → StopsWithin first behind progress → BreaksWithin first behind (unit_of progress)
within-unit first behind (goes_on t externals) h = tt
within-unit first behind (stops rule at) h = h

pub unit-within : (shapes : List Shape) (tokens : List CToken) (externals : List External) → AreExternals (unit_setting tokens externals).source [] 0 externals
    → BreaksWithin 0 (externals_after 0 externals) (typed_unit shapes tokens externals)
unit-within shapes tokens externals are =
    let setting = unit_setting tokens externals in
    within-unit 0 (externals_after 0 externals) (typed_externals setting (beginning shapes) externals) ((externals-placed setting [] 0 externals are).1 (beginning shapes))
