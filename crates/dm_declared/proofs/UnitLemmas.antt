-- Units declare each automatic object once.
use Rattle.std.specs.Prelude.{◌≡◌, refl, ℕ, ◌≤◌, Bool, true, false, IsSome, IfSome, All, List, [], ◌∷◌, ◌++◌, length, Option, Some, None, slice_get}
use Rattle.std.specs.List.{AllByRecursion}
use Rattle.std.proofs.Common.{sym, ap, ◌∙◌, subst, true≢false, arith}
use Rattle.std.proofs.lemmas.List.Elements.{All-head, All-tail}
use Rattle.dm_token.specs.declared.place.Span.{Span}
use Rattle.dm_token.specs.declared.token.CToken.{CToken}
use Rattle.dm_type.specs.declared.shape.Shape.{Shape}
use Rattle.dm_type.specs.CTypes.{CType, function as function_type}
use Rattle.dm_type.specs.Tables.{Table}
use Rattle.dm_name_map.specs.Numbers.{Numbers}
use Rattle.dm_syn.specs.Spans.{declarator_span}
use Rattle.dm_syn.specs.Trees.{Declarator, Stmt, External}
use Rattle.dm_syn.specs.Trees as tree
use Rattle.dm_tree.specs.Trees.{Tree, is_statement}
use Rattle.dm_tree.specs.Trees as label
use Rattle.dm_tree.specs.Scenes.{Scene}
use Rattle.dm_tree.specs.Typing.{body_scene, file_scene, DefinitionFits, FunctionFits, FormFits, ExternalFits, IsWellTypedUnit}
use Rattle.dm_tree.specs.Units.{Declaration, declares, defines_function, TypedUnit}
use Rattle.dm_tree.specs.Units as unit
use Rattle.dm_meaning.specs.Statements.{is_automatic_sort}
use Rattle.dm_meaning.specs.Wholes.{is_whole}
use Rattle.dm_meaning.proofs.WholeLemmas.{typed-whole}
use Rattle.dm_effect.specs.Scoped.{is_automatic}
use Rattle.dm_initialised.specs.Units.{numbers_below}
use Rattle.dm_initialised.specs.Once.{numbers_of_form, numbers_of_functions, FormSwitchesDeclareNothing, IsDeclaredOnce}
use Rattle.dm_typing.specs.Known.{Known, Setting, Outcome, given, broken}
use Rattle.dm_typing.specs.Specifiers.{of_definition}
use Rattle.dm_edecl.specs.Standing.{Standing, Progress, goes_on, stops, opened}
use Rattle.dm_edecl.specs.Linkages.{entry_of, function_here, number_here, named_here, with_whole_kinds}
use Rattle.dm_edecl.specs.Declaring.{Specified, name_at, declarable, declarators_of, expressions_of, typed_declaration}
use Rattle.dm_edecl.specs.Statements.{Within, statement, typed_stmt, typed_items_in}
use Rattle.dm_edecl.specs.Units.{Heading, numbers_of, body_within, typed_body, external_of, function_defined, typed_external, typed_externals, unit_setting, beginning, unit_of, typed_unit}
use Rattle.dm_scoped.proofs.ScopeLemmas.{Grown, SeesIn, in-changes}
use Rattle.dm_scoped.proofs.StepLemmas.{Fits, fits-before, IsScopedIn, Gives, Any, all-pass}
use Rattle.dm_scoped.proofs.StandingLemmas.{has-static, none-pass, Holds, Leads, moves-none, holds-wider, leads-so, leads-from, further-leads, keeps-leads, collecting-leads, opened-holds, closed-leads, named-has, function-moves}
use Rattle.dm_scoped.proofs.DeclarationLemmas.{entry-linked, entry-in-file, specified-gives, behind_declaration, IsFineDeclaration, declaration-leads}
use Rattle.dm_scoped.proofs.StatementLemmas.{same, anything, stmt-leads}
use Rattle.dm_scoped.proofs.HeadingLemmas.{IsScopedHeading, heading-gives}
use Rattle.dm_scoped.proofs.UnitLemmas.{no-more, in-file, none-more, whole-fits, beginning-holds}
use Rattle.dm_declared.proofs.NumberLemmas.{Rises, wider, joined, rising_once}
use Rattle.dm_declared.proofs.NewLemmas.{length_grown, Claim, IsNewIn, lasts, both_lead}
use Rattle.dm_declared.proofs.StatementLemmas.{StatedGoes, ListGoes, stated_wide, ends, block_new, stmt_makes, items_make}
use Rattle.dm_declared.proofs.HeadingLemmas.{HeadingRises, heading_gives}

-- ---- claims

abbrev HasWholeBody : unit.ExternalForm → Type 0
HasWholeBody (declares declarators expressions) = Unit {0}
HasWholeBody (defines_function f parameters body) = is_whole body ≡ true

abbrev HaveWholeBodies : List unit.External → Type 0
HaveWholeBodies all = AllByRecursion (λ (one : unit.External). HasWholeBody one.form) all

abbrev ExternalGoes : Claim unit.External
ExternalGoes automatic low one high = HasWholeBody one.form → Rises automatic low (numbers_of_form one.form) high × FormSwitchesDeclareNothing one.form

abbrev ExternalsGo : Claim (List unit.External)
ExternalsGo automatic low all high =
    HaveWholeBodies all → Rises automatic low (numbers_of_functions all) high × AllByRecursion (λ (one : unit.External). FormSwitchesDeclareNothing one.form) all

-- what is typed is there, where nothing passes
closes : {A : Type 0} (P : Claim A) (low : ℕ) (s : Standing) (it : A) → Holds none-pass s → IsNewIn P low s.known.declared it → Leads (same none-pass) (IsNewIn P low) s (goes_on s it)
closes P low s it holds h = leads-so (same none-pass) (IsNewIn P low) s s it (moves-none none-pass s holds) h

-- two claims on what is given
gives_two : {A : Type 0} (seen : ℕ → Bool) (P Q : List Declaration → A → Type 0) (known : Known) (outcome : Outcome A) → Gives seen P known outcome → Gives seen Q known outcome
    → Gives seen (λ declared it. P declared it × Q declared it) known outcome
unfolding Gives
gives_two seen P Q known (given behind it) h g = (h.0, (h.1, g.1))
gives_two seen P Q known (broken rule at) h g = tt

-- ---- functions

declares_new : (low : ℕ) (declared : List Declaration) (span : Span) (constants expressions : List Tree) (declarators : List label.Declarator) → low ≤ length declared
    → IsNewIn ExternalGoes low declared (external_of span constants (declares declarators expressions))
unfolding IsNewIn
declares_new low declared span constants expressions declarators l automatic fits whole = (l, tt)

function_new : (low : ℕ) (before start declared : List Declaration) (span : Span) (constants : List Tree) (f : ℕ) (heading : Heading) (body : Tree) → Grown before start → HeadingRises low before heading
    → IsNewIn StatedGoes (length start) declared body → IsNewIn ExternalGoes low declared (external_of span constants (defines_function f (numbers_of heading.parameters) body))
unfolding IsNewIn
function_new low before start declared span constants f heading body grown rises new automatic fits whole =
    let g = (new automatic fits).0 whole in
    let front = wider automatic low low (length before) (length start) (numbers_of heading.parameters) (omega arith) (length_grown before start grown) (rises automatic) in
    (joined automatic low (length start) (length declared) (numbers_of heading.parameters) (numbers_below body) front g.0, g.1)

declared_function : (low : ℕ) (said : Specified) (s : Standing) (entry : Declaration) (here name : ℕ) (next : Progress unit.External) → Leads (same none-pass) (IsNewIn ExternalGoes low) s next
    → Leads (same none-pass) (IsNewIn ExternalGoes low) s (declarable said s false here name entry next)
declared_function low said s entry here name next h =
    let P = IsNewIn ExternalGoes low in
    keeps-leads (same none-pass) P s _ 2 name _ (keeps-leads (same none-pass) P s _ 3 said.first _
    (keeps-leads (same none-pass) P s _ 5 here _ (keeps-leads (same none-pass) P s _ 36 name next h)))

module _ (setting : Setting) where
  -- a statement that isn't a block
  plain_body : (within : Within) (s : Standing) (body : Stmt) → Holds none-pass s → Leads (same none-pass) (IsNewIn StatedGoes (length s.known.declared)) s (typed_stmt setting within s body)
  plain_body within s body holds =
      both_lead (same none-pass) anything (IsScopedIn none-pass) (IsNewIn StatedGoes (length s.known.declared)) s (typed_stmt setting within s body) (stmt-leads setting none-pass within s body holds)
      (stmt_makes setting within s body (holds-wider none-pass all-pass s (λ d no. refl) holds))

  -- a body in the scope of its parameters
  body_makes : (within : Within) (s : Standing) (scope : Numbers) (body : Stmt) → Holds none-pass s → SeesIn s.known.declared all-pass scope
      → Leads (same none-pass) (IsNewIn StatedGoes (length s.known.declared)) s (typed_body setting within s scope body)
  body_makes within s scope (tree.block span items) holds stands =
      let low = length s.known.declared in
      closed-leads none-pass anything (IsNewIn StatedGoes low) s scope _ (lasts StatedGoes low stated_wide) holds
      (further-leads anything (IsNewIn ListGoes low) anything (IsNewIn StatedGoes low) (opened scope s) (typed_items_in setting within (opened scope s) items) _
      (items_make setting within (opened scope s) items (opened-holds none-pass all-pass s scope (λ d no. refl) stands holds)) (λ t list moved new.
      ends StatedGoes low t (statement setting span label.block list) moved.holds (block_new setting low t.known.declared span list new)))
  body_makes within s scope (tree.expression span expr) holds stands = plain_body within s (tree.expression span expr) holds
  body_makes within s scope (tree.if_only span condition body) holds stands = plain_body within s (tree.if_only span condition body) holds
  body_makes within s scope (tree.if_else span condition body other) holds stands = plain_body within s (tree.if_else span condition body other) holds
  body_makes within s scope (tree.switch span operand items) holds stands = plain_body within s (tree.switch span operand items) holds
  body_makes within s scope (tree.while span condition body) holds stands = plain_body within s (tree.while span condition body) holds
  body_makes within s scope (tree.do_while span body condition) holds stands = plain_body within s (tree.do_while span body condition) holds
  body_makes within s scope (tree.for_loop span start condition step body) holds stands = plain_body within s (tree.for_loop span start condition step body) holds
  body_makes within s scope (tree.break span) holds stands = plain_body within s (tree.break span) holds
  body_makes within s scope (tree.continue span) holds stands = plain_body within s (tree.continue span) holds
  body_makes within s scope (tree.return span expr) holds stands = plain_body within s (tree.return span expr) holds

  function_makes : (low : ℕ) (said : Specified) (s : Standing) (span : Span) (declarator : Declarator) (body : Stmt) (constants : List Tree) (heading : Heading) (kind : CType)
      → Holds none-pass s → length s.known.scopes ≡ 1 → IsScopedHeading s.known.declared heading → HeadingRises low s.known.declared heading
      → Leads (same none-pass) (IsNewIn ExternalGoes low) s
      (function_defined setting said s span declarator body constants heading (entry_of setting s.known said.storage (name_at declarator) kind))
  function_makes low said s span declarator body constants heading kind holds deep stands rises =
      let P = IsNewIn ExternalGoes low in
      let entry = entry_of setting s.known said.storage (name_at declarator) kind in
      let fixed = entry-in-file setting s.known said.storage (name_at declarator) kind deep in
      let never : is_automatic_sort entry.sort ≡ true → none-pass (number_here s entry) ≡ true = λ auto. absurd (true≢false (sym auto ∙ fixed)) in
      let linked = entry-linked setting s.known said.storage (name_at declarator) kind in
      let is = has-static (named_here s entry).declared (number_here s entry) (named-has none-pass none-pass (λ d no. no) s holds entry linked never) in
      let moved = function-moves none-pass none-pass (λ d no. no) s holds entry linked never is in
      let t = function_here s entry in
      keeps-leads (same none-pass) P s _ 2 (name_at declarator) _
      (declared_function low said s entry (declarator_span declarator).first (name_at declarator) _
      (keeps-leads (same none-pass) P s _ 36 (name_at declarator) _
      (leads-from none-pass (same none-pass) P s t _ moved
      (further-leads (same none-pass) (IsNewIn StatedGoes (length t.known.declared)) (same none-pass) P t (typed_body setting (body_within heading.kind) t heading.scope body) _
      (body_makes (body_within heading.kind) t heading.scope body moved.holds
      (in-changes s.known.declared t.known.declared _ all-pass heading.scope moved.grown (λ d h. refl) stands)) (λ u made went new.
      closes ExternalGoes low u _ went.holds
      (function_new low s.known.declared t.known.declared u.known.declared span constants (number_here s entry) heading made moved.grown rises new))))))

  -- ---- external declarations

  external_makes : (s : Standing) (one : External) → Holds none-pass s → length s.known.scopes ≡ 1
      → Leads (same none-pass) (IsNewIn ExternalGoes (length s.known.declared)) s (typed_external setting s one)
  external_makes s (tree.external span declaration) holds deep =
      let low = length s.known.declared in
      further-leads (behind_declaration no-more none-pass) (IsFineDeclaration no-more none-pass) (same none-pass) (IsNewIn ExternalGoes low) s (typed_declaration setting s declaration) _
      (declaration-leads setting 1 no-more (in-file setting) none-pass s declaration holds deep) (λ t one moved fine.
      closes ExternalGoes low t _ (subst (λ more. Holds more t) (none-more one.locals) moved.holds)
      (declares_new low t.known.declared span one.constants (expressions_of one.locals) (declarators_of one.locals) (length_grown s.known.declared t.known.declared moved.grown)))
  external_makes s (tree.definition span specifiers declarator body) holds deep =
      let low = length s.known.declared in
      let P = IsNewIn ExternalGoes low in
      collecting-leads none-pass Any (same none-pass) P s _ _ holds (specified-gives setting none-pass of_definition false s.known specifiers holds.sees) (λ t constants said moved any.
      collecting-leads none-pass (λ declared heading. IsScopedHeading declared heading × HeadingRises (length t.known.declared) declared heading) (same none-pass) P t _ _ moved.holds
      (gives_two none-pass IsScopedHeading (HeadingRises (length t.known.declared)) t.known _ (heading-gives setting t.known moved.holds.sees said.kind declarator) (heading_gives setting t.known moved.holds.sees said.kind declarator))
      (λ u more heading went stands.
      function_makes low said u span declarator body (constants ++ more) heading heading.kind went.holds (went.depth ∙ (moved.depth ∙ deep)) stands.0
      (λ automatic. wider automatic low (length t.known.declared) (length u.known.declared) (length u.known.declared) (numbers_of heading.parameters)
      (length_grown s.known.declared t.known.declared moved.grown) (omega arith) (stands.1 automatic))))

  none_new : (low : ℕ) (declared : List Declaration) → low ≤ length declared → IsNewIn ExternalsGo low declared []
  unfolding IsNewIn
  none_new low declared l automatic fits whole = (l, tt)

  more_new : (low : ℕ) (between declared : List Declaration) (made : unit.External) (more : List unit.External) → Grown between declared → IsNewIn ExternalGoes low between made
      → IsNewIn ExternalsGo (length between) declared more → IsNewIn ExternalsGo low declared (made ∷ more)
  unfolding IsNewIn
  more_new low between declared made more grown one others automatic fits whole =
      let g = one automatic (fits-before automatic between declared grown fits) whole.0 in
      let h = others automatic fits whole.1 in
      (joined automatic low (length between) (length declared) (numbers_of_form made.form) (numbers_of_functions more) g.0 h.0, (g.1, h.1))

  externals_make : (s : Standing) (all : List External) → Holds none-pass s → length s.known.scopes ≡ 1
      → Leads (same none-pass) (IsNewIn ExternalsGo (length s.known.declared)) s (typed_externals setting s all)
  externals_make s [] holds deep = closes ExternalsGo (length s.known.declared) s [] holds (none_new (length s.known.declared) s.known.declared (omega arith))
  externals_make s (first ∷ others) holds deep =
      let low = length s.known.declared in
      further-leads (same none-pass) (IsNewIn ExternalGoes low) (same none-pass) (IsNewIn ExternalsGo low) s (typed_external setting s first) _ (external_makes s first holds deep) (λ t made moved new.
      further-leads (same none-pass) (IsNewIn ExternalsGo (length t.known.declared)) (same none-pass) (IsNewIn ExternalsGo low) t (typed_externals setting t others) _
      (externals_make t others moved.holds (moved.depth ∙ deep)) (λ u more went rest.
      closes ExternalsGo low u (made ∷ more) went.holds (more_new low t.known.declared u.known.declared made more went.grown new rest)))

-- ---- units

definition_whole : (scene : Scene) (parameters : List ℕ) (body : Tree) (type : CType) → DefinitionFits scene parameters body type → is_whole body ≡ true
definition_whole scene parameters body (function_type result types) h = typed-whole (body_scene scene result) body h.2 (ap is_statement h.1)
definition_whole scene parameters body type h = absurd h

entry_whole : (scene : Scene) (parameters : List ℕ) (body : Tree) (found : Option Declaration) → IfSome found (FunctionFits scene parameters body) → IsSome found → is_whole body ≡ true
entry_whole scene parameters body None h is = absurd (cc)
entry_whole scene parameters body (Some entry) h is = definition_whole scene parameters body entry.kind h.1

form_whole : (scene : Scene) (form : unit.ExternalForm) → FormFits scene form → HasWholeBody form
form_whole scene (declares declarators expressions) h = tt
form_whole scene (defines_function f parameters body) h = entry_whole scene parameters body (slice_get scene.declared f) h.0 h.1

forms_whole : (scene : Scene) (all : List unit.External) → All (ExternalFits scene) all → HaveWholeBodies all
forms_whole scene [] h = tt
forms_whole scene (one ∷ others) h = (form_whole scene one.form (All-head (ExternalFits scene) one others h).2, forms_whole scene others (All-tail (ExternalFits scene) one others h))

unit_once : (s : Standing) (progress : Progress (List unit.External)) → Leads (same none-pass) (IsNewIn ExternalsGo 0) s progress
    → (known : Known) (types : Table) (one : TypedUnit) → unit_of progress ≡ given known one → IsWellTypedUnit types one → IsDeclaredOnce one
unfolding Leads Fits IsNewIn
unit_once s (goes_on behind all) h known types one e typed =
    let entries = with_whole_kinds behind.linked 0 behind.known.declared in
    let same_unit : record { declared = entries; externals = all } ≡ one = cc in
    let well : IsWellTypedUnit types (record { declared = entries; externals = all }) = subst (IsWellTypedUnit types) (sym same_unit) typed in
    let g = h.1 (is_automatic entries) (λ d entry is. whole-fits behind.linked 0 behind.known.declared d entry is) (forms_whole (file_scene types entries) all well.externals) in
    subst IsDeclaredOnce same_unit (record { once = rising_once (is_automatic entries) 0 (length behind.known.declared) (numbers_of_functions all) g.0; items = g.1 })
unit_once s (stops rule at) h known types one e typed = absurd (cc)

pub units_once : (shapes : List Shape) (tokens : List CToken) (externals : List External) (known : Known) (types : Table) (one : TypedUnit)
    → typed_unit shapes tokens externals ≡ given known one → IsWellTypedUnit types one → IsDeclaredOnce one
units_once shapes tokens externals known types one e typed =
    let setting = unit_setting tokens externals in
    unit_once (beginning shapes) (typed_externals setting (beginning shapes) externals) (externals_make setting (beginning shapes) externals (beginning-holds shapes) refl) known types one e typed
