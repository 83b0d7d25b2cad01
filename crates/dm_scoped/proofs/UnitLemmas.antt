-- The names in units are in scope.
use Rattle.std.specs.Prelude.{◌≡◌, ℕ, zero, suc, ◌+◌, Bool, true, false, not, List, [], ◌∷◌, ◌++◌, length, Some, slice_get, refl}
use Rattle.std.specs.List.{list_all}
use Rattle.std.proofs.Common.{sym, ap, ◌∙◌, subst}
use Rattle.dm_token.specs.declared.place.Span.{Span}
use Rattle.dm_token.specs.declared.token.CToken.{CToken}
use Rattle.dm_type.specs.declared.shape.Shape.{Shape}
use Rattle.dm_type.specs.CTypes.{CType}
use Rattle.dm_type.specs.TableLaws.{injected}
use Rattle.dm_name_map.specs.Numbers.{Numbers}
use Rattle.dm_syn.specs.Spans.{declarator_span}
use Rattle.dm_syn.specs.Trees.{Declarator, Stmt, External}
use Rattle.dm_syn.specs.Trees as tree
use Rattle.dm_tree.specs.Trees.{Tree}
use Rattle.dm_tree.specs.Trees as label
use Rattle.dm_tree.specs.Units.{Declaration, declares, defines_function, TypedUnit}
use Rattle.dm_tree.specs.Units as unit
use Rattle.dm_meaning.specs.Statements.{is_automatic_sort, is_automatic_declaration}
use Rattle.dm_effect.specs.Scoped.{is_in_scope, is_scoped, is_automatic, is_scoped_form, is_scoped_external, IsScopedUnit}
use Rattle.dm_typing.specs.Known.{Known, Setting, given}
use Rattle.dm_typing.specs.Specifiers.{of_definition}
use Rattle.dm_edecl.specs.Standing.{Linked, Standing, Progress, goes_on, stops, opened}
use Rattle.dm_edecl.specs.Linkages.{entry_of, function_here, number_here, named_here, with_whole_kinds}
use Rattle.dm_edecl.specs.Declaring.{Specified, name_at, declarable, Local, Declared, declarators_of, expressions_of, typed_declaration}
use Rattle.dm_edecl.specs.Statements.{Within, statement, typed_stmt, typed_items_in}
use Rattle.dm_edecl.specs.Units.{Heading, numbers_of, body_within, typed_body, external_of, function_defined, typed_external, typed_externals, unit_setting, beginning, unit_of, typed_unit}
use Rattle.dm_scoped.proofs.OverLemmas.{Every}
use Rattle.dm_scoped.proofs.ScopeLemmas.{Grown, Has, SeesIn, Sees, empty-sees, in-changes}
use Rattle.dm_scoped.proofs.StepLemmas.{Fits, fits-before, IsScopedIn, both-true, Any}
use Rattle.dm_scoped.proofs.StandingLemmas.{has-static, AreStatic, none-pass, Holds, Leads, leads-from, further-leads, keeps-leads, collecting-leads, opened-holds, closed-leads, named-has, function-moves}
use Rattle.dm_scoped.proofs.DeclarationLemmas.{entry-linked, entry-in-file, specified-gives, Extends, behind_all, AreFine, behind_declaration, IsFineDeclaration, declaration-leads}
use Rattle.dm_scoped.proofs.StatementLemmas.{AreScopedItems, behind_items, same, anything, there, tree-lasts, scoped-wider, block-scoped, items-lead, stmt-leads}
use Rattle.dm_scoped.proofs.HeadingLemmas.{IsScopedHeading, heading-gives}

-- ---- file scope, in which nothing passes

abbrev pub no-more : (ℕ → Bool) → ℕ → ℕ → Bool
no-more seen n = seen

pub in-file : (setting : Setting) → Extends setting 1 no-more
in-file setting = record {
  wider = λ seen n d h. h;
  takes = λ seen n known storage at kind deep auto. absurd (let no : true ≡ false = sym auto ∙ entry-in-file setting known storage at kind deep in cc);
}

pub none-more : (locals : List Local) → behind_all no-more none-pass locals ≡ none-pass
none-more [] = refl
none-more (first ∷ others) = none-more others

-- an external declaration is scoped in each unit that goes on from there
unfoldable IsScopedExternal : List Declaration → unit.External → Type 0
IsScopedExternal declared one = (automatic : ℕ → Bool) → Fits automatic declared → is_scoped_form automatic one.form ≡ true

external-later : (old new : List Declaration) (one : unit.External) → Grown old new → IsScopedExternal old one → IsScopedExternal new one
unfolding IsScopedExternal
external-later old new one grown h automatic fits = h automatic (fits-before automatic old new grown fits)

AreScopedExternals : List Declaration → List unit.External → Type 0
AreScopedExternals declared [] = Unit {0}
AreScopedExternals declared (one ∷ others) = IsScopedExternal declared one × AreScopedExternals declared others

-- ---- declarations

module _ (automatic : ℕ → Bool) (declared : List Declaration) (fits : Fits automatic declared) where
  static-not : (d : ℕ) → Has declared none-pass d → not (automatic d) ≡ true
  unfolding Fits
  static-not d has = let is = has-static declared d has in ap not (fits d is.entry is.at ∙ is.fixed)

  none-automatic : (locals : List Local) → AreFine no-more none-pass declared locals
      → list_all (λ (one : label.Declarator). not (automatic one.declared)) (declarators_of locals) ≡ true
  none-automatic [] h = refl
  none-automatic (first ∷ others) h =
      both-true (not (automatic first.declarator.declared)) _ (static-not first.declarator.declared h.0.2) (none-automatic others h.1)

  all-append : (some more : List Tree) → Every (IsScopedIn none-pass declared) some → list_all (is_scoped automatic []) more ≡ true → list_all (is_scoped automatic []) (some ++ more) ≡ true
  unfolding IsScopedIn
  all-append [] more h g = g
  all-append (tree ∷ some) more h g = both-true (is_scoped automatic [] tree) _ (h.0 automatic [] fits (λ d no. no)) (all-append some more h.1 g)

  all-scoped : (locals : List Local) → AreFine no-more none-pass declared locals → list_all (is_scoped automatic []) (expressions_of locals) ≡ true
  all-scoped [] h = refl
  all-scoped (first ∷ others) h = all-append first.expressions (expressions_of others) h.0.0 (all-scoped others h.1)

declares-scoped : (declared : List Declaration) (span : Span) (one : Declared) → AreFine no-more none-pass declared one.locals
    → IsScopedExternal declared (external_of span one.constants (declares (declarators_of one.locals) (expressions_of one.locals)))
unfolding IsScopedExternal
declares-scoped declared span one h automatic fits =
    both-true _ (list_all (is_scoped automatic []) (expressions_of one.locals)) (none-automatic automatic declared fits one.locals h) (all-scoped automatic declared fits one.locals h)

-- ---- functions

defines-scoped : (declared : List Declaration) (span : Span) (constants : List Tree) (f : ℕ) (parameters : List ℕ) (body : Tree) → IsScopedIn (is_in_scope parameters) declared body
    → IsScopedExternal declared (external_of span constants (defines_function f parameters body))
unfolding IsScopedExternal IsScopedIn
defines-scoped declared span constants f parameters body h automatic fits = h automatic parameters fits (λ d is. is)

declared-function : (said : Specified) (s : Standing) (entry : Declaration) (here name : ℕ) (next : Progress unit.External) → Leads (same none-pass) IsScopedExternal s next
    → Leads (same none-pass) IsScopedExternal s (declarable said s false here name entry next)
declared-function said s entry here name next h =
    keeps-leads (same none-pass) IsScopedExternal s _ 2 name _ (keeps-leads (same none-pass) IsScopedExternal s _ 3 said.first _
    (keeps-leads (same none-pass) IsScopedExternal s _ 5 here _ (keeps-leads (same none-pass) IsScopedExternal s _ 36 name next h)))

module _ (setting : Setting) where
  -- a statement that isn't a block
  plain-body : (pass : ℕ → Bool) (within : Within) (s : Standing) (body : Stmt) → Holds none-pass s → Leads (same none-pass) (IsScopedIn pass) s (typed_stmt setting within s body)
  unfolding Leads
  plain-body pass within s body holds = weaker-leads (typed_stmt setting within s body) (stmt-leads setting none-pass within s body holds)
    where
      weaker-leads : (progress : Progress Tree) → Leads (same none-pass) (IsScopedIn none-pass) s progress → Leads (same none-pass) (IsScopedIn pass) s progress
      weaker-leads (goes_on t made) h = (h.0, scoped-wider none-pass pass t.known.declared made (λ d no. absurd (cc)) h.1)
      weaker-leads (stops rule at) h = tt

  -- a body in the scope of its parameters
  body-leads : (pass : ℕ → Bool) (within : Within) (s : Standing) (scope : Numbers) (body : Stmt) → Holds none-pass s → SeesIn s.known.declared pass scope
      → Leads (same none-pass) (IsScopedIn pass) s (typed_body setting within s scope body)
  body-leads pass within s scope (tree.block span items) holds stands =
      closed-leads none-pass anything (IsScopedIn pass) s scope _ (tree-lasts pass) holds
      (further-leads (behind_items pass) (AreScopedItems pass) anything (IsScopedIn pass) (opened scope s) (typed_items_in setting within (opened scope s) items) _
      (items-lead setting pass within (opened scope s) items (opened-holds none-pass pass s scope (λ d no. absurd (cc)) stands holds)) (λ t trees moved h.
      there (behind_items pass trees) anything (IsScopedIn pass) t (statement setting span label.block trees) (λ d is. refl) moved.holds
      (block-scoped setting pass t.known.declared span trees h)))
  body-leads pass within s scope (tree.expression span expr) holds stands = plain-body pass within s (tree.expression span expr) holds
  body-leads pass within s scope (tree.if_only span condition body) holds stands = plain-body pass within s (tree.if_only span condition body) holds
  body-leads pass within s scope (tree.if_else span condition body other) holds stands = plain-body pass within s (tree.if_else span condition body other) holds
  body-leads pass within s scope (tree.switch span operand items) holds stands = plain-body pass within s (tree.switch span operand items) holds
  body-leads pass within s scope (tree.while span condition body) holds stands = plain-body pass within s (tree.while span condition body) holds
  body-leads pass within s scope (tree.do_while span body condition) holds stands = plain-body pass within s (tree.do_while span body condition) holds
  body-leads pass within s scope (tree.for_loop span start condition step body) holds stands = plain-body pass within s (tree.for_loop span start condition step body) holds
  body-leads pass within s scope (tree.break span) holds stands = plain-body pass within s (tree.break span) holds
  body-leads pass within s scope (tree.continue span) holds stands = plain-body pass within s (tree.continue span) holds
  body-leads pass within s scope (tree.return span expr) holds stands = plain-body pass within s (tree.return span expr) holds

  function-leads : (said : Specified) (s : Standing) (span : Span) (declarator : Declarator) (body : Stmt) (constants : List Tree) (heading : Heading) (kind : CType)
      → Holds none-pass s → length s.known.scopes ≡ 1 → IsScopedHeading s.known.declared heading
      → Leads (same none-pass) IsScopedExternal s
      (function_defined setting said s span declarator body constants heading (entry_of setting s.known said.storage (name_at declarator) kind))
  function-leads said s span declarator body constants heading kind holds deep stands =
      let entry = entry_of setting s.known said.storage (name_at declarator) kind in
      let fixed = entry-in-file setting s.known said.storage (name_at declarator) kind deep in
      let never : is_automatic_sort entry.sort ≡ true → none-pass (number_here s entry) ≡ true = λ auto. absurd (let no : true ≡ false = sym auto ∙ fixed in cc) in
      let linked = entry-linked setting s.known said.storage (name_at declarator) kind in
      let is = has-static (named_here s entry).declared (number_here s entry) (named-has none-pass none-pass (λ d no. no) s holds entry linked never) in
      let moved = function-moves none-pass none-pass (λ d no. no) s holds entry linked never is in
      let pass = is_in_scope (numbers_of heading.parameters) in
      let t = function_here s entry in
      keeps-leads (same none-pass) IsScopedExternal s _ 2 (name_at declarator) _
      (declared-function said s entry (declarator_span declarator).first (name_at declarator) _
      (keeps-leads (same none-pass) IsScopedExternal s _ 36 (name_at declarator) _
      (leads-from none-pass (same none-pass) IsScopedExternal s t _ moved
      (further-leads (same none-pass) (IsScopedIn pass) (same none-pass) IsScopedExternal t (typed_body setting (body_within heading.kind) t heading.scope body) _
      (body-leads pass (body_within heading.kind) t heading.scope body moved.holds
      (in-changes s.known.declared t.known.declared pass pass heading.scope moved.grown (λ d h. h) stands)) (λ u made went h.
      there none-pass (same none-pass) IsScopedExternal u _ (λ d no. no) went.holds
      (defines-scoped u.known.declared span constants (number_here s entry) (numbers_of heading.parameters) made h))))))

  external-leads : (s : Standing) (one : External) → Holds none-pass s → length s.known.scopes ≡ 1 → Leads (same none-pass) IsScopedExternal s (typed_external setting s one)
  external-leads s (tree.external span declaration) holds deep =
      further-leads (behind_declaration no-more none-pass) (IsFineDeclaration no-more none-pass) (same none-pass) IsScopedExternal s (typed_declaration setting s declaration) _
      (declaration-leads setting 1 no-more (in-file setting) none-pass s declaration holds deep) (λ t one moved fine.
      there none-pass (same none-pass) IsScopedExternal t _ (λ d no. no) (subst (λ more. Holds more t) (none-more one.locals) moved.holds)
      (declares-scoped t.known.declared span one fine))
  external-leads s (tree.definition span specifiers declarator body) holds deep =
      collecting-leads none-pass Any (same none-pass) IsScopedExternal s _ _ holds (specified-gives setting none-pass of_definition false s.known specifiers holds.sees) (λ t constants said moved any.
      collecting-leads none-pass IsScopedHeading (same none-pass) IsScopedExternal t _ _ moved.holds (heading-gives setting t.known moved.holds.sees said.kind declarator) (λ u more heading went stands.
      function-leads said u span declarator body (constants ++ more) heading heading.kind went.holds (went.depth ∙ (moved.depth ∙ deep)) stands))

  externals-lead : (s : Standing) (all : List External) → Holds none-pass s → length s.known.scopes ≡ 1 → Leads (same none-pass) AreScopedExternals s (typed_externals setting s all)
  unfolding AreScopedExternals
  externals-lead s [] holds deep = there none-pass (same none-pass) AreScopedExternals s [] (λ d no. no) holds tt
  externals-lead s (first ∷ others) holds deep =
      further-leads (same none-pass) IsScopedExternal (same none-pass) AreScopedExternals s (typed_external setting s first) _ (external-leads s first holds deep) (λ t made moved h.
      further-leads (same none-pass) AreScopedExternals (same none-pass) AreScopedExternals t (typed_externals setting t others) _
      (externals-lead t others moved.holds (moved.depth ∙ deep)) (λ u more went g.
      there none-pass (same none-pass) AreScopedExternals u (made ∷ more) (λ d no. no) went.holds
      (external-later t.known.declared u.known.declared made went.grown h, g)))

-- ---- units

pub beginning-holds : (shapes : List Shape) → Holds none-pass (beginning shapes)
unfolding Sees AreStatic
beginning-holds shapes = record { sees = (empty-sees [] none-pass, tt); linked = tt }

-- the entries of the unit are those at its end, with other types
pub whole-fits : (linked : List Linked) (n : ℕ) (declared : List Declaration) (d : ℕ) (entry : Declaration) → slice_get declared d ≡ Some entry
    → is_automatic_declaration (slice_get (with_whole_kinds linked n declared) d) ≡ is_automatic_sort entry.sort
whole-fits linked n [] d entry e = absurd (cc)
whole-fits linked n (first ∷ others) zero entry e = ap (λ (it : Declaration). is_automatic_sort it.sort) (injected first entry e)
whole-fits linked n (first ∷ others) (suc d) entry e = whole-fits linked (n + 1) others d entry e

all-externals : (declared : List Declaration) (entries : List Declaration) (all : List unit.External) → Fits (is_automatic entries) declared → AreScopedExternals declared all
    → list_all (is_scoped_external entries) all ≡ true
unfolding AreScopedExternals IsScopedExternal
all-externals declared entries [] fits h = refl
all-externals declared entries (one ∷ others) fits h = both-true (is_scoped_external entries one) _ (h.0 (is_automatic entries) fits) (all-externals declared entries others fits h.1)

unit-scoped : (s : Standing) (progress : Progress (List unit.External)) → Leads (same none-pass) AreScopedExternals s progress
    → (known : Known) (one : TypedUnit) → unit_of progress ≡ given known one → IsScopedUnit one
unfolding Leads Fits
unit-scoped s (goes_on behind all) h known one e =
    let entries = with_whole_kinds behind.linked 0 behind.known.declared in
    let same-unit : record { declared = entries; externals = all } ≡ one = cc in
    subst IsScopedUnit same-unit
    (all-externals behind.known.declared entries all (λ d entry is. whole-fits behind.linked 0 behind.known.declared d entry is) h.1)
unit-scoped s (stops rule at) h known one e = absurd (cc)

pub units-scoped : (shapes : List Shape) (tokens : List CToken) (externals : List External) (known : Known) (one : TypedUnit)
    → typed_unit shapes tokens externals ≡ given known one → IsScopedUnit one
units-scoped shapes tokens externals known one e =
    let setting = unit_setting tokens externals in
    unit-scoped (beginning shapes) (typed_externals setting (beginning shapes) externals) (externals-lead setting (beginning shapes) externals (beginning-holds shapes) refl) known one e
