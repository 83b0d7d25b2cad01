-- What the typing of a whole unit gives.
use Rattle.std.specs.Prelude.{◌≡◌, ℕ, ◌<◌, ◌+◌, Bool, true, ◌&&◌, not, nat_lt, IsTrue, List, [], ◌∷◌, ◌++◌, length, map, Option, Some, None, Result, Ok, Err, IfOk, IfErr, IsErrAnd, refl}
use Rattle.std.specs.List.{list_all}
use Rattle.std.proofs.Common.{rules, sym, ap, ap₂, ◌∙◌, subst, arith}
use Rattle.std.proofs.lemmas.Bool.{and_from, and_parts, lt-ltb}
use Rattle.std.proofs.lemmas.List.{length-append}
use Rattle.std.proofs.lemmas.List.Elements.{All-head, All-tail}
use Rattle.dm_token.specs.declared.place.Place.{Place}
use Rattle.dm_token.specs.declared.place.Span.{Span}
use Rattle.dm_token.specs.declared.stop.Stop.{Stop}
use Rattle.dm_token.specs.declared.stop.Stop.TheVariants as stop
use Rattle.dm_token.specs.declared.token.CToken.{CToken}
use Rattle.dm_int.specs.declared.Kind.TheVariants.{Char}
use Rattle.dm_type.specs.CTypes.{CType, pointer, array as array_type}
use Rattle.dm_type.specs.declared.shape.Shape.{Shape}
use Rattle.dm_type.specs.declared.shape.Shape.TheVariants.{Void}
use Rattle.dm_type.specs.declared.shape.Shape.TheVariants as shape
use Rattle.dm_type.specs.Tables.{Table, Has, IsId, types_of, type_of}
use Rattle.dm_syn.specs.Sources.{Source, spelling_at}
use Rattle.dm_syn.specs.Trees as syn
use Rattle.dm_tree.proofs.ListLemmas.{listed-trees}
use Rattle.dm_tree.specs.declared.tree.Core.{Core}
use Rattle.dm_tree.specs.declared.tree.Core as q
use Rattle.dm_tree.specs.declared.tree.Form.TheVariants.{Declare}
use Rattle.dm_tree.specs.declared.tree.Local.{Local}
use Rattle.dm_tree.specs.declared.unit.CoreExternal.{CoreExternal}
use Rattle.dm_tree.specs.declared.unit.CoreExternalForm.{CoreExternalForm}
use Rattle.dm_tree.specs.declared.unit.CoreExternalForm.TheVariants.{Declaration as DeclarationForm, Function}
use Rattle.dm_tree.specs.declared.unit.CoreUnit.{CoreUnit}
use Rattle.dm_tree.specs.declared.unit.Declared.{Declared}
use Rattle.dm_tree.specs.Trees.{Label, Tree, Declarator, label_of, parts_of, trees, listed}
use Rattle.dm_tree.specs.Trees as label
use Rattle.dm_tree.specs.TypeNumbers.{are_known, are_known_in_local, all_pass, form_has_known, entry_has_known, external_has_known}
use Rattle.dm_tree.specs.Units.{Declaration, External, declares, defines_function, TypedUnit}
use Rattle.dm_tree.specs.Typing.{IsWellTypedUnit}
use Rattle.dm_tree.specs.TypeNumbers.{IsTypedUnit, argv_kind}
use Rattle.dm_tree.specs.ViewLaws.{stays}
use Rattle.dm_tree.specs.Views.{view, view_of_local, declarators_of, expressions_of_locals, opened, node_of, view_of_form, view_of_external, view_of_unit}
use Rattle.dm_typing.specs.Fitting.{HaveTypes}
use Rattle.dm_typing.specs.Known.{Known, Setting, Outcome, given}
use Rattle.dm_typing.specs.Sound.{AreSoundTokens, BreaksWithin}
use Rattle.dm_typing.specs.Views.{Begins, Grows, IsNumberOf, known_over, table_over, type_over}
use Rattle.dm_typing.proofs.GivesLemmas.{grown}
use Rattle.dm_typing.proofs.LaterLemmas.{begins-itself, begins-length, begins-on, type-later}
use Rattle.dm_eexpr.specs.Alone.{source_alone, RefusesWithin}
use Rattle.dm_edecl.specs.Linkages.{with_whole_kinds}
use Rattle.dm_edecl.specs.Placing.{externals_after, AreExternals}
use Rattle.dm_edecl.specs.Standing.{Linked, Standing, Progress}
use Rattle.dm_edecl.specs.Units.{external_of, typed_externals, defines, beginning, unit_of, typed_unit}
use Rattle.dm_edecl.proofs.UnitFitLemmas.{units-typed}
use Rattle.dm_edecl.proofs.UnitPlacingLemmas.{unit-within}
use Rattle.dm_estanding.specs.declared.links.Links.{Links}
use Rattle.dm_estanding.specs.declared.links.Whole.{Whole}
use Rattle.dm_estanding.specs.declared.standing.Standing.{Standing as Held}
use Rattle.dm_estanding.specs.Kinds.{HaveKinds, whole_in}
use Rattle.dm_estanding.specs.Proceeding.{Proceeds}
use Rattle.dm_estanding.specs.Summaries.{entry_over, kind_of_whole, Summarises, StandsFor}
use Rattle.dm_estanding.specs.Wholes.{settled}
use Rattle.dm_estanding.proofs.LawfulLemmas.{beginning-lawful}
use Rattle.dm_edeclaration.proofs.StepLemmas.{local-later}
use Rattle.dm_reading.specs.Elaborated.{ElaboratesBy, Elaborates, IsNumberedUnit}
use Rattle.dm_eunit.specs.Elaborated.{typed_by}
use Rattle.dm_eunit.specs.Functions.{external_over, ExternalFits, externals_over, ExternalsFit}
use Rattle.dm_eunit.proofs.SameLemmas.{externals-same}

-- ---- the structs of a table don't matter to what a tree stands for

module _ (types : Table) (later : List Shape) where
  abbrev full : Table
  full = table_over later types

  abbrev alone : Table
  alone = record { shapes = later; structs = [] }

  tree-alone : (n : ℕ) (core : Core) → IsTrue (are_known n core) → view full core ≡ view alone core
  tree-alone n core h = (stays n n (omega arith) alone full (λ id inside. refl) core h).0

  trees-alone : (n : ℕ) (cores : List Core) → list_all (are_known n) cores ≡ true → map (view full) cores ≡ map (view alone) cores
  trees-alone n [] h = refl
  trees-alone n (core ∷ cores) h =
      let parts = and_parts (are_known n core) (list_all (are_known n) cores) h in
      ap₂ (λ first others. first ∷ others) (tree-alone n core parts.0) (trees-alone n cores parts.1)

-- nowhere
abbrev nowhere : Span
nowhere = record { first = 0; after = 0 }

abbrev no-place : Place
no-place = record { file = 0; byte = 0; line = 0; column = 0 }

-- declarators as parts of one tree
abbrev at-once : Place → Span → List Local → Core
at-once place span locals = record { form = Declare [] locals; kind = 0; inner = span; outer = span; place = place }

view-once : (types : Table) (place : Place) (span : Span) (locals : List Local)
    → view types (at-once place span locals)
    ≡ node_of (opened (label.declare 0 (declarators_of (map (view_of_local types) locals))) (expressions_of_locals (map (view_of_local types) locals))) (type_of types 0) span span place
view-once types place span locals = search (rules, q.the_lemmas)

known-once : (n : ℕ) (place : Place) (span : Span) (locals : List Local)
    → are_known n (at-once place span locals) ≡ (nat_lt 0 n && (true && all_pass (map (are_known_in_local n) locals)))
known-once n place span locals = search (rules, q.the_lemmas)

abbrev typed_unit_of : List Declaration → List External → TypedUnit
typed_unit_of declared all = record { declared = declared; externals = all }

abbrev declared_in : Label → List Declarator
declared_in (label.declare n declarators) = declarators
declared_in other = []

pass-all : (n : ℕ) (locals : List Local) → list_all (are_known_in_local n) locals ≡ true → all_pass (map (are_known_in_local n) locals) ≡ true
pass-all n [] h = refl
pass-all n (local ∷ locals) h =
    let parts = and_parts (are_known_in_local n local) (list_all (are_known_in_local n) locals) h in
    and_from (are_known_in_local n local) (all_pass (map (are_known_in_local n) locals)) parts.0 (pass-all n locals parts.1)

declarators-once : (a b : Table) (locals : List Local) → node_of (opened (label.declare 0 (declarators_of (map (view_of_local a) locals))) (expressions_of_locals (map (view_of_local a) locals))) (type_of a 0) nowhere nowhere no-place
    ≡ node_of (opened (label.declare 0 (declarators_of (map (view_of_local b) locals))) (expressions_of_locals (map (view_of_local b) locals))) (type_of b 0) nowhere nowhere no-place
    → declares (declarators_of (map (view_of_local a) locals)) (expressions_of_locals (map (view_of_local a) locals))
    ≡ declares (declarators_of (map (view_of_local b) locals)) (expressions_of_locals (map (view_of_local b) locals))
declarators-once a b locals e =
    ap₂ declares (ap (λ tree. declared_in (label_of tree)) e)
    (sym (listed-trees (expressions_of_locals (map (view_of_local a) locals))) ∙ ap parts_of e ∙ listed-trees (expressions_of_locals (map (view_of_local b) locals)))

-- one type more is numbered, so that there is a number
locals-more : (shapes : List Shape) (locals : List Local) → list_all (are_known_in_local (length shapes)) locals ≡ true
    → list_all (are_known_in_local (length (shapes ++ Void ∷ []))) locals ≡ true
locals-more shapes [] h = refl
locals-more shapes (local ∷ locals) h =
    let parts = and_parts (are_known_in_local (length shapes) local) (list_all (are_known_in_local (length shapes)) locals) h in
    and_from (are_known_in_local (length (shapes ++ Void ∷ [])) local) (list_all (are_known_in_local (length (shapes ++ Void ∷ []))) locals)
    (local-later (record { shapes = shapes; structs = [] }) (record { shapes = shapes ++ Void ∷ []; structs = [] }) local (Void ∷ [], refl) parts.0) (locals-more shapes locals parts.1)

module _ (types : Table) (later : List Shape) where
  locals-alone : (locals : List Local) → list_all (are_known_in_local (length types.shapes)) locals ≡ true
      → declares (declarators_of (map (view_of_local (full types later)) locals)) (expressions_of_locals (map (view_of_local (full types later)) locals))
      ≡ declares (declarators_of (map (view_of_local (alone types later)) locals)) (expressions_of_locals (map (view_of_local (alone types later)) locals))
  locals-alone locals h =
      let n = length (types.shapes ++ Void ∷ []) in
      let long = length-append types.shapes (Void ∷ []) in
      let some : 0 < n = omega (arith, long) in
      let passed = pass-all n locals (locals-more types.shapes locals h) in
      let known : are_known n (at-once no-place nowhere locals) ≡ true = known-once n no-place nowhere locals ∙ and_from (nat_lt 0 n) (true && all_pass (map (are_known_in_local n) locals)) (lt-ltb 0 n some) passed in
      declarators-once (full types later) (alone types later) locals
      (sym (view-once (full types later) no-place nowhere locals) ∙ tree-alone types later n (at-once no-place nowhere locals) known ∙ view-once (alone types later) no-place nowhere locals)

  form-alone : (form : CoreExternalForm) → form_has_known (length types.shapes) form ≡ true → view_of_form (full types later) form ≡ view_of_form (alone types later) form
  form-alone (DeclarationForm locals) h = locals-alone locals h
  form-alone (Function function parameters body) h = ap (defines_function function parameters) (tree-alone types later (length types.shapes) body h)

  external-alone : (one : CoreExternal) → ExternalFits types one → view_of_external (full types later) one ≡ external_over later one
  external-alone one h =
      let parts = and_parts (list_all (are_known (length types.shapes)) one.constants) (form_has_known (length types.shapes) one.form) h in
      ap₂ (λ constants form. external_of one.span constants form) (trees-alone types later (length types.shapes) one.constants parts.0) (form-alone one.form parts.1)

  externals-alone : (all : List CoreExternal) → ExternalsFit types all → map (view_of_external (full types later)) all ≡ externals_over later all
  externals-alone [] fit = refl
  externals-alone (one ∷ all) fit =
      ap₂ (λ first others. first ∷ others) (external-alone one (All-head (ExternalFits types) one all fit)) (externals-alone all (All-tail (ExternalFits types) one all fit))

-- ---- the types of the entries are numbered

pub settled-known : (types : Table) (links : Links) (n : ℕ) (entries : List Declared) → HaveKinds types links → HaveTypes types entries
    → list_all (entry_has_known (length types.shapes)) (settled links n entries) ≡ true
settled-known types links n [] kinds all = refl
settled-known types links n (entry ∷ entries) kinds all =
    let P : Declared → Type 0 = λ one. IsId types one.kind in
    let inside = All-head P entry entries all in
    and_from (nat_lt (kind_of_whole (whole_in links n) entry.kind) (length types.shapes)) (list_all (entry_has_known (length types.shapes)) (settled links (n + 1) entries))
    (lt-ltb (kind_of_whole (whole_in links n) entry.kind) (length types.shapes) (go entry.kind inside (whole_in links n) refl)) (settled-known types links (n + 1) entries kinds (All-tail P entry entries all))
  where
    go : (kind : ℕ) → kind < length types.shapes → (found : Option Whole) → whole_in links n ≡ found → kind_of_whole found kind < length types.shapes
    go kind inside None e = inside
    go kind inside (Some whole) e = kinds n whole e

pub list-fits : (types : Table) (all : List CoreExternal) → ExternalsFit types all → list_all (external_has_known (length types.shapes)) all ≡ true
list-fits types [] fit = refl
list-fits types (one ∷ all) fit =
    and_from (external_has_known (length types.shapes) one) (list_all (external_has_known (length types.shapes)) all) (All-head (ExternalFits types) one all fit)
    (list-fits types all (All-tail (ExternalFits types) one all fit))

-- ---- the unit

module _ (setting : Setting) (externals : List syn.External) (start new : Held) (begins : (later : List Shape) → StandsFor later start.known start.links (beginning later)) where
  abbrev pub unit-run : List Shape → Standing → Progress (List External)
  unit-run later before = typed_externals setting before externals

  abbrev pub unit-typed : List Shape → Outcome TypedUnit
  unit-typed later = typed_by setting later externals

  pub unit-made : (made : List CoreExternal) → Proceeds ExternalsFit externals_over setting.source start new (Ok made) unit-run → (unit : CoreUnit × Table)
      → ((later : List Shape) (declared : List Declaration) (linked : List Linked) → Summarises later new.links declared linked
      → map (entry_over later) unit.0.declared ≡ with_whole_kinds linked 0 (map (entry_over later) new.known.declared))
      → unit.0.externals ≡ made → unit.1 ≡ new.known.types → ElaboratesBy setting.source unit-typed (Ok unit)
  unit-made made p unit whole same types = λ later on.
      let then_on = subst (λ (table : Table). Begins table.shapes later) types on in
      let g = p.gives later then_on (beginning later) (begins later) (beginning-lawful later) in
      let behind = g.0 in
      let known = g.2.stands.known in (
        behind.known,
        ap (λ (k : Known). k.types) known ∙ ap (table_over later) (sym types),
        ap unit_of g.1
            ∙ ap (given behind.known)
            (ap₂ (λ declared all. typed_unit_of declared all)
            (ap (with_whole_kinds behind.linked 0) (ap (λ (k : Known). k.declared) known) ∙ sym (whole later behind.known.declared behind.linked g.2.stands.links))
            (sym (externals-alone new.known.types later made p.numbered) ∙ ap₂ (λ table all. map (view_of_external (table_over later table)) all) (sym types) (sym same))),
      )

  pub unit-fails : (fault : Stop) → Proceeds ExternalsFit externals_over setting.source start new (Err fault) unit-run → ElaboratesBy setting.source unit-typed (Err fault)
  unit-fails stop.Memory p = tt
  unit-fails (stop.Refused refusal) p = (
    new.known.types.shapes,
    λ later on.
        let g = p.gives later on (beginning later) (begins later) (beginning-lawful later) in
        (g.0, g.1, ap unit_of g.2, g.3),
  )
  unit-fails (stop.Limit limit) p = absurd (p.gives new.known.types.shapes (begins-itself new.known.types.shapes) (beginning new.known.types.shapes) (begins new.known.types.shapes) (beginning-lawful new.known.types.shapes))
  unit-fails (stop.ReadFault file) p = absurd (p.gives new.known.types.shapes (begins-itself new.known.types.shapes) (beginning new.known.types.shapes) (begins new.known.types.shapes) (beginning-lawful new.known.types.shapes))

pub elaborates-same : (source : Source) (typed other : List Shape → Outcome TypedUnit) → ((later : List Shape) → typed later ≡ other later) → (result : Result (CoreUnit × Table) Stop)
    → ElaboratesBy source typed result → ElaboratesBy source other result
elaborates-same source typed other same (Ok made) e = λ later on. let g = e later on in (g.0, g.1, sym (same later) ∙ g.2)
elaborates-same source typed other same (Err stop.Memory) e = tt
elaborates-same source typed other same (Err (stop.Refused refusal)) e = (e.0, λ later on. let g = e.1 later on in (g.0, g.1, sym (same later) ∙ g.2, g.3))
elaborates-same source typed other same (Err (stop.Limit limit)) e = absurd e
elaborates-same source typed other same (Err (stop.ReadFault file)) e = absurd e

module _ (tokens : List CToken) (externals : List syn.External) where
  -- what functions the unit lacks is asked of names in the tokens alone
  pub alike-unit : (lacks : List ℕ → Bool) → ((at : ℕ) → lacks (spelling_at (source_alone tokens) at) ≡ not (defines tokens externals (spelling_at (source_alone tokens) at)))
      → (later : List Shape) → typed_by (record { source = source_alone tokens; lacks = lacks }) later externals ≡ typed_unit later tokens externals
  alike-unit lacks alike later = ap unit_of (externals-same (source_alone tokens) lacks (λ name. not (defines tokens externals name)) alike (beginning later) externals)

  pub unit-well-typed : (result : Result (CoreUnit × Table) Stop) → Elaborates tokens externals result → IfOk result (λ made. IsNumberedUnit made.1 made.0) → AreSoundTokens tokens
      → AreExternals (source_alone tokens) [] 0 externals → IfOk result (λ made. IsTypedUnit made.1 made.0)
  unit-well-typed (Ok made) e numbered sound are =
      let shapes = made.1.shapes in
      let g = e shapes (begins-itself shapes) in record {
        argv = numbered.argv;
        known_in_entries = numbered.entries;
        known_in_trees = numbered.trees;
        typed = subst (λ (types : Table). IsWellTypedUnit types (view_of_unit made.1 made.0)) g.1 (units-typed shapes tokens externals g.0 (view_of_unit made.1 made.0) sound are g.2);
      }
  unit-well-typed (Err fault) e numbered sound are = tt

  pub unit-inside : (result : Result (CoreUnit × Table) Stop) → Elaborates tokens externals result → AreExternals (source_alone tokens) [] 0 externals
      → IfErr result (RefusesWithin (source_alone tokens) (record { first = 0; after = externals_after 0 externals }))
  unit-inside (Ok made) e are = tt
  unit-inside (Err stop.Memory) e are = tt
  unit-inside (Err (stop.Refused refusal)) e are =
      let g = e.1 e.0 (begins-itself e.0) in
      let inside = subst (BreaksWithin 0 (externals_after 0 externals)) g.2 (unit-within e.0 tokens externals are) in
      (g.0, g.1, g.3, inside.0, inside.1)
  unit-inside (Err (stop.Limit limit)) e are = absurd e
  unit-inside (Err (stop.ReadFault file)) e are = absurd e

-- faults that are handed on
pub fails-on : (source : Source) (typed : List Shape → Outcome TypedUnit) (result : Result (CoreUnit × Table) Stop) (fault : Stop) → IsErrAnd result (λ e. e ≡ fault)
    → ElaboratesBy source typed (Err fault) → ElaboratesBy source typed result
fails-on source typed (Ok made) fault handed e = absurd handed
fails-on source typed (Err other) fault handed e = subst (λ it. ElaboratesBy source typed (Err it)) (sym handed) e

pub unit-numbered : (types : Table) (argv : ℕ) (made : List CoreExternal) (unit : CoreUnit × Table) → unit.0.argv ≡ argv → unit.0.externals ≡ made → unit.1 ≡ types → Has types argv argv_kind → ExternalsFit types made
    → IsTrue (list_all (entry_has_known (length types.shapes)) unit.0.declared) → IsNumberedUnit unit.1 unit.0
unit-numbered types argv made unit named same is has fit entries = record {
  argv = subst (λ (table : Table). Has table unit.0.argv argv_kind) (sym is) (subst (λ id. Has types id argv_kind) (sym named) has);
  entries = subst (λ (table : Table). IsTrue (list_all (entry_has_known (length table.shapes)) unit.0.declared)) (sym is) entries;
  trees =
      subst (λ (table : Table). IsTrue (list_all (external_has_known (length table.shapes)) unit.0.externals)) (sym is)
      (subst (λ all. IsTrue (list_all (external_has_known (length types.shapes)) all)) (sym same) (list-fits types made fit));
}

-- ---- the type of argv's object

-- it is numbered in three steps
pub argv-typed : (first second third : Table) (plain pointed array : ℕ) → Begins first.shapes second.shapes → Begins second.shapes third.shapes → IsNumberOf first.shapes plain (shape.Integer Char)
    → IsNumberOf second.shapes pointed (shape.Pointer plain) → IsNumberOf third.shapes array (shape.Array pointed (Some 1)) → Has third array argv_kind
argv-typed first second third plain pointed array on more one two three =
    let shapes = third.shapes in
    (three.0, three.1 shapes (begins-itself shapes) ∙ ap (λ type. array_type type (Some 1)) (two.1 shapes more ∙ ap pointer (one.1 shapes (begins-on first.shapes second.shapes shapes on more))))

-- it stays so as types are numbered
pub has-later : (old new : Table) (id : ℕ) (type : CType) → Begins old.shapes new.shapes → Has old id type → Has new id type
has-later old new id type begins has =
    let le = begins-length old.shapes new.shapes begins in
    let inside = has.0 in
    (omega (arith, le, inside), type-later old.shapes new.shapes id begins inside ∙ has.1)

-- where a unit begins, whatever types are numbered
pub stands-grown : (old new : Held) → Grows old.known new.known → new.links ≡ old.links → ((later : List Shape) → StandsFor later old.known old.links (beginning later))
    → (later : List Shape) → StandsFor later new.known new.links (beginning later)
stands-grown old new grows same stands later = record {
  known = (stands later).known ∙ grown later old.known new.known grows;
  links = subst (λ links. Summarises later links (beginning later).known.declared (beginning later).linked) (sym same) (stands later).links;
}
