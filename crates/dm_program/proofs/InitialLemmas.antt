-- An initialiser of the code has as many expressions as its form says, and so have declarators.
use Rattle.std.proofs.Common.{◌≡◌, ℕ, ◌+◌, Bool, List, [], ◌∷◌, ◌++◌, map, length, take, drop, Option, Some, None, length-append, refl, ap, sym, subst, ◌∙◌}
use Rattle.std.proofs.Math.Seq.{drop-append_seam, take-append_seam}
use Rattle.dm_type.specs.Tables.{Table, type_of}
use Rattle.dm_tree.proofs.ListLemmas.{listed-trees}
use Rattle.dm_tree.proofs.ViewLemmas.{view-core}
use Rattle.dm_tree.specs.declared.tree.Core.{Core, out-Core}
use Rattle.dm_tree.specs.declared.tree.Form.{Form}
use Rattle.dm_tree.specs.declared.tree.Form.TheOpen as layer
use Rattle.dm_tree.specs.declared.tree.Form.TheFolds as folds
use Rattle.dm_tree.specs.declared.tree.Form.TheVariants as form
use Rattle.dm_tree.specs.declared.tree.Initial.{Initial, roll-Initial}
use Rattle.dm_tree.specs.declared.tree.Local.{Local, out-Local}
use Rattle.dm_tree.specs.Trees.{Tree, expressions_in, expressions_in_items, listed, trees}
use Rattle.dm_tree.specs.Views.{Opened, OpenedInitial, OpenedLocal, opened_form, view, view_of_local, form_layer, initial_layer, core_layer, local_layer, node_of, items_of, expressions_of_items, declarators_of, expressions_of_locals}
use Rattle.dm_meaning.specs.States.{Task, declares}
use Rattle.dm_meaning.specs.Statements.{declared_by, automatic_in, declarator_tasks, expressions_of, item_tasks}
use Rattle.dm_meaning.specs.Programs.{Program}
use Rattle.dm_program.specs.Initials.{view_of_initial}
use Rattle.dm_program.proofs.FormLemmas.{opened-Declare}

abbrev Counted : OpenedInitial → Type 0
Counted initial = length initial.expressions ≡ expressions_in initial.initialiser

module _ (table : Table) where
  abbrev Any : Type 0 → Type 0
  Any A = A × Unit {0}

  abbrev Initials : Type 0
  Initials = (x : Initial) × Counted (view_of_initial table x)

  abbrev stripped : layer.Initial-F (Any Form) Initials (Any Core) (Any Local) → layer.Initial-F Form Initial Core Local
  stripped y = folds.map-Initial (Any Form) Initials (Any Core) (Any Local) Form Initial Core Local (λ e. e.0) (λ e. e.0) (λ e. e.0) (λ e. e.0) y

  abbrev seen_in : layer.Initial-F (Any Form) Initials (Any Core) (Any Local) → OpenedInitial
  seen_in y = initial_layer (folds.map-Initial Form Initial Core Local Opened OpenedInitial Tree OpenedLocal (opened_form table) (view_of_initial table) (view table) (view_of_local table) (stripped y))

  items-counted : (items : List Initials)
      → length (expressions_of_items (map (view_of_initial table) (map (λ (e : Initials). e.0) items))) ≡ expressions_in_items (items_of (map (view_of_initial table) (map (λ (e : Initials). e.0) items)))
  items-counted [] = refl
  items-counted (e ∷ items) =
      length-append (view_of_initial table e.0).expressions _
      ∙ (ap (λ n. n + length (expressions_of_items (map (view_of_initial table) (map (λ (e : Initials). e.0) items)))) e.1
      ∙ ap (λ n. expressions_in (view_of_initial table e.0).initialiser + n) (items-counted items))

  step : (y : layer.Initial-F (Any Form) Initials (Any Core) (Any Local)) → Counted (seen_in y)
  step (layer.Value a) = refl
  step (layer.Parts items) = items-counted items

  whole : (y : layer.Initial-F (Any Form) Initials (Any Core) (Any Local)) → Counted (view_of_initial table (roll-Initial (stripped y)))
  whole y =
      let here : view_of_initial table (roll-Initial (stripped y)) ≡ seen_in y = folds.fold-roll-Initial Opened OpenedInitial Tree OpenedLocal (form_layer table) initial_layer (core_layer table) local_layer (stripped y) in
      subst Counted (sym here) (step y)

  -- an initialiser
  pub initial-counted : (initial : Initial) → Counted (view_of_initial table initial)
  initial-counted = folds.ind-Initial (λ x. Unit {0}) (λ x. Counted (view_of_initial table x)) (λ x. Unit {0}) (λ x. Unit {0})
      (λ x y is. tt) (λ x y is. subst (λ z. Counted (view_of_initial table (roll-Initial z))) is (whole y)) (λ x y is. tt) (λ x y is. tt)

  -- ---- declarators

  abbrev CountedLocal : OpenedLocal → Type 0
  CountedLocal local = length local.expressions ≡ expressions_of local.declarator.initialiser

  abbrev local_seen : layer.Local-F Form Initial Core Local → OpenedLocal
  local_seen y = local_layer (folds.map-Local Form Initial Core Local Opened OpenedInitial Tree OpenedLocal (opened_form table) (view_of_initial table) (view table) (view_of_local table) y)

  by-initial : (declared : ℕ) (defines : Bool) (initial : Option Initial) → CountedLocal (local_seen (record { declared = declared; defines = defines; initial = initial }))
  by-initial declared defines None = refl
  by-initial declared defines (Some initial) = initial-counted initial

  pub local-counted : (local : Local) → CountedLocal (view_of_local table local)
  local-counted local =
      let here : view_of_local table local ≡ local_seen (out-Local local) = folds.fold_out-Local Opened OpenedInitial Tree OpenedLocal (form_layer table) initial_layer (core_layer table) local_layer local in
      subst CountedLocal (sym here) (by-initial (out-Local local).declared (out-Local local).defines (out-Local local).initial)

  abbrev declares_one : OpenedLocal → Task
  declares_one local = declares local.declarator local.expressions

  -- what is left to do of some declarators
  locals-tasks : (locals : List Local) → declarator_tasks (declarators_of (map (view_of_local table) locals)) (expressions_of_locals (map (view_of_local table) locals)) ≡ map declares_one (map (view_of_local table) locals)
  locals-tasks [] = refl
  locals-tasks (local ∷ locals) =
      let one = view_of_local table local in
      let others = expressions_of_locals (map (view_of_local table) locals) in
      let count = local-counted local in
      let front : take (expressions_of one.declarator.initialiser) (one.expressions ++ others) ≡ one.expressions = ap (λ n. take n (one.expressions ++ others)) (sym count) ∙ take-append_seam one.expressions others in
      let back : drop (expressions_of one.declarator.initialiser) (one.expressions ++ others) ≡ others = ap (λ n. drop n (one.expressions ++ others)) (sym count) ∙ drop-append_seam one.expressions others in
      ap (λ expressions. declares one.declarator expressions ∷ declarator_tasks (declarators_of (map (view_of_local table) locals)) (drop (expressions_of one.declarator.initialiser) (one.expressions ++ others))) front
      ∙ (ap (λ expressions. declares_one one ∷ declarator_tasks (declarators_of (map (view_of_local table) locals)) expressions) back
      ∙ ap (λ tasks. declares_one one ∷ tasks) (locals-tasks locals))

  -- a declaration as an item of a block
  pub item-Declare : (core : Core) (lengths : List Core) (locals : List Local) → (out-Core core).form ≡ form.Declare lengths locals
      → item_tasks (view table core) ≡ map declares_one (map (view_of_local table) locals)
  item-Declare core lengths locals is =
      let before = map (view table) lengths in
      let behind = expressions_of_locals (map (view_of_local table) locals) in
      ap item_tasks (view-core table core)
      ∙ (ap (λ (o : Opened). item_tasks (node_of o (type_of table (out-Core core).kind) (out-Core core).inner (out-Core core).outer (out-Core core).place)) (ap (opened_form table) is ∙ opened-Declare table lengths locals)
      ∙ (ap (λ all. declarator_tasks (declarators_of (map (view_of_local table) locals)) (drop (length before) all)) (listed-trees (before ++ behind))
      ∙ (ap (declarator_tasks (declarators_of (map (view_of_local table) locals))) (drop-append_seam before behind)
      ∙ locals-tasks locals)))

  -- what it declares
  pub declared-Declare : (program : Program) (core : Core) (lengths : List Core) (locals : List Local) → (out-Core core).form ≡ form.Declare lengths locals
      → declared_by program (view table core) ≡ automatic_in program (declarators_of (map (view_of_local table) locals))
  declared-Declare program core lengths locals is =
      ap (declared_by program) (view-core table core)
      ∙ ap (λ (o : Opened). declared_by program (node_of o (type_of table (out-Core core).kind) (out-Core core).inner (out-Core core).outer (out-Core core).place)) (ap (opened_form table) is ∙ opened-Declare table lengths locals)

  -- what a declarator declares
  declared-by-initial : (declared : ℕ) (defines : Bool) (initial : Option Initial) → (local_seen (record { declared = declared; defines = defines; initial = initial })).declarator.declared ≡ declared
  declared-by-initial declared defines None = refl
  declared-by-initial declared defines (Some initial) = refl

  pub local-declared : (local : Local) → (view_of_local table local).declarator.declared ≡ (out-Local local).declared
  local-declared local =
      let here : view_of_local table local ≡ local_seen (out-Local local) = folds.fold_out-Local Opened OpenedInitial Tree OpenedLocal (form_layer table) initial_layer (core_layer table) local_layer local in
      ap (λ (one : OpenedLocal). one.declarator.declared) here ∙ declared-by-initial (out-Local local).declared (out-Local local).defines (out-Local local).initial

  -- a declarator with an initialiser
  pub local-some : (local : Local) (initial : Initial) → (out-Local local).initial ≡ Some initial
      → ((view_of_local table local).declarator.initialiser ≡ Some (view_of_initial table initial).initialiser) × ((view_of_local table local).expressions ≡ (view_of_initial table initial).expressions)
  local-some local initial is =
      let here : view_of_local table local ≡ local_seen (out-Local local) = folds.fold_out-Local Opened OpenedInitial Tree OpenedLocal (form_layer table) initial_layer (core_layer table) local_layer local in
      let seen = here ∙ ap (λ (initial : Option Initial). local_seen (record { declared = (out-Local local).declared; defines = (out-Local local).defines; initial = initial })) is in
      (ap (λ (one : OpenedLocal). one.declarator.initialiser) seen, ap (λ (one : OpenedLocal). one.expressions) seen)
