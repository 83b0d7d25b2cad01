-- The types of trees and of declarations are proper where a table gave them.
use Rattle.std.specs.Prelude.{◌≡◌, ℕ, Bool, All, List, [], ◌∷◌, ◌++◌, map, Option, Some, None}
use Rattle.std.proofs.Common.{sym, subst}
use Rattle.std.proofs.lemmas.List.Elements.{All-nil, All-cons}
use Rattle.dm_type.specs.Tables.{Table, type_of}
use Rattle.dm_tree.specs.declared.tree.Core.{Core, roll-Core}
use Rattle.dm_tree.specs.declared.tree.Form.{Form, roll-Form}
use Rattle.dm_tree.specs.declared.tree.Initial.{Initial, roll-Initial}
use Rattle.dm_tree.specs.declared.tree.Local.{Local, roll-Local}
use Rattle.dm_tree.specs.declared.tree.Form.TheOpen as layer
use Rattle.dm_tree.specs.declared.tree.Form.TheFolds as folds
use Rattle.dm_tree.specs.declared.unit.CoreExternal.{CoreExternal}
use Rattle.dm_tree.specs.declared.unit.CoreExternalForm.{CoreExternalForm}
use Rattle.dm_tree.specs.declared.unit.CoreExternalForm.TheVariants as code
use Rattle.dm_tree.specs.declared.unit.CoreUnit.{CoreUnit}
use Rattle.dm_tree.specs.declared.unit.Declared.{Declared}
use Rattle.dm_tree.specs.Trees.{Tree, trees}
use Rattle.dm_tree.specs.Units.{Declaration, External}
use Rattle.dm_tree.specs.Views.{Opened, OpenedInitial, OpenedLocal, view, opened_form, view_of_local, view_of_declared, view_of_form, view_of_external, view_of_unit, form_layer, initial_layer, core_layer, local_layer, node_of, expressions_of_items, expressions_of_locals}
use Rattle.dm_sound.specs.TypedTrees.{IsProper, IsProperTree, AreProperTrees}
use Rattle.dm_sound.specs.TypedRuns.{IsProperForm, IsProperUnit}
use Rattle.dm_sound.proofs.TableLemmas.{table_proper}

-- trees in a list
abbrev AllProper : List Tree → Type 0
AllProper [] = Unit {0}
AllProper (tree ∷ rest) = IsProperTree tree × AllProper rest

joined_proper : (xs ys : List Tree) → AllProper xs → AllProper ys → AllProper (xs ++ ys)
joined_proper [] ys h k = k
joined_proper (x ∷ xs) ys h k = (h.0, joined_proper xs ys h.1 k)

trees_proper : (xs : List Tree) → AllProper xs → AreProperTrees (trees xs)
trees_proper [] h = tt
trees_proper (x ∷ xs) h = (h.0, trees_proper xs h.1)

listed_proper : (xs : List Tree) → AllProper xs → All IsProperTree xs
listed_proper [] h = All-nil IsProperTree
listed_proper (x ∷ xs) h = All-cons IsProperTree x xs h.0 (listed_proper xs h.1)

module _ (types : Table) where
  abbrev view_of_initial : Initial → OpenedInitial
  view_of_initial = folds.fold-Initial Opened OpenedInitial Tree OpenedLocal (form_layer types) initial_layer (core_layer types) local_layer

  abbrev FormProper : Form → Type 0
  FormProper x = AllProper (opened_form types x).parts

  abbrev InitialProper : Initial → Type 0
  InitialProper x = AllProper (view_of_initial x).expressions

  abbrev CoreProper : Core → Type 0
  CoreProper x = IsProperTree (view types x)

  abbrev LocalProper : Local → Type 0
  LocalProper x = AllProper (view_of_local types x).expressions

  abbrev Forms : Type 0
  Forms = (x : Form) × FormProper x

  abbrev Initials : Type 0
  Initials = (x : Initial) × InitialProper x

  abbrev Cores : Type 0
  Cores = (x : Core) × CoreProper x

  abbrev Locals : Type 0
  Locals = (x : Local) × LocalProper x

  -- trees in order
  cores_proper : (items : List Cores) → AllProper (map (view types) (map (λ e. e.0) items))
  cores_proper [] = tt
  cores_proper (e ∷ items) = (e.1, cores_proper items)

  initials_proper : (items : List Initials) → AllProper (expressions_of_items (map view_of_initial (map (λ e. e.0) items)))
  initials_proper [] = tt
  initials_proper (e ∷ items) = joined_proper (view_of_initial e.0).expressions (expressions_of_items (map view_of_initial (map (λ x. x.0) items))) e.1 (initials_proper items)

  locals_proper : (items : List Locals) → AllProper (expressions_of_locals (map (view_of_local types) (map (λ e. e.0) items)))
  locals_proper [] = tt
  locals_proper (e ∷ items) = joined_proper (view_of_local types e.0).expressions (expressions_of_locals (map (view_of_local types) (map (λ x. x.0) items))) e.1 (locals_proper items)

  -- one layer
  abbrev stripped_form : layer.Form-F Forms Initials Cores Locals → layer.Form-F Form Initial Core Local
  stripped_form y = folds.map-Form Forms Initials Cores Locals Form Initial Core Local (λ e. e.0) (λ e. e.0) (λ e. e.0) (λ e. e.0) y

  abbrev seen_in : layer.Form-F Forms Initials Cores Locals → Opened
  seen_in y = form_layer types (folds.map-Form Form Initial Core Local Opened OpenedInitial Tree OpenedLocal (opened_form types) view_of_initial (view types) (view_of_local types) (stripped_form y))

  form_step : (y : layer.Form-F Forms Initials Cores Locals) → AllProper (seen_in y).parts
  form_step (layer.Number value) = tt
  form_step (layer.Enumerator at) = tt
  form_step (layer.Literal bytes unit) = tt
  form_step (layer.Object at) = tt
  form_step (layer.Function at) = tt
  form_step layer.Empty = tt
  form_step layer.Break = tt
  form_step layer.Continue = tt
  form_step (layer.Read a) = (a.1, tt)
  form_step (layer.Decay a) = (a.1, tt)
  form_step (layer.Address a) = (a.1, tt)
  form_step (layer.Follow a) = (a.1, tt)
  form_step (layer.SizeofTree a) = (a.1, tt)
  form_step (layer.Full a) = (a.1, tt)
  form_step (layer.Default a) = (a.1, tt)
  form_step (layer.Member a k) = (a.1, tt)
  form_step (layer.Unary sign a) = (a.1, tt)
  form_step (layer.Count plus before a) = (a.1, tt)
  form_step (layer.Both a b) = (a.1, (b.1, tt))
  form_step (layer.Either a b) = (a.1, (b.1, tt))
  form_step (layer.Comma a b) = (a.1, (b.1, tt))
  form_step (layer.Store a b) = (a.1, (b.1, tt))
  form_step (layer.Case a b) = (a.1, (b.1, tt))
  form_step (layer.While a b) = (a.1, (b.1, tt))
  form_step (layer.Do a b) = (a.1, (b.1, tt))
  form_step (layer.Binary op a b) = (a.1, (b.1, tt))
  form_step (layer.Update op works a b) = (a.1, (b.1, tt))
  form_step (layer.Choose a b c) = (a.1, (b.1, (c.1, tt)))
  form_step (layer.Convert a items) = (a.1, cores_proper items)
  form_step (layer.Call a items) = (a.1, cores_proper items)
  form_step (layer.Switch a items) = (a.1, cores_proper items)
  form_step (layer.Block items) = cores_proper items
  form_step (layer.SizeofKind type items) = cores_proper items
  form_step (layer.Declare items locals) =
      joined_proper (map (view types) (map (λ e. e.0) items)) (expressions_of_locals (map (view_of_local types) (map (λ e. e.0) locals))) (cores_proper items) (locals_proper locals)
  form_step (layer.If a b None) = (a.1, (b.1, tt))
  form_step (layer.If a b (Some c)) = (a.1, (b.1, (c.1, tt)))
  form_step (layer.For None None None body) = (body.1, tt)
  form_step (layer.For None None (Some c) body) = (c.1, (body.1, tt))
  form_step (layer.For None (Some b) None body) = (b.1, (body.1, tt))
  form_step (layer.For None (Some b) (Some c) body) = (b.1, (c.1, (body.1, tt)))
  form_step (layer.For (Some a) None None body) = (a.1, (body.1, tt))
  form_step (layer.For (Some a) None (Some c) body) = (a.1, (c.1, (body.1, tt)))
  form_step (layer.For (Some a) (Some b) None body) = (a.1, (b.1, (body.1, tt)))
  form_step (layer.For (Some a) (Some b) (Some c) body) = (a.1, (b.1, (c.1, (body.1, tt))))
  form_step (layer.Return None) = tt
  form_step (layer.Return (Some a)) = (a.1, tt)

  form_whole : (y : layer.Form-F Forms Initials Cores Locals) → FormProper (roll-Form (stripped_form y))
  form_whole y =
      let here : opened_form types (roll-Form (stripped_form y)) ≡ seen_in y = folds.fold-roll-Form Opened OpenedInitial Tree OpenedLocal (form_layer types) initial_layer (core_layer types) local_layer (stripped_form y) in
      subst (λ (form : Opened). AllProper form.parts) (sym here) (form_step y)

  -- an initialiser
  abbrev stripped_initial : layer.Initial-F Forms Initials Cores Locals → layer.Initial-F Form Initial Core Local
  stripped_initial y = folds.map-Initial Forms Initials Cores Locals Form Initial Core Local (λ e. e.0) (λ e. e.0) (λ e. e.0) (λ e. e.0) y

  abbrev initial_seen : layer.Initial-F Forms Initials Cores Locals → OpenedInitial
  initial_seen y = initial_layer (folds.map-Initial Form Initial Core Local Opened OpenedInitial Tree OpenedLocal (opened_form types) view_of_initial (view types) (view_of_local types) (stripped_initial y))

  initial_step : (y : layer.Initial-F Forms Initials Cores Locals) → AllProper (initial_seen y).expressions
  initial_step (layer.Value a) = (a.1, tt)
  initial_step (layer.Parts items) = initials_proper items

  initial_whole : (y : layer.Initial-F Forms Initials Cores Locals) → InitialProper (roll-Initial (stripped_initial y))
  initial_whole y =
      let here : view_of_initial (roll-Initial (stripped_initial y)) ≡ initial_seen y = folds.fold-roll-Initial Opened OpenedInitial Tree OpenedLocal (form_layer types) initial_layer (core_layer types) local_layer (stripped_initial y) in
      subst (λ (initial : OpenedInitial). AllProper initial.expressions) (sym here) (initial_step y)

  -- a node
  abbrev stripped_core : layer.Core-F Forms Initials Cores Locals → layer.Core-F Form Initial Core Local
  stripped_core y = folds.map-Core Forms Initials Cores Locals Form Initial Core Local (λ e. e.0) (λ e. e.0) (λ e. e.0) (λ e. e.0) y

  core_whole : (y : layer.Core-F Forms Initials Cores Locals) → CoreProper (roll-Core (stripped_core y))
  core_whole y =
      let here : view types (roll-Core (stripped_core y)) ≡ node_of (opened_form types y.form.0) (type_of types y.kind) y.inner y.outer y.place = folds.fold-roll-Core Opened OpenedInitial Tree OpenedLocal (form_layer types) initial_layer (core_layer types) local_layer (stripped_core y) in
      subst IsProperTree (sym here) (table_proper types y.kind, trees_proper (opened_form types y.form.0).parts y.form.1)

  -- a declarator
  abbrev stripped_local : layer.Local-F Forms Initials Cores Locals → layer.Local-F Form Initial Core Local
  stripped_local y = folds.map-Local Forms Initials Cores Locals Form Initial Core Local (λ e. e.0) (λ e. e.0) (λ e. e.0) (λ e. e.0) y

  abbrev local_seen : layer.Local-F Forms Initials Cores Locals → OpenedLocal
  local_seen y = local_layer (folds.map-Local Form Initial Core Local Opened OpenedInitial Tree OpenedLocal (opened_form types) view_of_initial (view types) (view_of_local types) (stripped_local y))

  local_step : (declared : ℕ) (defines : Bool) (initial : Option Initials) → AllProper (local_seen (record { declared = declared; defines = defines; initial = initial })).expressions
  local_step declared defines None = tt
  local_step declared defines (Some i) = i.1

  local_whole : (y : layer.Local-F Forms Initials Cores Locals) → LocalProper (roll-Local (stripped_local y))
  local_whole y =
      let here : view_of_local types (roll-Local (stripped_local y)) ≡ local_seen y = folds.fold-roll-Local Opened OpenedInitial Tree OpenedLocal (form_layer types) initial_layer (core_layer types) local_layer (stripped_local y) in
      subst (λ (local : OpenedLocal). AllProper local.expressions) (sym here) (local_step y.declared y.defines y.initial)

  view_proper : (core : Core) → CoreProper core
  view_proper = folds.ind-Core FormProper InitialProper CoreProper LocalProper
      (λ x y is. subst (λ z. FormProper (roll-Form z)) is (form_whole y))
      (λ x y is. subst (λ z. InitialProper (roll-Initial z)) is (initial_whole y))
      (λ x y is. subst (λ z. CoreProper (roll-Core z)) is (core_whole y))
      (λ x y is. subst (λ z. LocalProper (roll-Local z)) is (local_whole y))

  local_proper : (local : Local) → LocalProper local
  local_proper = folds.ind-Local FormProper InitialProper CoreProper LocalProper
      (λ x y is. subst (λ z. FormProper (roll-Form z)) is (form_whole y))
      (λ x y is. subst (λ z. InitialProper (roll-Initial z)) is (initial_whole y))
      (λ x y is. subst (λ z. CoreProper (roll-Core z)) is (core_whole y))
      (λ x y is. subst (λ z. LocalProper (roll-Local z)) is (local_whole y))

  -- ---- units

  own_locals : (locals : List Local) → AllProper (expressions_of_locals (map (view_of_local types) locals))
  own_locals [] = tt
  own_locals (local ∷ locals) = joined_proper (view_of_local types local).expressions (expressions_of_locals (map (view_of_local types) locals)) (local_proper local) (own_locals locals)

  form_proper : (form : CoreExternalForm) → IsProperForm (view_of_form types form)
  form_proper (code.Declaration locals) = listed_proper (expressions_of_locals (map (view_of_local types) locals)) (own_locals locals)
  form_proper (code.Function function parameters body) = view_proper body

  entries_proper : (entries : List Declared) → All (λ (entry : Declaration). IsProper entry.kind) (map (view_of_declared types) entries)
  entries_proper [] = All-nil (λ (entry : Declaration). IsProper entry.kind)
  entries_proper (entry ∷ entries) = All-cons (λ (one : Declaration). IsProper one.kind) (view_of_declared types entry) (map (view_of_declared types) entries) (table_proper types entry.kind) (entries_proper entries)

  externals_proper : (externals : List CoreExternal) → All (λ (external : External). IsProperForm external.form) (map (view_of_external types) externals)
  externals_proper [] = All-nil (λ (external : External). IsProperForm external.form)
  externals_proper (external ∷ externals) =
      All-cons (λ (one : External). IsProperForm one.form) (view_of_external types external) (map (view_of_external types) externals) (form_proper external.form) (externals_proper externals)

  pub unit_proper : (one : CoreUnit) → IsProperUnit (view_of_unit types one)
  unit_proper one = record { entries = entries_proper one.declared; externals = externals_proper one.externals }
