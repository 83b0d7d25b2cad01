-- The numbers of types in a tree of the code are those of a table where all types in its view over so many types `int` are `int`.
use Rattle.std.proofs.Common.{◌≡◌, ℕ, zero, suc, Bool, true, false, ◌&&◌, nat_lt, List, [], ◌∷◌, ◌++◌, map, Option, Some, None, slice_index_or, append_assoc, append-nil, refl, sym, ap, ap₂, subst, ◌∙◌, arith}
use Rattle.std.specs.List.{fold, list_all}
use Rattle.std.proofs.Math.Bool.{and-true}
use Rattle.std.proofs.lemmas.Bool.{ltb-true, lt-ltb}
use Rattle.std.proofs.lemmas.List.Folds.{list_all-append}
use Rattle.dm_int.specs.declared.Kind.TheVariants.{Int}
use Rattle.dm_type.specs.CTypes.{CType, void, integer}
use Rattle.dm_type.specs.declared.shape.Shape.{Shape}
use Rattle.dm_type.specs.declared.shape.Shape.TheVariants.{Integer}
use Rattle.dm_type.specs.Tables.{Table, type_of, types_of, written_out}
use Rattle.dm_tree.specs.declared.tree.Core.{Core, roll-Core}
use Rattle.dm_tree.specs.declared.tree.Form.{Form, roll-Form}
use Rattle.dm_tree.specs.declared.tree.Initial.{Initial, roll-Initial}
use Rattle.dm_tree.specs.declared.tree.Local.{Local, roll-Local}
use Rattle.dm_tree.specs.declared.tree.Form.TheOpen as layer
use Rattle.dm_tree.specs.declared.tree.Form.TheFolds as folds
use Rattle.dm_tree.specs.Trees as label
use Rattle.dm_tree.specs.Trees.{Label, Tree, Trees, node, no_trees, more_trees, trees, listed}
use Rattle.dm_tree.specs.TypeNumbers.{all_pass, are_known, are_known_in_form, are_known_in_local, form_known, initial_known, core_known, local_known}
use Rattle.dm_tree.specs.Views.{Opened, OpenedInitial, OpenedLocal, view, opened_form, view_of_local, form_layer, initial_layer, core_layer, local_layer, node_of, expressions_of_items, expressions_of_locals}
use Rattle.dm_meaning.specs.Wholes.{view_of_initial}
use Rattle.dm_beside.specs.Places.{is_int}

-- ---- so many types

abbrev int_shapes : ℕ → List Shape
int_shapes zero = []
int_shapes (suc n) = Integer Int ∷ int_shapes n

abbrev int_types : ℕ → List CType
int_types zero = []
int_types (suc n) = integer Int ∷ int_types n

abbrev pub ints : ℕ → Table
ints n = record { shapes = int_shapes n; structs = [] }

fold-ints : (so_far : List CType) (n : ℕ) → fold (λ types shape. types ++ written_out types shape ∷ []) so_far (int_shapes n) ≡ so_far ++ int_types n
fold-ints so_far zero = sym (append-nil so_far)
fold-ints so_far (suc n) = fold-ints (so_far ++ integer Int ∷ []) n ∙ append_assoc so_far (integer Int ∷ []) (int_types n)

types-of-ints : (n : ℕ) → types_of (int_shapes n) ≡ int_types n
unfolding types_of
types-of-ints n = fold-ints [] n

same-test : (p q : Bool) → (p ≡ true → q ≡ true) → (q ≡ true → p ≡ true) → p ≡ q
same-test true q h k = sym (h refl)
same-test false true h k = k refl
same-test false false h k = refl

lower : (id n : ℕ) → nat_lt (suc id) (suc n) ≡ nat_lt id n
lower id n =
    same-test (nat_lt (suc id) (suc n)) (nat_lt id n)
    (λ h. let lt = ltb-true (suc id) (suc n) h in lt-ltb id n (omega (arith, lt)))
    (λ h. let lt = ltb-true id n h in lt-ltb (suc id) (suc n) (omega (arith, lt)))

none-lower : (id : ℕ) → nat_lt id 0 ≡ false
none-lower id = by (nat_lt id 0) refl
  where
    by : (b : Bool) → nat_lt id 0 ≡ b → nat_lt id 0 ≡ false
    by true h = let lt = ltb-true id 0 h in absurd (omega (arith, lt))
    by false h = h

int-at : (n id : ℕ) → is_int (slice_index_or (int_types n) id void) ≡ nat_lt id n
int-at zero id = sym (none-lower id)
int-at (suc n) zero = sym (lt-ltb 0 (suc n) (omega arith))
int-at (suc n) (suc id) = int-at n id ∙ sym (lower id n)

pub int-of-ints : (n id : ℕ) → is_int (type_of (ints n) id) ≡ nat_lt id n
int-of-ints n id = ap (λ (types : List CType). is_int (slice_index_or types id void)) (types-of-ints n) ∙ int-at n id

-- ---- trees with no other type

abbrev pub int_label : Label → Bool
int_label (label.update op works) = is_int works
int_label (label.sizeof_kind type) = is_int type
int_label form = true

abbrev mutual
  pub all_int : Tree → Bool
  all_int (node form kind spans parts) = is_int kind && (int_label form && are_all_int parts)

  pub are_all_int : Trees → Bool
  are_all_int no_trees = true
  are_all_int (more_trees first rest) = all_int first && are_all_int rest

abbrev int_opened : Opened → Bool
int_opened one = int_label one.label && list_all all_int one.parts

all-listed : (all : List Tree) → are_all_int (trees all) ≡ list_all all_int all
all-listed [] = refl
all-listed (first ∷ rest) = ap (λ b. all_int first && b) (all-listed rest)

module _ (n : ℕ) where
  abbrev are_known_in_initial : Initial → Bool
  are_known_in_initial = folds.fold-Initial Bool Bool Bool Bool (form_known n) initial_known (core_known n) local_known

  abbrev FormIs : Form → Type 0
  FormIs x = are_known_in_form n x ≡ int_opened (opened_form (ints n) x)

  abbrev InitialIs : Initial → Type 0
  InitialIs x = are_known_in_initial x ≡ list_all all_int (view_of_initial (ints n) x).expressions

  abbrev CoreIs : Core → Type 0
  CoreIs x = are_known n x ≡ all_int (view (ints n) x)

  abbrev LocalIs : Local → Type 0
  LocalIs x = are_known_in_local n x ≡ list_all all_int (view_of_local (ints n) x).expressions

  abbrev Forms : Type 0
  Forms = (x : Form) × FormIs x

  abbrev Initials : Type 0
  Initials = (x : Initial) × InitialIs x

  abbrev Cores : Type 0
  Cores = (x : Core) × CoreIs x

  abbrev Locals : Type 0
  Locals = (x : Local) × LocalIs x

  abbrev cores_in : List Cores → List Core
  cores_in items = map (λ (e : Cores). e.0) items

  abbrev locals_in : List Locals → List Local
  locals_in items = map (λ (e : Locals). e.0) items

  abbrev initials_in : List Initials → List Initial
  initials_in items = map (λ (e : Initials). e.0) items

  cores-are : (items : List Cores) → all_pass (map (are_known n) (cores_in items)) ≡ list_all all_int (map (view (ints n)) (cores_in items))
  cores-are [] = refl
  cores-are (e ∷ items) = ap₂ (λ p q. p && q) e.1 (cores-are items)

  locals-are : (items : List Locals) → all_pass (map (are_known_in_local n) (locals_in items)) ≡ list_all all_int (expressions_of_locals (map (view_of_local (ints n)) (locals_in items)))
  locals-are [] = refl
  locals-are (e ∷ items) =
      ap₂ (λ p q. p && q) e.1 (locals-are items)
      ∙ sym (list_all-append all_int (view_of_local (ints n) e.0).expressions (expressions_of_locals (map (view_of_local (ints n)) (locals_in items))))

  initials-are : (items : List Initials) → all_pass (map are_known_in_initial (initials_in items)) ≡ list_all all_int (expressions_of_items (map (view_of_initial (ints n)) (initials_in items)))
  initials-are [] = refl
  initials-are (e ∷ items) =
      ap₂ (λ p q. p && q) e.1 (initials-are items)
      ∙ sym (list_all-append all_int (view_of_initial (ints n) e.0).expressions (expressions_of_items (map (view_of_initial (ints n)) (initials_in items))))

  -- one layer
  abbrev known : Cores → Bool
  known x = are_known n x.0

  abbrev seen : Cores → Bool
  seen x = all_int (view (ints n) x.0)

  single : (x : Cores) → known x ≡ (seen x && true)
  single x = x.1 ∙ sym (and-true (seen x))

  double : (x y : Cores) → (known x && known y) ≡ (seen x && (seen y && true))
  double x y = ap₂ (λ p q. p && q) x.1 (single y)

  triple : (x y z : Cores) → (known x && (known y && known z)) ≡ (seen x && (seen y && (seen z && true)))
  triple x y z = ap₂ (λ p q. p && q) x.1 (double y z)

  fourfold : (w x y z : Cores) → (known w && (known x && (known y && known z))) ≡ (seen w && (seen x && (seen y && (seen z && true))))
  fourfold w x y z = ap₂ (λ p q. p && q) w.1 (triple x y z)

  led : (x : Cores) (items : List Cores) → (known x && all_pass (map (are_known n) (cores_in items))) ≡ (seen x && list_all all_int (map (view (ints n)) (cores_in items)))
  led x items = ap₂ (λ p q. p && q) x.1 (cores-are items)

  abbrev stripped_form : layer.Form-F Forms Initials Cores Locals → layer.Form-F Form Initial Core Local
  stripped_form y = folds.map-Form Forms Initials Cores Locals Form Initial Core Local (λ e. e.0) (λ e. e.0) (λ e. e.0) (λ e. e.0) y

  abbrev form_seen : layer.Form-F Forms Initials Cores Locals → Opened
  form_seen y = form_layer (ints n) (folds.map-Form Form Initial Core Local Opened OpenedInitial Tree OpenedLocal (opened_form (ints n)) (view_of_initial (ints n)) (view (ints n)) (view_of_local (ints n)) (stripped_form y))

  abbrev form_tested : layer.Form-F Forms Initials Cores Locals → Bool
  form_tested y = form_known n (folds.map-Form Form Initial Core Local Bool Bool Bool Bool (are_known_in_form n) are_known_in_initial (are_known n) (are_known_in_local n) (stripped_form y))

  form-step : (y : layer.Form-F Forms Initials Cores Locals) → form_tested y ≡ int_opened (form_seen y)
  form-step (layer.Number value) = refl
  form-step (layer.Enumerator at) = refl
  form-step (layer.Literal bytes unit) = refl
  form-step (layer.Object at) = refl
  form-step (layer.Function at) = refl
  form-step layer.Empty = refl
  form-step layer.Break = refl
  form-step layer.Continue = refl
  form-step (layer.Read x) = single x
  form-step (layer.Decay x) = single x
  form-step (layer.Address x) = single x
  form-step (layer.Follow x) = single x
  form-step (layer.SizeofTree x) = single x
  form-step (layer.Full x) = single x
  form-step (layer.Default x) = single x
  form-step (layer.Member x k) = single x
  form-step (layer.Unary sign x) = single x
  form-step (layer.Count plus before x) = single x
  form-step (layer.Both x y) = double x y
  form-step (layer.Either x y) = double x y
  form-step (layer.Comma x y) = double x y
  form-step (layer.Store x y) = double x y
  form-step (layer.Case x y) = double x y
  form-step (layer.While x y) = double x y
  form-step (layer.Do x y) = double x y
  form-step (layer.Binary op x y) = double x y
  form-step (layer.Update op works x y) = ap₂ (λ p q. p && q) (sym (int-of-ints n works)) (double x y)
  form-step (layer.Choose x y z) = triple x y z
  form-step (layer.Convert x items) = led x items
  form-step (layer.Call x items) = led x items
  form-step (layer.Switch x items) = led x items
  form-step (layer.Block items) = cores-are items
  form-step (layer.SizeofKind type items) = ap₂ (λ p q. p && q) (sym (int-of-ints n type)) (cores-are items)
  form-step (layer.Declare items locals) =
      ap₂ (λ p q. p && q) (cores-are items) (locals-are locals)
      ∙ sym (list_all-append all_int (map (view (ints n)) (cores_in items)) (expressions_of_locals (map (view_of_local (ints n)) (locals_in locals))))
  form-step (layer.If x y None) = ap₂ (λ p q. p && q) x.1 (ap (λ q. q && true) y.1)
  form-step (layer.If x y (Some z)) = triple x y z
  form-step (layer.For None None None body) = single body
  form-step (layer.For None None (Some z) body) = double z body
  form-step (layer.For None (Some y) None body) = double y body
  form-step (layer.For None (Some y) (Some z) body) = triple y z body
  form-step (layer.For (Some x) None None body) = double x body
  form-step (layer.For (Some x) None (Some z) body) = triple x z body
  form-step (layer.For (Some x) (Some y) None body) = triple x y body
  form-step (layer.For (Some x) (Some y) (Some z) body) = fourfold x y z body
  form-step (layer.Return None) = refl
  form-step (layer.Return (Some x)) = single x

  form-whole : (y : layer.Form-F Forms Initials Cores Locals) → FormIs (roll-Form (stripped_form y))
  form-whole y =
      let here : are_known_in_form n (roll-Form (stripped_form y)) ≡ form_tested y = folds.fold-roll-Form Bool Bool Bool Bool (form_known n) initial_known (core_known n) local_known (stripped_form y) in
      let there : opened_form (ints n) (roll-Form (stripped_form y)) ≡ form_seen y = folds.fold-roll-Form Opened OpenedInitial Tree OpenedLocal (form_layer (ints n)) initial_layer (core_layer (ints n)) local_layer (stripped_form y) in
      here ∙ (form-step y ∙ ap int_opened (sym there))

  -- an initialiser
  abbrev stripped_initial : layer.Initial-F Forms Initials Cores Locals → layer.Initial-F Form Initial Core Local
  stripped_initial y = folds.map-Initial Forms Initials Cores Locals Form Initial Core Local (λ e. e.0) (λ e. e.0) (λ e. e.0) (λ e. e.0) y

  abbrev initial_seen : layer.Initial-F Forms Initials Cores Locals → OpenedInitial
  initial_seen y = initial_layer (folds.map-Initial Form Initial Core Local Opened OpenedInitial Tree OpenedLocal (opened_form (ints n)) (view_of_initial (ints n)) (view (ints n)) (view_of_local (ints n)) (stripped_initial y))

  abbrev initial_tested : layer.Initial-F Forms Initials Cores Locals → Bool
  initial_tested y = initial_known (folds.map-Initial Form Initial Core Local Bool Bool Bool Bool (are_known_in_form n) are_known_in_initial (are_known n) (are_known_in_local n) (stripped_initial y))

  initial-step : (y : layer.Initial-F Forms Initials Cores Locals) → initial_tested y ≡ list_all all_int (initial_seen y).expressions
  initial-step (layer.Value x) = single x
  initial-step (layer.Parts items) = initials-are items

  initial-whole : (y : layer.Initial-F Forms Initials Cores Locals) → InitialIs (roll-Initial (stripped_initial y))
  initial-whole y =
      let here : are_known_in_initial (roll-Initial (stripped_initial y)) ≡ initial_tested y = folds.fold-roll-Initial Bool Bool Bool Bool (form_known n) initial_known (core_known n) local_known (stripped_initial y) in
      let there : view_of_initial (ints n) (roll-Initial (stripped_initial y)) ≡ initial_seen y = folds.fold-roll-Initial Opened OpenedInitial Tree OpenedLocal (form_layer (ints n)) initial_layer (core_layer (ints n)) local_layer (stripped_initial y) in
      here ∙ (initial-step y ∙ ap (λ (one : OpenedInitial). list_all all_int one.expressions) (sym there))

  -- a tree
  abbrev stripped_core : layer.Core-F Forms Initials Cores Locals → layer.Core-F Form Initial Core Local
  stripped_core y = folds.map-Core Forms Initials Cores Locals Form Initial Core Local (λ e. e.0) (λ e. e.0) (λ e. e.0) (λ e. e.0) y

  core-whole : (y : layer.Core-F Forms Initials Cores Locals) → CoreIs (roll-Core (stripped_core y))
  core-whole y =
      let here : are_known n (roll-Core (stripped_core y)) ≡ (nat_lt y.kind n && are_known_in_form n y.form.0) = folds.fold-roll-Core Bool Bool Bool Bool (form_known n) initial_known (core_known n) local_known (stripped_core y) in
      let there : view (ints n) (roll-Core (stripped_core y)) ≡ node_of (opened_form (ints n) y.form.0) (type_of (ints n) y.kind) y.inner y.outer y.place = folds.fold-roll-Core Opened OpenedInitial Tree OpenedLocal (form_layer (ints n)) initial_layer (core_layer (ints n)) local_layer (stripped_core y) in
      here
      ∙ (ap₂ (λ p q. p && q) (sym (int-of-ints n y.kind)) (y.form.1 ∙ ap (λ b. int_label (opened_form (ints n) y.form.0).label && b) (sym (all-listed (opened_form (ints n) y.form.0).parts)))
      ∙ ap all_int (sym there))

  -- a declarator
  abbrev stripped_local : layer.Local-F Forms Initials Cores Locals → layer.Local-F Form Initial Core Local
  stripped_local y = folds.map-Local Forms Initials Cores Locals Form Initial Core Local (λ e. e.0) (λ e. e.0) (λ e. e.0) (λ e. e.0) y

  abbrev local_layer_of : ℕ → Bool → Option Initials → layer.Local-F Forms Initials Cores Locals
  local_layer_of declared defines initial = record { declared = declared; defines = defines; initial = initial }

  abbrev local_seen : layer.Local-F Forms Initials Cores Locals → OpenedLocal
  local_seen y = local_layer (folds.map-Local Form Initial Core Local Opened OpenedInitial Tree OpenedLocal (opened_form (ints n)) (view_of_initial (ints n)) (view (ints n)) (view_of_local (ints n)) (stripped_local y))

  abbrev local_tested : layer.Local-F Forms Initials Cores Locals → Bool
  local_tested y = local_known (folds.map-Local Form Initial Core Local Bool Bool Bool Bool (are_known_in_form n) are_known_in_initial (are_known n) (are_known_in_local n) (stripped_local y))

  local-step : (declared : ℕ) (defines : Bool) (initial : Option Initials) → local_tested (local_layer_of declared defines initial) ≡ list_all all_int (local_seen (local_layer_of declared defines initial)).expressions
  local-step declared defines None = refl
  local-step declared defines (Some i) = i.1

  local-whole : (y : layer.Local-F Forms Initials Cores Locals) → LocalIs (roll-Local (stripped_local y))
  local-whole y =
      let here : are_known_in_local n (roll-Local (stripped_local y)) ≡ local_tested y = folds.fold-roll-Local Bool Bool Bool Bool (form_known n) initial_known (core_known n) local_known (stripped_local y) in
      let there : view_of_local (ints n) (roll-Local (stripped_local y)) ≡ local_seen y = folds.fold-roll-Local Opened OpenedInitial Tree OpenedLocal (form_layer (ints n)) initial_layer (core_layer (ints n)) local_layer (stripped_local y) in
      here ∙ (local-step y.declared y.defines y.initial ∙ ap (λ (one : OpenedLocal). list_all all_int one.expressions) (sym there))

  pub known-view : (core : Core) → are_known n core ≡ all_int (view (ints n) core)
  known-view = folds.ind-Core FormIs InitialIs CoreIs LocalIs
      (λ x y is. subst (λ z. FormIs (roll-Form z)) is (form-whole y))
      (λ x y is. subst (λ z. InitialIs (roll-Initial z)) is (initial-whole y))
      (λ x y is. subst (λ z. CoreIs (roll-Core z)) is (core-whole y))
      (λ x y is. subst (λ z. LocalIs (roll-Local z)) is (local-whole y))

  pub known-local : (local : Local) → are_known_in_local n local ≡ list_all all_int (view_of_local (ints n) local).expressions
  known-local = folds.ind-Local FormIs InitialIs CoreIs LocalIs
      (λ x y is. subst (λ z. FormIs (roll-Form z)) is (form-whole y))
      (λ x y is. subst (λ z. InitialIs (roll-Initial z)) is (initial-whole y))
      (λ x y is. subst (λ z. CoreIs (roll-Core z)) is (core-whole y))
      (λ x y is. subst (λ z. LocalIs (roll-Local z)) is (local-whole y))
