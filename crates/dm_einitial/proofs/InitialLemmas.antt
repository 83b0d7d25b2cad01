-- The numbers of types in initialisers stay numbered.
use Rattle.std.specs.Prelude.{◌≡◌, ℕ, Bool, IsTrue, List, [], ◌∷◌, length, map, All, refl}
use Rattle.std.proofs.Common.{sym, ◌∙◌, subst}
use Rattle.std.proofs.lemmas.Bool.{and_parts, and_from}
use Rattle.std.proofs.lemmas.List.Elements.{All-head, All-tail}
use Rattle.dm_type.specs.Tables.{Table}
use Rattle.dm_tree.specs.declared.tree.Core.{Core}
use Rattle.dm_tree.specs.declared.tree.Core as q
use Rattle.dm_tree.specs.declared.tree.Form.{Form}
use Rattle.dm_tree.specs.declared.tree.Initial.{Initial, roll-Initial}
use Rattle.dm_tree.specs.declared.tree.Initial.TheVariants as form
use Rattle.dm_tree.specs.declared.tree.Local.{Local}
use Rattle.dm_tree.specs.declared.tree.Form.TheOpen as layer
use Rattle.dm_tree.specs.declared.tree.Form.TheFolds as folds
use Rattle.dm_tree.specs.TypeNumbers.{are_known, are_known_in_form, are_known_in_local, form_known, initial_known, core_known, local_known, all_pass}
use Rattle.dm_typing.specs.Views.{Begins}
use Rattle.dm_typing.proofs.LaterLemmas.{known-later}
use Rattle.std.proofs.Common.{rules}
use Rattle.dm_einitial.specs.Steps.{are_known_in_initial, InitialFits, InitialsFit}

module _ (n m : ℕ) (stay : (core : Core) → IsTrue (are_known n core) → IsTrue (are_known m core)) where
  abbrev Stays : Initial → Type 0
  Stays x = IsTrue (are_known_in_initial n x) → IsTrue (are_known_in_initial m x)

  abbrev Forms : Type 0
  Forms = Form × Unit {0}

  abbrev Cores : Type 0
  Cores = Core × Unit {0}

  abbrev Locals : Type 0
  Locals = Local × Unit {0}

  abbrev Initials : Type 0
  Initials = (x : Initial) × Stays x

  abbrev stripped : layer.Initial-F Forms Initials Cores Locals → layer.Initial-F Form Initial Core Local
  stripped y = folds.map-Initial Forms Initials Cores Locals Form Initial Core Local (λ e. e.0) (λ e. e.0) (λ e. e.0) (λ e. e.0) y

  abbrev known_in : ℕ → layer.Initial-F Forms Initials Cores Locals → Bool
  known_in k y = initial_known (folds.map-Initial Form Initial Core Local Bool Bool Bool Bool (are_known_in_form k) (are_known_in_initial k) (are_known k) (are_known_in_local k) (stripped y))

  items-stay : (items : List Initials) → IsTrue (all_pass (map (are_known_in_initial n) (map (λ e. e.0) items))) → IsTrue (all_pass (map (are_known_in_initial m) (map (λ e. e.0) items)))
  items-stay [] h = h
  items-stay (e ∷ items) h =
      let parts = and_parts (are_known_in_initial n e.0) (all_pass (map (are_known_in_initial n) (map (λ e. e.0) items))) h in
      and_from (are_known_in_initial m e.0) (all_pass (map (are_known_in_initial m) (map (λ e. e.0) items))) (e.1 parts.0) (items-stay items parts.1)

  step : (y : layer.Initial-F Forms Initials Cores Locals) → IsTrue (known_in n y) → IsTrue (known_in m y)
  step (layer.Value a) h = stay a.0 h
  step (layer.Parts items) h = items-stay items h

  whole : (y : layer.Initial-F Forms Initials Cores Locals) → Stays (roll-Initial (stripped y))
  whole y h =
      let known : are_known_in_initial n (roll-Initial (stripped y)) ≡ known_in n y = folds.fold-roll-Initial Bool Bool Bool Bool (form_known n) initial_known (core_known n) local_known (stripped y) in
      let again : are_known_in_initial m (roll-Initial (stripped y)) ≡ known_in m y = folds.fold-roll-Initial Bool Bool Bool Bool (form_known m) initial_known (core_known m) local_known (stripped y) in
      again ∙ step y (sym known ∙ h)

  initial-stays : (x : Initial) → Stays x
  initial-stays = folds.ind-Initial (λ x. Unit {0}) Stays (λ x. Unit {0}) (λ x. Unit {0})
      (λ x y is. tt)
      (λ x y is. subst (λ z. Stays (roll-Initial z)) is (whole y))
      (λ x y is. tt)
      (λ x y is. tt)

pub initial-later : (old new : Table) (one : Initial) → Begins old.shapes new.shapes → InitialFits old one → InitialFits new one
initial-later old new one more fits = initial-stays (length old.shapes) (length new.shapes) (λ core known. known-later old.shapes new.shapes core more known) one fits

pub initials-later : (old new : Table) (all : List Initial) → Begins old.shapes new.shapes → InitialsFit old all → InitialsFit new all
initials-later old new all more fit k d inside = initial-later old new _ more (fit k d inside)

-- a list in braces
all-known : (n : ℕ) (items : List Initial) → All (λ one. IsTrue (are_known_in_initial n one)) items → IsTrue (all_pass (map (are_known_in_initial n) items))
all-known n [] all = refl
all-known n (one ∷ items) all =
    and_from (are_known_in_initial n one) (all_pass (map (are_known_in_initial n) items)) (All-head (λ x. IsTrue (are_known_in_initial n x)) one items all)
    (all-known n items (All-tail (λ x. IsTrue (are_known_in_initial n x)) one items all))

known-Parts : (n : ℕ) (items : List Initial) → are_known_in_initial n (form.Parts items) ≡ all_pass (map (are_known_in_initial n) items)
known-Parts n items = search (rules, q.the_lemmas)

pub parts-fit : (types : Table) (items : List Initial) → InitialsFit types items → InitialFits types (form.Parts items)
parts-fit types items all = known-Parts (length types.shapes) items ∙ all-known (length types.shapes) items all
