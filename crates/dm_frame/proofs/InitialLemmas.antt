-- How initialisers begin (6.7.9).
use Rattle.std.proofs.Common.{◌≡◌, ℕ, suc, List, [], ◌∷◌, length, ap, refl, ◌∙◌}
use Rattle.dm_type.specs.Tables.{Table}
use Rattle.dm_tree.specs.declared.tree.Initial.{Initial}
use Rattle.dm_tree.specs.Trees.{Tree}
use Rattle.dm_tree.specs.Views.{items_of}
use Rattle.dm_token.specs.declared.place.Place.{Place}
use Rattle.dm_meaning.specs.Memory.{Memory}
use Rattle.dm_meaning.specs.Operations.{Objects, of_value, designates}
use Rattle.dm_meaning.specs.Programs.{Program}
use Rattle.dm_meaning.specs.States as states
use Rattle.dm_meaning.specs.Statements.{concluded, count_items}
use Rattle.dm_meaning.specs.Values.{At}
use Rattle.dm_frame.specs.Conclusions.{value_for}
use Rattle.dm_frame.specs.Tasks.{initials_at}

pub items-counted : (table : Table) (items : List Initial) → count_items (items_of (initials_at table items)) ≡ length items
items-counted table [] = refl
items-counted table (first ∷ rest) = ap suc (items-counted table rest)

-- where a full expression designates an object, the value that counts decides
pub designates-meant : (program : Program) (objects : Objects) (rest : List states.Task) (memory : Memory) (place : Place) (use_of : states.Use) (at : At)
    → concluded program objects rest memory place use_of (of_value (value_for use_of at)) ≡ concluded program objects rest memory place use_of (designates at)
designates-meant program objects rest memory place states.drops at = refl
designates-meant program objects rest memory place (states.chooses first second) at = refl
designates-meant program objects rest memory place (states.selects items) at = refl
designates-meant program objects rest memory place (states.repeats loop) at = refl
designates-meant program objects rest memory place (states.continues loop) at = refl
designates-meant program objects rest memory place states.returns at = refl
designates-meant program objects rest memory place (states.initialises other kind) at = refl
