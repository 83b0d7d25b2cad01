-- Objects of a unit with initialisers are set where they are named.
use Rattle.std.specs.Prelude.{ℕ, Bool, List}
use Rattle.dm_type.specs.Tables.{Table}
use Rattle.dm_tree.specs.declared.unit.CoreUnit.{CoreUnit}
use Rattle.dm_tree.specs.TypeNumbers.{IsTypedUnit}
use Rattle.dm_tree.specs.Views.{view_of_unit}
use Rattle.dm_meaning.specs.Machines.{RunsTo}
use Rattle.dm_meaning.specs.States.{State}
use Rattle.dm_meaning.specs.Units.{machine_of, program_of}
use Rattle.dm_sound.specs.TypedTrees.{IsSoundTable}
use Rattle.dm_sound.proofs.ProperLemmas.{unit_proper}
use Rattle.dm_sound.proofs.UnitLemmas.{unit_typed}
use Rattle.dm_effect.specs.Scoped.{IsScopedUnit}
use Rattle.dm_initialised.specs.SetStates.{NamesAreSet}
use Rattle.dm_initialised.specs.Units.{IsInitialisedUnit}
use Rattle.dm_initialised.proofs.NameLemmas.{run_names_set}
use Rattle.dm_initialised.proofs.UnitLemmas.{unit_settled}

pub unit_names_set : (types : Table) (one : CoreUnit) (needs : ℕ → Bool) (input : List ℕ) (n : ℕ) (state : State) → IsSoundTable types → IsTypedUnit types one → IsScopedUnit (view_of_unit types one)
    → IsInitialisedUnit needs (view_of_unit types one) → RunsTo (machine_of (program_of types (view_of_unit types one))) input n state → NamesAreSet (program_of types (view_of_unit types one)) needs state
unit_names_set types one needs input n state sound typed scoped initialised run =
    let unit = view_of_unit types one in
    run_names_set (program_of types unit) needs (unit_settled types unit needs initialised scoped) (unit_typed types unit sound typed.typed (unit_proper types one)) input n state run
