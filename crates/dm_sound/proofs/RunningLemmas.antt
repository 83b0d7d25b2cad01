-- Each state of a run of a typed program is typed.
use Rattle.std.specs.Prelude.{ℕ, List}
use Rattle.dm_type.specs.Tables.{Table}
use Rattle.dm_tree.specs.declared.unit.CoreUnit.{CoreUnit}
use Rattle.dm_tree.specs.TypeNumbers.{IsTypedUnit}
use Rattle.dm_tree.specs.Views.{view_of_unit}
use Rattle.dm_meaning.specs.Machines.{RunsTo}
use Rattle.dm_meaning.specs.Programs.{Program}
use Rattle.dm_meaning.specs.States.{State}
use Rattle.dm_meaning.specs.Units.{machine_of, program_of}
use Rattle.dm_sound.specs.TypedTrees.{IsSoundTable}
use Rattle.dm_sound.specs.TypedRuns.{IsTypedProgram}
use Rattle.dm_sound.specs.TypedStates.{IsTypedState}
use Rattle.dm_sound.proofs.FillLemmas.{declares_fill}
use Rattle.dm_sound.proofs.StepLemmas.{goes_typed}
use Rattle.dm_sound.proofs.BeginLemmas.{begins_typed}
use Rattle.dm_sound.proofs.ProperLemmas.{unit_proper}
use Rattle.dm_sound.proofs.UnitLemmas.{unit_typed}

pub program_runs_typed : (program : Program) → IsTypedProgram program → (input : List ℕ) (n : ℕ) (state : State) → RunsTo (machine_of program) input n state → IsTypedState program state
program_runs_typed program sound input n state run =
    let fills = declares_fill program sound.scope.table sound.scope.proper in
    goes_typed program sound fills n run.start state (begins_typed program sound fills input run.start run.begins) run.goes

pub run_typed : (types : Table) (one : CoreUnit) (input : List ℕ) (n : ℕ) (state : State) → IsSoundTable types → IsTypedUnit types one → RunsTo (machine_of (program_of types (view_of_unit types one))) input n state
    → IsTypedState (program_of types (view_of_unit types one)) state
run_typed types one input n state sound typed run =
    program_runs_typed (program_of types (view_of_unit types one)) (unit_typed types (view_of_unit types one) sound typed.typed (unit_proper types one)) input n state run
