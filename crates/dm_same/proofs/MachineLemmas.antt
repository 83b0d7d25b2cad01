-- A unit's programs over two tables with the same structs have one machine.
use Rattle.std.specs.Prelude.{◌≡◌, ℕ, zero, suc, List, [], Some}
use Rattle.std.proofs.Common.{subst, sym}
use Rattle.dm_type.specs.Structs.{AreSameStructs}
use Rattle.dm_type.specs.Tables.{Table}
use Rattle.dm_tree.specs.Units.{TypedUnit}
use Rattle.dm_meaning.specs.Among.{IsAmong}
use Rattle.dm_meaning.specs.Machines.{Machine, Goes, RunsTo}
use Rattle.dm_meaning.specs.Memory.{IsFresh}
use Rattle.dm_meaning.specs.Programs.{Definition, Program}
use Rattle.dm_meaning.specs.Refinement.{Refines, refines_itself}
use Rattle.dm_meaning.specs.States.{State}
use Rattle.dm_meaning.specs.Steps.{Step}
use Rattle.dm_meaning.specs.Units.{AreBytes, Begins, machine_of, program_of}
use Rattle.dm_sound.specs.SameTables.{over}
use Rattle.dm_sound.proofs.LayoutLemmas.{laid_out_alike, constants_alike}
use Rattle.dm_same.proofs.StepLemmas.{next_same}
use Rattle.dm_same.proofs.StartLemmas.{start_same, main_same}

along : {A B : Type 0} → A ≡ B → B → A
along e b = subst (λ (T : Type 0). T) (sym e) b

module _ (old new : Table) (same : AreSameStructs old new) where
  begins_same : (program : Program) (input : List ℕ) (state : State) → Begins (over program new) input state ≡ Begins (over program old) input state
  begins_same program input state =
      let laid = laid_out_alike old new same program in
      let constants = constants_alike old new same program in
      λ i. AreBytes input × (names : ℕ → ℕ) × IsFresh names [] × (main : Definition) × (main_same program old new laid constants i ≡ Some main)
      × (state ≡ start_same program old new laid constants names main input i)

  step_same : (program : Program) (state other : State) → Step (over program new) state other ≡ Step (over program old) state other
  step_same program state other =
      let alike = next_same program old new (laid_out_alike old new same program) (constants_alike old new same program) in
      λ i. (names : ℕ → ℕ) × IsFresh names state.world.memory × IsAmong other (alike names state i)

  machine_same : (program : Program) → machine_of (over program new) ≡ machine_of (over program old)
  machine_same program = λ i. record {
    State = State;
    Begins = λ input state. begins_same program input state i;
    Step = λ state other. step_same program state other i;
    standing = λ state. state.standing;
    output = λ state. state.world.output;
  }

  module _ (one : TypedUnit) where
    pub begins_along : (input : List ℕ) (state : State) → Begins (program_of old one) input state → Begins (program_of new one) input state
    begins_along input state = along (begins_same (program_of old one) input state)

    pub steps_along : (state other : State) → Step (program_of old one) state other → Step (program_of new one) state other
    steps_along state other = along (step_same (program_of old one) state other)

    goes_along : (n : ℕ) (state other : State) → Goes (machine_of (program_of old one)) n state other → Goes (machine_of (program_of new one)) n state other
    unfolding Goes
    goes_along zero state other h = h
    goes_along (suc n) state other h = (h.0, steps_along state h.0 h.1, goes_along n h.0 other h.2)

    pub same_runs : (input : List ℕ) (n : ℕ) (state : State) → RunsTo (machine_of (program_of old one)) input n state → RunsTo (machine_of (program_of new one)) input n state
    same_runs input n state run = record { start = run.start; begins = begins_along input run.start run.begins; goes = goes_along n run.start state run.goes }

    pub refines_same : Refines (machine_of (program_of new one)) (machine_of (program_of old one))
    refines_same =
        let old_one = machine_of (program_of old one) in
        subst (λ (machine : Machine). Refines machine old_one) (sym (machine_same (program_of old one))) (refines_itself old_one)
