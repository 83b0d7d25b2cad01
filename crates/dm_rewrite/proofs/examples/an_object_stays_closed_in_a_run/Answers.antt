-- The program and the state meet each premise of the law.
use Rattle.std.specs.Prelude.{◌≡◌, refl, ℕ, [], ◌∷◌}
use Rattle.std.proofs.Common.{arith, inl, inr, sym, subst}
use Rattle.dm_tree.specs.Trees.{parts_of}
use Rattle.dm_meaning.specs.Examples.{and_count, reading, counted}
use Rattle.dm_meaning.specs.Memory.{Memory}
use Rattle.dm_meaning.specs.MoreObjects.{IsMade}
use Rattle.dm_meaning.specs.Programs.{Definition}
use Rattle.dm_meaning.specs.States.{State}
use Rattle.dm_rewrite.specs.Closed.{Avoids, MemoryAvoids}
use Rattle.dm_rewrite.specs.ClosedStates.{OnlyNames, IsFrameClosed, AreCallersClosed, NamesOnly, ListNamesOnly, ProgramNamesOnly, IsClosedState}
use Rattle.dm_rewrite.proofs.ClosedLemmas.{added_avoids}
use Rattle.dm_rewrite.proofs.ClosedStateLemmas.{closed_step}
use Rattle.dm_meaning.proofs.OptionLemmas.{none_is_some}
use Rattle.dm_rewrite.proofs.examples.an_object_stays_closed_in_a_run.Goals as goal

-- y is another declaration, and another object
other_one : (k : ℕ) → k ≡ 2 → k ≡ 1 → ⊥
other_one k e f = omega (arith, e, f)

x_read : NamesOnly 1 (reading 1)
x_read = (tt, (inr (_, _, refl), tt))

y_read : NamesOnly 1 (reading 2)
y_read = (tt, (inl (other_one 2 refl, tt), tt))

y_counted : NamesOnly 1 (counted 2)
y_counted = (tt, (inl (other_one 2 refl, tt), tt))

program : ProgramNamesOnly 1 (and_count 2)
program definition (inl e) =
    subst (λ (d : Definition). ListNamesOnly 1 (parts_of d.body)) (sym e)
    ((tt, ((tt, tt), tt)), ((tt, ((tt, tt), tt)), ((tt, ((tt, (x_read, (y_counted, tt))), tt)), ((tt, (y_read, tt)), tt))))
program definition (inr k) = absurd k

-- no object holds a pointer to this one
abbrev EntriesAvoid : ℕ → Memory → Type 0
EntriesAvoid n [] = Unit {0}
EntriesAvoid n (entry ∷ rest) = Avoids n entry.1.contents × EntriesAvoid n rest

entries_avoid : (n : ℕ) (memory : Memory) → EntriesAvoid n memory → MemoryAvoids n memory
entries_avoid n [] h = λ m block e. absurd (none_is_some block e)
entries_avoid n (entry ∷ rest) h = added_avoids n entry.0 entry.1 rest h.0 (entries_avoid n rest h.1)

closed_by : (state : State) → IsMade state.world.memory 1 → EntriesAvoid 1 state.world.memory → OnlyNames 1 1 state.statics
    → IsFrameClosed 1 1 state.statics state.frame → AreCallersClosed 1 1 state.statics state.callers → IsClosedState 1 1 state
closed_by state made entries statics frame callers =
    record { made = made; unreached = record { memory = entries_avoid 1 state.world.memory entries; statics = statics; frame = frame; callers = callers } }

pub returns-clause-program : goal.returns-clause-program
returns-clause-program c = program

pub returns-clause-state : goal.returns-clause-state
returns-clause-state c =
    closed_by _ (_, refl) (tt, (tt, ((tt, tt), tt))) tt
    (((λ e. absurd (other_one 2 refl e)), ((λ e. refl), tt)), ((tt, ((tt, (x_read, (y_counted, tt))), tt)), ((tt, (y_read, tt)), tt))) tt

pub returns-clause-steps : goal.returns-clause-steps
returns-clause-steps c = λ other step. closed_step 1 1 (and_count 2) program _ other (returns-clause-state c) step
