-- The first of the occurrences behind those that are left.
use Rattle.std.proofs.Common.{◌≡◌, ℕ, ◌++◌, List, length, find, option_map}
use Rattle.dm_runs.specs.declared.run.Occurrence.{Occurrence}
use Rattle.dm_meanings.specs.Types.{is_of}
use Rattle.dm_meanings.specs.Wanted.{entry_at}
use Rattle.dm_meanings.proofs.firsts.first_occurrences.Given as goal

abbrev pub invariant-loop-one : goal.invariant-loop-one
invariant-loop-one l =
    (done : List Occurrence) × (l.left ++ done ≡ l.fn.run.occurrences) × ((n : ℕ) → entry_at l.spans.items n ≡ option_map (λ (one : Occurrence). one.span) (find (is_of n) done))

abbrev pub decreases-loop-one : goal.decreases-loop-one
decreases-loop-one l = length l.left
