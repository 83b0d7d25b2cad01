-- What is known of the occurrences behind those that are left.
use Rattle.std.proofs.Common.{◌≡◌, ℕ, ◌++◌, List, length}
use Rattle.dm_runs.specs.declared.run.Occurrence.{Occurrence}
use Rattle.dm_beside.specs.Tallies.{tally_at, tally_of, spans_for}
use Rattle.dm_beside.proofs.tally.tallied.Given as goal

abbrev pub invariant-loop-occurrence : goal.invariant-loop-occurrence
invariant-loop-occurrence g l =
    (done : List Occurrence) × (l.left ++ done ≡ l.fn.occurrences) × ((n : ℕ) → tally_at l.table.items n ≡ tally_of (g.F.Facts.told l.facts) (spans_for done n))

abbrev pub decreases-loop-occurrence : goal.decreases-loop-occurrence
decreases-loop-occurrence g l = length l.left
