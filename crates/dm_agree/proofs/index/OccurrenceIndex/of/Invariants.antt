-- The occurrences behind those that are left are found by their spans.
use Rattle.std.proofs.Common.{◌≡◌, ◌++◌, List, length}
use Rattle.dm_runs.specs.declared.run.Occurrence.{Occurrence}
use Rattle.dm_agree.specs.Index.{IsOccurrenceIndex}
use Rattle.dm_agree.proofs.index.OccurrenceIndex.of.Given as goal

abbrev pub invariant-loop-one : goal.invariant-loop-one
invariant-loop-one l = (behind : List Occurrence) × (l.left ++ behind ≡ l.run.occurrences) × IsOccurrenceIndex l.by_span behind

abbrev pub decreases-loop-one : goal.decreases-loop-one
decreases-loop-one l = length l.left
