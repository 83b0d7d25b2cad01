-- Where what is marked stays so, what is left decides.
use Rattle.std.proofs.Common.{Bool, List, length}
use Rattle.dm_align.specs.Places.{AreKept, AreOccurrencesWanted}
use Rattle.dm_align.proofs.places.mark_occurrences.Given as goal

abbrev pub invariant-loop-first : goal.invariant-loop-first
invariant-loop-first l = record {
  marked : (later : List Bool) → AreKept l.starts.items later → AreOccurrencesWanted later l.left → AreOccurrencesWanted later l.fn.occurrences;
  kept : AreKept l.initial.starts.items l.starts.items;
}

abbrev pub decreases-loop-first : goal.decreases-loop-first
decreases-loop-first l = length l.left
