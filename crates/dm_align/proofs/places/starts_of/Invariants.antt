-- Where what is marked stays so, what is left decides.
use Rattle.std.proofs.Common.{Bool, List, length}
use Rattle.dm_align.specs.Places.{AreKept, AreWanted}
use Rattle.dm_align.proofs.places.starts_of.Given as goal

abbrev pub invariant-loop-first : goal.invariant-loop-first
invariant-loop-first l = (later : List Bool) → AreKept l.starts.items later → AreWanted later l.left → AreWanted later l.fn.runs

abbrev pub decreases-loop-first : goal.decreases-loop-first
decreases-loop-first l = length l.left
