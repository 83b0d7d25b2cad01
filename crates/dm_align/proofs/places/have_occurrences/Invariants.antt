-- What is left decides.
use Rattle.std.proofs.Common.{◌↔◌, Bool, List, length}
use Rattle.std.specs.List.{AllByRecursion}
use Rattle.dm_tree.specs.Units.{TypedUnit}
use Rattle.dm_align.specs.Places.{AreOccurrencesWanted, ArePlaces}
use Rattle.dm_align.specs.Units.{IsOccurrencePlaced}
use Rattle.dm_align.proofs.places.have_occurrences.Given as goal

abbrev pub invariant-loop-first : goal.invariant-loop-first
invariant-loop-first l =
    (one : TypedUnit) (starts : List Bool) → ArePlaces one starts l.places → AreOccurrencesWanted starts l.fn.occurrences → AreOccurrencesWanted starts l.left × (AllByRecursion (IsOccurrencePlaced one) l.left ↔ AllByRecursion (IsOccurrencePlaced one) l.fn.occurrences)

abbrev pub decreases-loop-first : goal.decreases-loop-first
decreases-loop-first l = length l.left
