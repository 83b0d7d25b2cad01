-- What is left decides.
use Rattle.std.proofs.Common.{◌↔◌, Bool, List, length}
use Rattle.std.specs.List.{AllByRecursion}
use Rattle.dm_tree.specs.Units.{TypedUnit}
use Rattle.dm_align.specs.Places.{ArePlaces, AreWanted}
use Rattle.dm_align.specs.Units.{IsPlaced}
use Rattle.dm_align.proofs.places.have_all.Given as goal

abbrev pub invariant-loop-first : goal.invariant-loop-first
invariant-loop-first l =
    (one : TypedUnit) (starts : List Bool) → ArePlaces one starts l.places → AreWanted starts l.fn.runs → AreWanted starts l.left × (AllByRecursion (IsPlaced one) l.left ↔ AllByRecursion (IsPlaced one) l.fn.runs)

abbrev pub decreases-loop-first : goal.decreases-loop-first
decreases-loop-first l = length l.left
