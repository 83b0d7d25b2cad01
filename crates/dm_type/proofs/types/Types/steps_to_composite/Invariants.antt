-- What the steps so far make of the composite types of the pairs that are left is what is wanted.
use Rattle.std.proofs.Common.{◌≡◌, [], ◌∷◌, All, Some}
use Rattle.dm_type.specs.Tables.{type_of}
use Rattle.dm_type.specs.Alike.{composite}
use Rattle.dm_type.specs.Composing.{IsPair, IsOver, wanted, carried_out, work_of}
use Rattle.dm_type.proofs.types.Types.steps_to_composite.Given as goal

abbrev pub invariant-loop-pair : goal.invariant-loop-pair
invariant-loop-pair l =
    (carried_out l.self l.steps.items (wanted l.self l.pairs.items) ≡ Some (composite (type_of l.self l.fn.a) (type_of l.self l.fn.b) ∷ []))
    × All (IsPair l.self) l.pairs.items × All (IsOver l.self) l.steps.items

abbrev pub decreases-loop-pair : goal.decreases-loop-pair
decreases-loop-pair l = work_of l.self l.pairs.items
