use Rattle.std.proofs.Common.{◌≡◌, ◌≤◌, ◌++◌, List, drop, length}
use Rattle.dm_type.specs.declared.shape.Shape.{Shape}
use Rattle.dm_type.specs.Tables.{Table}
use Rattle.dm_edeclarator.specs.Steps.{steps_over, StepsFit}
use Rattle.dm_typing.specs.Typing.{pointers}
use Rattle.dm_edeclarator.proofs.declarators.with_pointers.Given as goal

-- the pointers from a number on stand in front of the other steps
abbrev pub invariant-loop-n : goal.invariant-loop-n
invariant-loop-n l =
    (l.n ≤ length l.pointers) × ((later : List Shape) → steps_over later l.made ≡ pointers l.first (drop l.n l.pointers) ++ steps_over later l.fn.steps)
    × ((types : Table) → StepsFit types l.fn.steps → StepsFit types l.made)

abbrev pub decreases-loop-n : goal.decreases-loop-n
decreases-loop-n l = l.n
