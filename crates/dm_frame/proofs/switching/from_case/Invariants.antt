-- The first item that passes is among those that are left.
use Rattle.std.proofs.Common.{◌≡◌, length, map}
use Rattle.dm_tree.specs.Views.{view}
use Rattle.dm_meaning.specs.Statements.{from_first, has_case}
use Rattle.dm_program.specs.Sources.{meant}
use Rattle.dm_frame.specs.Tasks.{TreesFit}
use Rattle.dm_frame.proofs.switching.from_case.Given as goal

abbrev pub invariant-loop-item : goal.invariant-loop-item
invariant-loop-item l =
    TreesFit l.program.table l.left
    × (from_first (has_case (meant l.program) l.value) (map (view l.program.table) l.left) ≡ from_first (has_case (meant l.program) l.fn.value) (map (view l.program.table) l.fn.items))

abbrev pub decreases-loop-item : goal.decreases-loop-item
decreases-loop-item l = length l.left
