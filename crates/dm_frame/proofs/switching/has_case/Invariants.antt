-- The statement behind the labels so far decides.
use Rattle.std.proofs.Common.{◌≡◌}
use Rattle.dm_tree.specs.Views.{view}
use Rattle.dm_meaning.specs.Statements.{has_case}
use Rattle.dm_program.specs.Sources.{meant}
use Rattle.dm_frame.specs.Tasks.{TreeFits}
use Rattle.dm_frame.proofs.switching.has_case.Given as goal

abbrev pub invariant-loop-at : goal.invariant-loop-at
invariant-loop-at l =
    TreeFits l.program.table l.at
    × (has_case (meant l.program) l.value (view l.program.table l.at) ≡ has_case (meant l.program) l.fn.value (view l.program.table l.fn.item))
