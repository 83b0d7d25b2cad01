-- The declarations so far are the same.
use Rattle.std.proofs.Common.{◌≡◌}
use Rattle.dm_tree.specs.Views.{view_of_declared}
use Rattle.dm_align.specs.Units.{entry_of}
use Rattle.dm_align.proofs.StepLemmas.{AreSoFar}
use Rattle.dm_align.proofs.entries.are_same_entries.Given as goal

abbrev pub invariant-loop-i : goal.invariant-loop-i
invariant-loop-i l = AreSoFar (λ x y. entry_of (view_of_declared l.new_types x) ≡ entry_of (view_of_declared l.old_types y)) l.new l.old l.i
