-- The numbers so far are the new ones.
use Rattle.std.proofs.Common.{◌≡◌}
use Rattle.dm_agree.specs.Moves.{moved_past}
use Rattle.dm_align.proofs.StepLemmas.{AreSoFar}
use Rattle.dm_align.proofs.externals.are_moved.Given as goal

abbrev pub invariant-loop-i : goal.invariant-loop-i
invariant-loop-i l = AreSoFar (λ x y. x ≡ moved_past l.block y) l.new l.old l.i
