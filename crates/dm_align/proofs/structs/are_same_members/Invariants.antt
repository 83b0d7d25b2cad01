-- The members so far are the same.
use Rattle.std.proofs.Common.{◌≡◌}
use Rattle.dm_type.specs.Structs.{shown_member}
use Rattle.dm_align.proofs.StepLemmas.{AreSoFar}
use Rattle.dm_align.proofs.structs.are_same_members.Given as goal

abbrev pub invariant-loop-i : goal.invariant-loop-i
invariant-loop-i l = AreSoFar (λ x y. shown_member l.new_types x ≡ shown_member l.old_types y) l.new l.old l.i
