-- The structs so far are the same.
use Rattle.std.proofs.Common.{◌≡◌}
use Rattle.dm_type.specs.Structs.{shown_struct}
use Rattle.dm_align.proofs.StepLemmas.{AreSoFar}
use Rattle.dm_align.proofs.structs.are_same_structs.Given as goal

abbrev pub invariant-loop-number : goal.invariant-loop-number
invariant-loop-number l = AreSoFar (λ x y. shown_struct l.new x ≡ shown_struct l.old y) l.new.structs l.old.structs l.number
