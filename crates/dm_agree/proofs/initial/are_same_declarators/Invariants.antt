-- What is left is the same where all are.
use Rattle.std.proofs.Common.{◌↔◌, length}
use Rattle.dm_type.specs.Tables.{Table}
use Rattle.dm_agree.proofs.StepLemmas.{SameDeclarators}
use Rattle.dm_agree.proofs.initial.are_same_declarators.Given as goal

abbrev pub invariant-loop-local : goal.invariant-loop-local
invariant-loop-local l = (a b : Table) → SameDeclarators a b l.fn.block l.left l.others ↔ SameDeclarators a b l.fn.block l.fn.new l.fn.old

abbrev pub decreases-loop-local : goal.decreases-loop-local
decreases-loop-local l = length l.left
