-- The trees so far agree.
use Rattle.std.proofs.Common.{Bor}
use Rattle.dm_tree.specs.declared.tree.Core.{Core}
use Rattle.dm_tree.specs.Views.{view}
use Rattle.dm_agree.specs.Agreement.{AgreesWhole}
use Rattle.dm_agree.specs.Comparing.{rewriting}
use Rattle.dm_align.proofs.StepLemmas.{AreSoFar}
use Rattle.dm_align.proofs.externals.expressions_agree.Given as goal

abbrev pub invariant-loop-i : goal.invariant-loop-i
invariant-loop-i l =
    AreSoFar (λ (x y : Bor Core). AgreesWhole (rewriting l.it) (view l.it.new_types.now x.now) (view l.it.old_types.now y.now)) l.new l.old l.i
