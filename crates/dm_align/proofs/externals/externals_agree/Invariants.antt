-- The external declarations so far agree.
use Rattle.dm_tree.specs.Views.{view_of_external}
use Rattle.dm_agree.specs.Comparing.{rewriting}
use Rattle.dm_align.specs.Units.{ExternalsAgree}
use Rattle.dm_align.proofs.StepLemmas.{AreSoFar}
use Rattle.dm_align.proofs.externals.externals_agree.Given as goal

abbrev pub invariant-loop-i : goal.invariant-loop-i
invariant-loop-i l = AreSoFar (λ x y. ExternalsAgree (rewriting l.it) (view_of_external l.it.new_types.now x) (view_of_external l.it.old_types.now y)) l.new l.old l.i
