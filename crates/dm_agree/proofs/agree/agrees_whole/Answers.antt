-- The runs that stand there.
use Rattle.std.proofs.Common.{◌↔◌, IsTrue, IfOk, List, ap, ◌∙◌, subst}
use Rattle.dm_runs.specs.declared.run.Run.{Run}
use Rattle.dm_tree.specs.Views.{view}
use Rattle.dm_agree.specs.Agreement.{Agrees}
use Rattle.dm_agree.specs.Comparing.{rewriting}
use Rattle.dm_agree.specs.Runs.{runs_in}
use Rattle.dm_agree.proofs.agree.agrees_whole.Goals as goal

pub returns : goal.returns
returns c =
    let it = c.args.it.now in
    let new = view it.new_types.now c.args.new.now in
    let old = view it.old_types.now c.args.old.now in
    subst (λ (runs : List Run). IfOk c.agrees.result (λ answer. IsTrue answer ↔ Agrees (rewriting it) runs new old)) (ap runs_in c.deref.ensures.value ∙ c.in_ok-runs.ensures it.old_types.now) c.agrees.ensures
