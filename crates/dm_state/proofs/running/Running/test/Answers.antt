-- The condition fits, and so do the tasks behind the loop, which name fewer objects.
use Rattle.std.proofs.Common.{length, refl, subst}
use Rattle.dm_frame.specs.Tasks.{ExpressionFits, FitsIfThere}
use Rattle.dm_frame.proofs.TaskLemmas.{more-fit}
use Rattle.dm_state.proofs.running.Running.test.Goals as goal

pub returns-in-Some-clause-fits : goal.returns-in-Some-clause-fits
returns-in-Some-clause-fits c = λ table within loop_fits tasks_fit.
    let frame = c.args.self.now.frame in
    (refl, (subst (FitsIfThere (ExpressionFits table)) c.in-Some.is loop_fits.0, loop_fits), more-fit table c.args.alive (length frame.objects) frame.tasks within tasks_fit)
