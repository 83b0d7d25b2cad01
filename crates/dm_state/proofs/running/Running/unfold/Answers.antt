-- What follows the body fits, and so do the tasks behind the loop, which name fewer objects.
use Rattle.std.proofs.Common.{Some, length, refl, subst}
use Rattle.dm_frame.specs.declared.next.Next.{Next}
use Rattle.dm_frame.specs.Nexts.{NextFits}
use Rattle.dm_frame.specs.Tasks.{ExpressionFits, FitsIfThere}
use Rattle.dm_frame.proofs.TaskLemmas.{more-fit}
use Rattle.dm_state.proofs.running.Running.unfold.Goals as goal

first : {A B : Type 0} → A × B → A
first p = p.0

second : {A B : Type 0} → A × B → B
second p = p.1

pub returns-in-Some-clause-fits : goal.returns-in-Some-clause-fits
returns-in-Some-clause-fits c = λ table fits.
    let frame = c.args.self.now.frame in
    let here = subst (λ (next : Next). NextFits table (length frame.objects) (Some next) frame.tasks) c.in-Again.is fits in
    let loop_fits = second (first here) in
    (refl, (subst (FitsIfThere (ExpressionFits table)) c.in-Some.is loop_fits.1, loop_fits), more-fit table c.in-Again.alive (length frame.objects) frame.tasks (first (first here)) (second here))
