-- A declaration's declarators come next.
use Rattle.std.proofs.Common.{map, ◌++◌, length, ap, sym, subst, ◌∙◌}
use Rattle.dm_tree.specs.Views.{view_of_local}
use Rattle.dm_frame.specs.Frames.{tasks_of}
use Rattle.dm_frame.specs.Tasks.{declares_local, view_of_tasks, BegunFits, LocalsFit, TasksFit}
use Rattle.dm_frame.proofs.BeginLemmas.{start-Declare}
use Rattle.dm_frame.proofs.FitLemmas.{start-expression, start-locals}
use Rattle.dm_frame.proofs.frame.Frame.begin_start.Goals as goal

pub returns-in_ok-push-in-Declare-clause-same : goal.returns-in_ok-push-in-Declare-clause-same
returns-in_ok-push-in-Declare-clause-same c = λ table.
    ap (view_of_tasks table c.args.self.now.objects) c.in_ok-push-in-Declare.ensures.ok
    ∙ (ap (λ locals. map declares_local (map (view_of_local table) locals) ++ tasks_of table c.args.self.now) c.items.ensures
    ∙ ap (λ tasks. tasks ++ tasks_of table c.args.self.now) (sym (start-Declare table c.args.start.now _ c.in-Declare.locals c.in-Declare.is)))

pub returns-in_ok-push-in-Declare-clause-fits : goal.returns-in_ok-push-in-Declare-clause-fits
returns-in_ok-push-in-Declare-clause-fits c = λ table fits starts.
    let before = c.args.self.now in
    let locals = subst (LocalsFit table) (sym c.items.ensures) (start-locals table c.args.start.now _ c.in-Declare.locals c.in-Declare.is starts) in
    (subst (TasksFit table (length before.objects)) (sym c.in_ok-push-in-Declare.ensures.ok) (locals, fits), tt)

pub returns-in_default-clause-fits : goal.returns-in_default-clause-fits
returns-in_default-clause-fits c = λ table fits starts.
    (fits, subst (BegunFits table) (sym c.begun.ensures) (start-expression table c.args.start.now c.in_default.not-Declare starts, tt))
