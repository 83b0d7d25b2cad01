-- What is left to do in the frame is all, where no full expression is under evaluation.
use Rattle.std.proofs.Common.{rules, ◌≡◌, None}
use Rattle.dm_exec.proofs.DueLemmas.{task-due}
use Rattle.dm_exec.proofs.due.next_due.Goals as goal

pub returns-in_ok-due-2 : goal.returns-in_ok-due-2
returns-in_ok-due-2 c =
    let none : c.args.running.now.full ≡ None = search rules in
    task-due c.args.program.now.table c.in_ok-due-2.due c.args.running.now c.task_due.new.running none c.in_ok-due-2.ensures
