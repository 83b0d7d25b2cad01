-- `continue` passes by what is no loop.
use Rattle.std.proofs.Common.{◌≡◌, ℕ, ◌≤◌, List, ◌∷◌, length, ap, sym, subst, arith, ◌∙◌}
use Rattle.dm_type.specs.Tables.{Table}
use Rattle.dm_memory.specs.Blocks.{view_of_blocks, AreKnown}
use Rattle.dm_meaning.specs.Statements.{after_continue}
use Rattle.dm_frame.specs.declared.task.Task.TheVariants as task
use Rattle.dm_frame.specs.Frames.{tasks_of, IsLeft}
use Rattle.dm_frame.specs.Tasks.{view_of_tasks, TasksFit}
use Rattle.dm_frame.proofs.JumpLemmas.{continue-passes, jumped}
use Rattle.dm_frame.proofs.TaskLemmas.{behind-fits}
use Rattle.dm_frame.proofs.frame.Frame.skip.Goals as goal

pub returns-in-Again-clause-left : goal.returns-in-Again-clause-left
returns-in-Again-clause-left c = λ table fits known.
    let alive : ℕ = c.in-Again.alive in
    let again = task.Again alive c.in-Again.repeated in
    let whole = c.in-Some.ensures ∙ ap (λ one. one ∷ c.pop.new.self) c.in-Again.is in
    let all = subst (TasksFit table (length c.loop-task.self.objects)) whole (c.loop-task.invariant.3 table fits) in
    subst (λ tasks. IsLeft table (record { function = c.loop-task.self.function; objects = c.end_objects.new.objects; tasks = tasks }) c.end_objects.new.blocks
    (after_continue c.args.self.now.objects (view_of_blocks table c.args.blocks.now) (tasks_of table c.args.self.now))) (sym c.in_ok-push.ensures.ok)
    (jumped table alive c.loop-task.self.objects c.loop-task.self.function c.end_objects.new.objects c.loop-task.blocks c.end_objects.new.blocks (again ∷ c.pop.new.self) all.0.0 ((omega arith, all.0.1), all.1)
    c.end_objects.ensures.objects (c.end_objects.ensures.blocks table) (c.end_objects.ensures.known table (subst (AreKnown table) (sym c.loop-task.invariant.2) known)) _
    (ap (λ tasks. after_continue c.loop-task.self.objects (view_of_blocks table c.loop-task.blocks) (view_of_tasks table c.loop-task.self.objects tasks)) (sym whole) ∙ c.loop-task.invariant.4 table))

pub loop-task-preserved-in_default-task-3 : goal.loop-task-preserved-in_default-task-3
loop-task-preserved-in_default-task-3 c = (
  c.loop-task.invariant.0,
  c.loop-task.invariant.1,
  c.loop-task.invariant.2,
  λ table fits. behind-fits table (length c.loop-task.self.objects) c.in-Some.task c.pop.new.self (subst (TasksFit table (length c.loop-task.self.objects)) c.in-Some.ensures (c.loop-task.invariant.3 table fits)),
  λ table.
      sym (continue-passes table c.loop-task.self.objects (view_of_blocks table c.loop-task.blocks) c.in-Some.task (view_of_tasks table c.loop-task.self.objects c.pop.new.self) c.in_default-task.not-Again)
      ∙ (ap (λ tasks. after_continue c.loop-task.self.objects (view_of_blocks table c.loop-task.blocks) (view_of_tasks table c.loop-task.self.objects tasks)) (sym c.in-Some.ensures) ∙ c.loop-task.invariant.4 table),
)

pub loop-task-preserved-in_default-task-4 : goal.loop-task-preserved-in_default-task-4
loop-task-preserved-in_default-task-4 c = (
  c.loop-task.invariant.0,
  c.loop-task.invariant.1,
  c.loop-task.invariant.2,
  λ table fits. behind-fits table (length c.loop-task.self.objects) c.in-Some.task c.pop.new.self (subst (TasksFit table (length c.loop-task.self.objects)) c.in-Some.ensures (c.loop-task.invariant.3 table fits)),
  λ table.
      sym (continue-passes table c.loop-task.self.objects (view_of_blocks table c.loop-task.blocks) c.in-Some.task (view_of_tasks table c.loop-task.self.objects c.pop.new.self) c.in_default-task.not-Again)
      ∙ (ap (λ tasks. after_continue c.loop-task.self.objects (view_of_blocks table c.loop-task.blocks) (view_of_tasks table c.loop-task.self.objects tasks)) (sym c.in-Some.ensures) ∙ c.loop-task.invariant.4 table),
)

pub loop-task-preserved : goal.loop-task-preserved
loop-task-preserved c = (
  c.loop-task.invariant.0,
  c.loop-task.invariant.1,
  c.loop-task.invariant.2,
  λ table fits. behind-fits table (length c.loop-task.self.objects) c.in-Some.task c.pop.new.self (subst (TasksFit table (length c.loop-task.self.objects)) c.in-Some.ensures (c.loop-task.invariant.3 table fits)),
  λ table.
      sym (continue-passes table c.loop-task.self.objects (view_of_blocks table c.loop-task.blocks) c.in-Some.task (view_of_tasks table c.loop-task.self.objects c.pop.new.self) c.in_default-task.not-Again)
      ∙ (ap (λ tasks. after_continue c.loop-task.self.objects (view_of_blocks table c.loop-task.blocks) (view_of_tasks table c.loop-task.self.objects tasks)) (sym c.in-Some.ensures) ∙ c.loop-task.invariant.4 table),
)
