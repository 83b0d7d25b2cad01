-- `break` passes by what is no loop and no switch.
use Rattle.std.proofs.Common.{◌≡◌, ℕ, ◌≤◌, List, ◌∷◌, length, ap, sym, subst, arith, ◌∙◌}
use Rattle.dm_type.specs.Tables.{Table}
use Rattle.dm_memory.specs.Blocks.{view_of_blocks, AreKnown}
use Rattle.dm_meaning.specs.Statements.{after_break}
use Rattle.dm_frame.specs.declared.task.Task.TheVariants as task
use Rattle.dm_frame.specs.Frames.{tasks_of, IsLeft}
use Rattle.dm_frame.specs.Tasks.{view_of_tasks, TasksFit}
use Rattle.dm_frame.proofs.JumpLemmas.{break-passes, jumped}
use Rattle.dm_frame.proofs.TaskLemmas.{behind-fits}
use Rattle.dm_frame.proofs.frame.Frame.leave.Goals as goal

pub returns-in-Again-clause-left : goal.returns-in-Again-clause-left
returns-in-Again-clause-left c = λ table fits known.
    let whole = c.in-Some.ensures ∙ ap (λ one. one ∷ c.pop.new.self) c.in-Again.is in
    let all = subst (TasksFit table (length c.loop-task.self.objects)) whole (c.loop-task.invariant.3 table fits) in
    jumped table c.in-Again.alive c.loop-task.self.objects c.loop-task.self.function c.end_objects.new.objects c.loop-task.blocks c.end_objects.new.blocks c.pop.new.self all.0.0 all.1
    c.end_objects.ensures.objects (c.end_objects.ensures.blocks table) (c.end_objects.ensures.known table (subst (AreKnown table) (sym c.loop-task.invariant.2) known)) _
    (ap (λ tasks. after_break c.loop-task.self.objects (view_of_blocks table c.loop-task.blocks) (view_of_tasks table c.loop-task.self.objects tasks)) (sym whole) ∙ c.loop-task.invariant.4 table)

pub returns-in-EndsSwitch-clause-left : goal.returns-in-EndsSwitch-clause-left
returns-in-EndsSwitch-clause-left c = λ table fits known.
    let alive : ℕ = c.in-EndsSwitch.alive in
    let named = c.end_objects-in-EndsSwitch in
    let whole = c.in-Some.ensures ∙ ap (λ one. one ∷ c.pop.new.self) c.in-EndsSwitch.is in
    let all = subst (TasksFit table (length c.loop-task.self.objects)) whole (c.loop-task.invariant.3 table fits) in
    subst (λ tasks. IsLeft table (record { function = c.loop-task.self.function; objects = named.new.objects; tasks = tasks }) named.new.blocks
    (after_break c.args.self.now.objects (view_of_blocks table c.args.blocks.now) (tasks_of table c.args.self.now))) (sym c.in_ok-push-in-EndsSwitch.ensures.ok)
    (jumped table alive c.loop-task.self.objects c.loop-task.self.function named.new.objects c.loop-task.blocks named.new.blocks (task.EndsSwitch alive ∷ c.pop.new.self) all.0 (omega arith, all.1)
    named.ensures.objects (named.ensures.blocks table) (named.ensures.known table (subst (AreKnown table) (sym c.loop-task.invariant.2) known)) _
    (ap (λ tasks. after_break c.loop-task.self.objects (view_of_blocks table c.loop-task.blocks) (view_of_tasks table c.loop-task.self.objects tasks)) (sym whole) ∙ c.loop-task.invariant.4 table))

pub loop-task-preserved-in_default-task-3 : goal.loop-task-preserved-in_default-task-3
loop-task-preserved-in_default-task-3 c = (
  c.loop-task.invariant.0,
  c.loop-task.invariant.1,
  c.loop-task.invariant.2,
  λ table fits. behind-fits table (length c.loop-task.self.objects) c.in-Some.task c.pop.new.self (subst (TasksFit table (length c.loop-task.self.objects)) c.in-Some.ensures (c.loop-task.invariant.3 table fits)),
  λ table.
      sym (break-passes table c.loop-task.self.objects (view_of_blocks table c.loop-task.blocks) c.in-Some.task (view_of_tasks table c.loop-task.self.objects c.pop.new.self) c.in_default-task.not-Again c.in_default-task.not-EndsSwitch)
      ∙ (ap (λ tasks. after_break c.loop-task.self.objects (view_of_blocks table c.loop-task.blocks) (view_of_tasks table c.loop-task.self.objects tasks)) (sym c.in-Some.ensures) ∙ c.loop-task.invariant.4 table),
)

pub loop-task-preserved-in_default-task-4 : goal.loop-task-preserved-in_default-task-4
loop-task-preserved-in_default-task-4 c = (
  c.loop-task.invariant.0,
  c.loop-task.invariant.1,
  c.loop-task.invariant.2,
  λ table fits. behind-fits table (length c.loop-task.self.objects) c.in-Some.task c.pop.new.self (subst (TasksFit table (length c.loop-task.self.objects)) c.in-Some.ensures (c.loop-task.invariant.3 table fits)),
  λ table.
      sym (break-passes table c.loop-task.self.objects (view_of_blocks table c.loop-task.blocks) c.in-Some.task (view_of_tasks table c.loop-task.self.objects c.pop.new.self) c.in_default-task.not-Again c.in_default-task.not-EndsSwitch)
      ∙ (ap (λ tasks. after_break c.loop-task.self.objects (view_of_blocks table c.loop-task.blocks) (view_of_tasks table c.loop-task.self.objects tasks)) (sym c.in-Some.ensures) ∙ c.loop-task.invariant.4 table),
)

pub loop-task-preserved : goal.loop-task-preserved
loop-task-preserved c = (
  c.loop-task.invariant.0,
  c.loop-task.invariant.1,
  c.loop-task.invariant.2,
  λ table fits. behind-fits table (length c.loop-task.self.objects) c.in-Some.task c.pop.new.self (subst (TasksFit table (length c.loop-task.self.objects)) c.in-Some.ensures (c.loop-task.invariant.3 table fits)),
  λ table.
      sym (break-passes table c.loop-task.self.objects (view_of_blocks table c.loop-task.blocks) c.in-Some.task (view_of_tasks table c.loop-task.self.objects c.pop.new.self) c.in_default-task.not-Again c.in_default-task.not-EndsSwitch)
      ∙ (ap (λ tasks. after_break c.loop-task.self.objects (view_of_blocks table c.loop-task.blocks) (view_of_tasks table c.loop-task.self.objects tasks)) (sym c.in-Some.ensures) ∙ c.loop-task.invariant.4 table),
)
