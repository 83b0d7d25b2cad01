-- A loop goes on at its condition.
use Rattle.std.proofs.Common.{◌≡◌, ℕ, ◌≤◌, List, ◌∷◌, length, ap, ap₂, sym, subst, ◌∙◌, arith}
use Rattle.dm_memory.specs.Blocks.{view_of_blocks}
use Rattle.dm_meaning.specs.Operations.{Objects, of_value}
use Rattle.dm_meaning.specs.States as states
use Rattle.dm_meaning.specs.Statements.{onward, concluded}
use Rattle.dm_value.specs.Views.{view_of_value}
use Rattle.dm_program.specs.Sources.{meant}
use Rattle.dm_frame.specs.declared.task.Task.{Task}
use Rattle.dm_frame.specs.declared.task.Task.TheVariants as task
use Rattle.dm_frame.specs.declared.task.Use.{Use}
use Rattle.dm_frame.specs.Frames.{tasks_of}
use Rattle.dm_frame.specs.Tasks.{view_of_loop, view_of_tasks, view_of_use, TasksFit, UseFits}
use Rattle.dm_frame.proofs.KeptLemmas.{kept-whole}
use Rattle.dm_frame.proofs.conclusion.conclude.Goals as goal

pub returns-in_ok-tests-in-Continues-clause-left : goal.returns-in_ok-tests-in-Continues-clause-left
returns-in_ok-tests-in-Continues-clause-left c = λ place.
    let table = c.args.program.now.table in
    let frame = c.args.frame.now in
    let memory = view_of_blocks table c.args.blocks.now in
    let repeated = c.in-Continues.repeated in
    let ensured = c.in_ok-tests-in-Continues.ensures in
    let loop_fits = subst (UseFits table) c.in-Continues.is c.requires.use_of in
    record {
      same = ap₂ (λ (objects : Objects) (tasks : List Task). onward objects (view_of_tasks table objects tasks) memory) ensured.objects ensured.tasks
          ∙ (ap (λ saved. onward frame.objects (states.tests saved (view_of_loop table repeated) ∷ tasks_of table frame) memory) (kept-whole frame.objects)
          ∙ ap (λ (use_of : Use). concluded (meant c.args.program.now) frame.objects (tasks_of table frame) memory place (view_of_use table use_of) (of_value (view_of_value c.args.value.now))) (sym c.in-Continues.is));
      fits = subst (λ (tasks : List Task). TasksFit table (length c.tests.new.self.objects) tasks) (sym ensured.tasks)
          (subst (λ (objects : Objects). TasksFit table (length objects) (task.Tests (length frame.objects) repeated ∷ frame.tasks)) (sym ensured.objects)
          ((all (length frame.objects), loop_fits), c.requires.frame));
      known = c.requires.blocks;
    }
  where
    all : (n : ℕ) → n ≤ n
    all n = omega arith
