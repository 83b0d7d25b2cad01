-- The loop goes on at its condition, behind its first part.
use Rattle.std.proofs.Common.{◌≡◌, ◌∷◌, ◌++◌, length, Some, None, ap, sym, subst, arith, ◌∙◌}
use Rattle.dm_tree.specs.Views.{view}
use Rattle.dm_memory.specs.Blocks.{view_of_blocks}
use Rattle.dm_meaning.specs.Choices.{in_order}
use Rattle.dm_meaning.specs.States as states
use Rattle.dm_meaning.specs.Statements.{onward, begin_for, declared_by, start_tasks}
use Rattle.dm_program.specs.Sources.{meant}
use Rattle.dm_frame.specs.declared.task.Task.TheVariants as task
use Rattle.dm_frame.specs.Entering.{IsEntered}
use Rattle.dm_frame.specs.Frames.{tasks_of}
use Rattle.dm_frame.specs.Tasks.{tree_or_none, view_of_begun, view_of_loop, view_of_tasks, FitsIfThere, StartFits, TasksFit}
use Rattle.dm_frame.proofs.BeginLemmas.{ends-fit, ends-led, tests-fit, tests-led}
use Rattle.dm_frame.proofs.BlockLemmas.{for-begun, none-lost}
use Rattle.dm_frame.proofs.statement.begin_for.Goals as goal

pub returns-in_ok-tests-in-None-clause-left : goal.returns-in_ok-tests-in-None-clause-left
returns-in_ok-tests-in-None-clause-left c =
    let program = meant c.args.program.now in
    let table = c.args.program.now.table in
    let start = c.args.frame.now in
    let middle = c.ends.new.self in
    let after = c.tests.new.self in
    let loop = c.args.repeated in
    let memory = view_of_blocks table c.args.blocks.now in
    let left : tasks_of table after ≡ states.tests start.objects (view_of_loop table loop) ∷ states.ends start.objects ∷ tasks_of table start =
    tests-led table middle after c.in_ok-tests-in-None.ensures.objects loop c.in_ok-tests-in-None.ensures.tasks
    ∙ (ap (λ objects. states.tests objects (view_of_loop table loop) ∷ tasks_of table middle) c.in_ok-ends.ensures.objects
    ∙ ap (λ tasks. states.tests start.objects (view_of_loop table loop) ∷ tasks) (ends-led table start middle c.in_ok-ends.ensures.objects c.in_ok-ends.ensures.tasks)) in
    record {
      same = ap (λ objects. onward objects (tasks_of table after) memory) (c.in_ok-tests-in-None.ensures.objects ∙ c.in_ok-ends.ensures.objects)
          ∙ (ap (λ tasks. onward start.objects tasks memory) left
          ∙ ap (λ first. begin_for program (in_order memory) start.objects (tasks_of table start) memory first (view_of_loop table loop)) (sym (ap (tree_or_none table) c.in-None.is)));
      frame_fits = tests-fit table middle after loop c.in_ok-tests-in-None.ensures.objects c.in_ok-tests-in-None.ensures.tasks c.requires.repeated
          (ends-fit table start middle c.in_ok-ends.ensures.objects c.in_ok-ends.ensures.tasks c.requires.frame);
      begun_fits = tt;
      blocks_fit = c.requires.blocks;
    }

pub returns-in_ok-begun-in-Some-clause-left : goal.returns-in_ok-begun-in-Some-clause-left
returns-in_ok-begun-in-Some-clause-left c =
    let program = meant c.args.program.now in
    let table = c.args.program.now.table in
    let start = c.args.frame.now in
    let first = c.in-Some.start.now in
    let loop = c.args.repeated in
    let named = c.enter_item.new.objects in
    let made = c.enter_item.new.blocks in
    let before = view_of_blocks table c.args.blocks.now in
    let tested = c.tests-in-Some.new.self in
    let ds = declared_by program (view table first) in
    let entered = subst (λ objects. IsEntered program ds objects c.args.blocks.now named made) c.in_ok-ends.ensures.objects c.in_ok-enter_item-in-Some.ensures in
    let tasks : tested.tasks ≡ task.Tests (length named) loop ∷ task.Ends (length start.objects) ∷ start.tasks =
    c.in_ok-tests-in-Some.ensures.tasks ∙ ap (λ rest. task.Tests (length named) loop ∷ rest) c.in_ok-ends.ensures.tasks in
    let left = view_of_begun table c.in_ok-begun-in-Some.begun ++ tasks_of table c.begin_start.new.self in
    let is : left ≡ start_tasks (Some (view table first)) ++ view_of_tasks table named (task.Tests (length named) loop ∷ task.Ends (length start.objects) ∷ start.tasks) =
    c.in_ok-begun-in-Some.ensures.same table
    ∙ (ap (λ objects. start_tasks (Some (view table first)) ++ view_of_tasks table objects tested.tasks) c.in_ok-tests-in-Some.ensures.objects
    ∙ ap (λ all. start_tasks (Some (view table first)) ++ view_of_tasks table named all) tasks) in
    let known = subst (FitsIfThere (StartFits table)) c.in-Some.is c.requires.start in
    let fits = c.in_ok-begun-in-Some.ensures.fits table
    (subst (λ objects. TasksFit table (length objects) tested.tasks) (sym c.in_ok-tests-in-Some.ensures.objects)
    (subst (TasksFit table (length named)) (sym tasks)
    ((omega arith, c.requires.repeated), (none-lost program ds start.objects named c.args.blocks.now made entered, c.requires.frame)))) known in
    record {
      same = ap (λ objects. onward objects left (view_of_blocks table made)) (c.in_ok-begun-in-Some.ensures.objects ∙ c.in_ok-tests-in-Some.ensures.objects)
          ∙ (for-begun program (view table first) loop start.objects named c.args.blocks.now made start.tasks left entered c.requires.frame is
          ∙ ap (λ one. begin_for program (in_order before) start.objects (tasks_of table start) before one (view_of_loop table loop)) (sym (ap (tree_or_none table) c.in-Some.is)));
      frame_fits = fits.0;
      begun_fits = fits.1;
      blocks_fit = entered.known;
    }
