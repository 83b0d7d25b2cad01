-- The items come next, and their objects are made.
use Rattle.std.proofs.Common.{◌≡◌, ◌∷◌, map, length, ap, sym, subst, ◌∙◌}
use Rattle.dm_tree.specs.Views.{view}
use Rattle.dm_memory.specs.Blocks.{view_of_blocks}
use Rattle.dm_meaning.specs.Statements.{onward, declared_in}
use Rattle.dm_program.specs.Sources.{meant}
use Rattle.dm_frame.specs.declared.task.Task.TheVariants as task
use Rattle.dm_frame.specs.Entering.{IsEntered}
use Rattle.dm_frame.specs.Tasks.{view_of_tasks, TasksFit}
use Rattle.dm_frame.proofs.BlockLemmas.{block-begun, none-lost}
use Rattle.dm_frame.proofs.statement.begin_block.Goals as goal

pub returns-clause-left : goal.returns-clause-left
returns-clause-left c =
    let program = meant c.args.program.now in
    let table = c.args.program.now.table in
    let start = c.args.frame.now in
    let named = c.enter.new.objects in
    let made = c.enter.new.blocks in
    let ds = declared_in program (map (view table) c.args.items.now) in
    let entered = subst (λ objects. IsEntered program ds objects c.args.blocks.now named made) c.in_ok-ends.ensures.objects c.in_ok-enter.ensures in
    let tasks : c.push.new.self ≡ task.Items c.args.items ∷ task.Ends (length start.objects) ∷ start.tasks = c.in_ok-push.ensures.ok ∙ ap (λ rest. task.Items c.args.items ∷ rest) c.in_ok-ends.ensures.tasks in
    record {
      same = ap (λ all. onward named (view_of_tasks table named all) (view_of_blocks table made)) tasks
          ∙ block-begun program c.args.items start.objects named c.args.blocks.now made start.tasks entered c.requires.frame;
      frame_fits = subst (TasksFit table (length named)) (sym tasks) (c.requires.items, (none-lost program ds start.objects named c.args.blocks.now made entered, c.requires.frame));
      begun_fits = tt;
      blocks_fit = entered.known;
    }
