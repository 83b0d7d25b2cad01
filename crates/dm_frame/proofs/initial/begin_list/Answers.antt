-- Each initialiser is left to do, and the object has its value.
use Rattle.std.proofs.Common.{List, ◌++◌, length, ap, sym, subst, ◌∙◌}
use Rattle.dm_type.specs.Tables.{Table}
use Rattle.dm_tree.specs.Views.{items_of, expressions_of_items}
use Rattle.dm_layout.specs.Kinds.{type_of_object}
use Rattle.dm_layout.specs.LaidOut.{laid_out}
use Rattle.dm_memory.specs.Blocks.{view_of_blocks}
use Rattle.dm_meaning.specs.Memory.{written}
use Rattle.dm_meaning.specs.Statements.{count_items, onward, part_tasks, value_listed}
use Rattle.dm_value.specs.Places.{view_of_at}
use Rattle.dm_value.specs.Views.{view_of_value}
use Rattle.dm_frame.specs.declared.task.Task.{Task}
use Rattle.dm_frame.specs.Frames.{tasks_of}
use Rattle.dm_frame.specs.Tasks.{initials_at, view_of_tasks, TasksFit}
use Rattle.dm_frame.proofs.InitialLemmas.{items-counted}
use Rattle.dm_frame.proofs.initial.begin_list.Goals as goal

pub returns-clause-left : goal.returns-clause-left
returns-clause-left c =
    let table = c.args.program.now.table in
    let frame = c.args.frame.now in
    let memory = view_of_blocks table c.args.blocks.now in
    let at = view_of_at c.args.at in
    let kind = type_of_object table c.args.kind in
    let items = initials_at table c.args.items.now in
    let left = part_tasks (laid_out table) at kind 0 (items_of items) (expressions_of_items items) ++ tasks_of table frame in
    record {
      same = ap (λ (tasks : List Task). onward frame.objects (view_of_tasks table frame.objects tasks) (view_of_blocks table c.store.new.self)) c.in_ok-push.ensures.ok
          ∙ (ap (onward frame.objects left) (c.in_ok-store.ensures.view table)
          ∙ (ap (λ value. onward frame.objects left (written memory at value)) c.in_ok-value.ensures
          ∙ (ap (λ (own : Table). onward frame.objects left (written memory at (value_listed (laid_out own) (type_of_object own c.args.kind) (length c.args.items.now) (view_of_value c.in_ok-before.before)))) c.layout.ensures
          ∙ (ap (λ n. onward frame.objects left (written memory at (value_listed (laid_out table) kind n (view_of_value c.in_ok-before.before)))) (sym (items-counted table c.args.items.now))
          ∙ ap (λ before. onward frame.objects left (written memory at (value_listed (laid_out table) kind (count_items (items_of items)) before))) (c.in_ok-before.ensures table)))));
      fits = subst (λ (tasks : List Task). TasksFit table (length frame.objects) tasks) (sym c.in_ok-push.ensures.ok) ((c.requires.kind, c.requires.items), c.requires.frame);
      known = c.in_ok-store.ensures.known table c.requires.blocks;
    }
