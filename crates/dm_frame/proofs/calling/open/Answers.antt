-- The frame has the objects of the parameters and those of the body, and the items of the body are left to do.
use Rattle.std.proofs.Common.{◌≡◌, ℕ, List, ◌∷◌, [], map, length, ap, sym, subst, ◌∙◌}
use Rattle.std.proofs.lemmas.List.{append-nil}
use Rattle.dm_tree.specs.Trees.{Tree}
use Rattle.dm_tree.specs.Views.{view}
use Rattle.dm_memory.specs.Blocks.{view_of_blocks}
use Rattle.dm_meaning.specs.Choices.{in_order}
use Rattle.dm_meaning.specs.Operations.{Objects}
use Rattle.dm_meaning.specs.States as states
use Rattle.dm_meaning.specs.Statements.{declared_in, items_tasks, made_from, named_from}
use Rattle.dm_meaning.specs.Steps.{given_from}
use Rattle.dm_value.specs.Views.{view_of_value}
use Rattle.dm_program.specs.Sources.{meant}
use Rattle.dm_frame.specs.declared.task.Task.{Task}
use Rattle.dm_frame.specs.declared.task.Task.TheVariants as task
use Rattle.dm_frame.specs.Calling.{IsGiven}
use Rattle.dm_frame.specs.Tasks.{view_of_tasks, TasksFit}
use Rattle.dm_frame.proofs.CallLemmas.{opened-so}
use Rattle.dm_frame.proofs.FitLemmas.{trees-fit}
use Rattle.dm_frame.proofs.calling.open.Goals as goal

abbrev framed : ℕ → Objects → List states.Task → states.Frame
framed function objects tasks = record { function = function; objects = objects; tasks = tasks }

pub returns-clause-frame : goal.returns-clause-frame
returns-clause-frame c =
    let program = meant c.args.program.now in
    let table = c.args.program.now.table in
    let one = c.args.function in
    let names = in_order (view_of_blocks table c.args.blocks.now) in
    let trees = map (view table) one.items.now in
    let given = subst (λ (objects : Objects). IsGiven program one.parameters.now (map view_of_value c.args.arguments.now) objects c.args.blocks.now c.give.new.objects c.give.new.blocks) c.new-objects.ensures c.in_ok-give.ensures in
    let made = opened-so program one.parameters.now (declared_in program trees) (map view_of_value c.args.arguments.now) c.args.blocks.now c.give.new.blocks c.enter.new.blocks c.give.new.objects c.enter.new.objects given c.in_ok-enter.ensures in
    let left : c.push.new.self ≡ task.Items one.items ∷ [] = c.in_ok-push.ensures.ok ∙ ap (λ (rest : List Task). task.Items one.items ∷ rest) c.new-tasks.ensures in
    ap (λ (tasks : List Task). framed one.number c.enter.new.objects (view_of_tasks table c.enter.new.objects tasks)) left
    ∙ (ap (framed one.number c.enter.new.objects) (append-nil (items_tasks trees))
    ∙ (ap (λ (objects : Objects). framed one.number objects (items_tasks trees)) (sym made.0)
    ∙ ap (λ (items : List Tree). framed one.number (named_from names (length one.parameters.now) (declared_in program items) (named_from names 0 one.parameters.now [])) (items_tasks items)) c.requires.function.items))

pub returns-clause-memory : goal.returns-clause-memory
returns-clause-memory c =
    let program = meant c.args.program.now in
    let table = c.args.program.now.table in
    let one = c.args.function in
    let memory = view_of_blocks table c.args.blocks.now in
    let trees = map (view table) one.items.now in
    let given = subst (λ (objects : Objects). IsGiven program one.parameters.now (map view_of_value c.args.arguments.now) objects c.args.blocks.now c.give.new.objects c.give.new.blocks) c.new-objects.ensures c.in_ok-give.ensures in
    let made = opened-so program one.parameters.now (declared_in program trees) (map view_of_value c.args.arguments.now) c.args.blocks.now c.give.new.blocks c.enter.new.blocks c.give.new.objects c.enter.new.objects given c.in_ok-enter.ensures in
    sym made.1
    ∙ ap (λ (items : List Tree). made_from program (in_order memory) (length one.parameters.now) (declared_in program items) (given_from program (in_order memory) 0 one.parameters.now (map view_of_value c.args.arguments.now) memory)) c.requires.function.items

pub returns-clause-fits : goal.returns-clause-fits
returns-clause-fits c =
    let one = c.args.function in
    let left : c.push.new.self ≡ task.Items one.items ∷ [] = c.in_ok-push.ensures.ok ∙ ap (λ (rest : List Task). task.Items one.items ∷ rest) c.new-tasks.ensures in
    let fits = trees-fit c.args.program.now.table one.items.now c.requires.function.known_items c.requires.function.whole_items in
    subst (TasksFit c.args.program.now.table (length c.enter.new.objects)) (sym left) (fits, tt)
