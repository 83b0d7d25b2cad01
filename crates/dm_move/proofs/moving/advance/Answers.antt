-- The node that was taken is that of the choice, and what its step did stands in its place.
use Rattle.std.proofs.Common.{◌≡◌, List, map, sym, ap, subst, ◌∙◌}
use Rattle.std.specs.declared.alloc.Global.{Global}
use Rattle.std.specs.declared.vec.Vec.{Vec}
use Rattle.dm_type.specs.Tables.{Table, type_of}
use Rattle.dm_tree.specs.declared.tree.Core.{out-Core}
use Rattle.dm_meaning.specs.Choices.{chosen, in_order}
use Rattle.dm_meaning.specs.Expressions.{Move, lifted}
use Rattle.dm_meaning.specs.Running.{Run, Hole, filled_in, hole_in}
use Rattle.dm_meaning.specs.States as states
use Rattle.dm_meaning.specs.Steps.{expression_steps, moved}
use Rattle.dm_meaning.specs.Values as values
use Rattle.dm_program.specs.Sources.{meant}
use Rattle.dm_value.specs.declared.place.At.{At}
use Rattle.dm_operate.specs.declared.evaluation.Operand.{Operand}
use Rattle.dm_postfix.specs.Reductions.{step_at}
use Rattle.dm_expression.specs.declared.expression.Expression.{Expression}
use Rattle.dm_expression.specs.Standing.{Stands}
use Rattle.dm_expression.specs.Waiting.{view_of_waiting}
use Rattle.dm_frame.specs.Frames.{tasks_of}
use Rattle.dm_frame.specs.Tasks.{view_of_use}
use Rattle.dm_state.specs.Standing.{see, world_of}
use Rattle.dm_state.specs.Turns.{state_with}
use Rattle.dm_state.proofs.FitLemmas.{run-under}
use Rattle.dm_value.specs.Places.{view_of_at}
use Rattle.dm_move.specs.Progressing.{IsProgress}
use Rattle.dm_move.specs.Settling.{gap}
use Rattle.dm_move.specs.Steps.{scene_with, view_of_step}
use Rattle.dm_move.proofs.MoveLemmas.{are-operands, fits-left, lacks-of, locks-of, node-fits, operands-of, results-known, room, step-chosen}
use Rattle.dm_move.proofs.moving.advance.Goals as goal

-- with the locks that it had
stands-still : (table : Table) (one next : Expression Operand At) (run : Run) → Stands (see table) table one.row one.locks.items run → next.locks ≡ one.locks
    → Stands (see table) table one.row next.locks.items run
stands-still table one next run stands same = subst (λ (l : List At). Stands (see table) table one.row l run) (sym (ap (λ (l : Vec At Global). l.items) same)) stands

pub take_step-requires-clause-node : goal.take_step-requires-clause-node
take_step-requires-clause-node c =
    let table = c.args.program.now.table in
    let one = c.args.ongoing.now.expression in
    let next = c.take.new.self in
    let h = c.requires.ongoing in
    let fits = node-fits table c.args.choice one.row next.row next.locks.items h.run c.in_ok-taken.taken (stands-still table one next h.run h.under c.take.ensures.locks) c.in_ok-taken.ensures.taken h.fits in
    (fits.0, fits.1)

pub take_step-requires-clause-operands : goal.take_step-requires-clause-operands
take_step-requires-clause-operands c =
    let table = c.args.program.now.table in
    let one = c.args.ongoing.now.expression in
    let next = c.take.new.self in
    let h = c.requires.ongoing in
    results-known table c.args.choice one.row next.row next.locks.items h.run c.in_ok-taken.taken (stands-still table one next h.run h.under c.take.ensures.locks) c.in_ok-taken.ensures.taken h.fits

pub settle-requires-clause-room : goal.settle-requires-clause-room
settle-requires-clause-room c =
    let table = c.args.program.now.table in
    let one = c.args.ongoing.now.expression in
    let next = c.take.new.self in
    let h = c.requires.ongoing in
    room table c.args.choice one.row next.row next.locks.items h.run c.in_ok-taken.taken (stands-still table one next h.run h.under c.take.ensures.locks) c.in_ok-taken.ensures.taken h.fits

pub settle-requires-clause-lacking : goal.settle-requires-clause-lacking
settle-requires-clause-lacking c =
    let table = c.args.program.now.table in
    let one = c.args.ongoing.now.expression in
    let next = c.take.new.self in
    let h = c.requires.ongoing in
    let stands = stands-still table one next h.run h.under c.take.ensures.locks in
    record {
      lacks = lacks-of table c.args.choice one.row next.row next.locks.items h.run c.in_ok-taken.taken stands c.in_ok-taken.ensures.taken h.fits;
      fits = fits-left table c.args.choice one.row next.row next.locks.items h.run c.in_ok-taken.taken stands c.in_ok-taken.ensures.taken h.fits;
    }

pub settle-requires-clause-node : goal.settle-requires-clause-node
settle-requires-clause-node c =
    let table = c.args.program.now.table in
    let one = c.args.ongoing.now.expression in
    let next = c.take.new.self in
    let h = c.requires.ongoing in
    let fits = node-fits table c.args.choice one.row next.row next.locks.items h.run c.in_ok-taken.taken (stands-still table one next h.run h.under c.take.ensures.locks) c.in_ok-taken.ensures.taken h.fits in
    (fits.0, fits.1)

pub returns : goal.returns
returns c = λ tasks.
    let source = c.args.program.now in
    let table = source.table in
    let old = c.args.running.now in
    let one = c.args.ongoing.now.expression in
    let next = c.take.new.self in
    let all = c.in_ok-taken.taken in
    let taken = c.in_ok-taken.ensures.taken in
    let h = c.requires.ongoing in
    let choice = c.args.choice in
    let locks = next.locks.items in
    let stands = stands-still table one next h.run h.under c.take.ensures.locks in
    let before = world_of table old.blocks old.streams in
    let after = world_of table c.take_step.new.blocks c.take_step.new.streams in
    let state = state_with table tasks old in
    let names = in_order before.memory in
    let use_of = view_of_use table c.args.ongoing.now.use_of in
    let rest = tasks_of table old.frame in
    let place = c.args.ongoing.now.place in
    let hole = gap table next all.locks in
    let node = all.node.node.now in
    let kind = type_of table (out-Core node).kind in
    let step = c.in_ok-step.step in
    let own = operands-of table choice one.row next.row locks h.run all stands taken h.fits in
    let into = λ (m : Move Run Hole). moved (meant source) names state rest place use_of (lifted (filled_in hole) (hole_in hole) m) in
    let same =
    ap (λ (l : List values.At). view_of_step table kind (out-Core node).place l after step) (sym (locks-of table choice one.row next.row locks h.run all stands taken h.fits))
    ∙ (c.in_ok-step.ensures.step own (are-operands table choice one.row next.row locks h.run all stands taken h.fits)
    ∙ ap (λ (l : List At). step_at (scene_with source old.statics old.frame.objects) before (map view_of_at l) (view_of_waiting table all.node) own) c.as_slice.ensures.value) in
    let leads =
    ap (λ (run : Run). chosen state choice (expression_steps (meant source) names state rest place use_of run)) (run-under table one h.run h.under)
    ∙ (step-chosen table choice one.row next.row locks h.run all stands taken h.fits (meant source) state names place use_of rest ∙ sym (ap into same)) in
    subst (λ (state : states.State). IsProgress table c.in_ok-progress.progress c.settle.new.running c.settle.new.ongoing state) (sym leads) (c.in_ok-progress.ensures tasks before c.in_ok-step.ensures.keeps)
