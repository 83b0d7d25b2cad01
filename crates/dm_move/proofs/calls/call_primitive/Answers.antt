-- The declaration names this function of the machine, and the step is what it answered.
use Rattle.std.proofs.Common.{◌≡◌, ℕ, List, Some, map, sym, subst, ◌∙◌}
use Rattle.dm_type.specs.Tables.{Table, type_of}
use Rattle.dm_layout.specs.LaidOut.{laid_out}
use Rattle.dm_tree.specs.Views.{view_of_declared}
use Rattle.dm_meaning.specs.Primitives.{Prim}
use Rattle.dm_memory.specs.Blocks.{view_of_blocks}
use Rattle.dm_primitive.specs.Meanings.{meaning_of, IsAnswer}
use Rattle.dm_state.specs.Standing.{world_of}
use Rattle.dm_value.specs.Views.{view_of_value}
use Rattle.dm_move.proofs.CallLemmas.{primitive-called}
use Rattle.dm_move.proofs.calls.call_primitive.Goals as goal

pub returns-clause-step : goal.returns-clause-step
returns-clause-step c = λ statics objects kind place locks.
    let source = c.args.program.now in
    let table = source.table in
    let blocks = c.args.blocks.now in
    let before = c.args.streams.now in
    let after = c.call.new.streams in
    let arguments = map view_of_value c.args.arguments.now in
    let primitive = c.in-Some-of.primitive in
    let entry = c.in-Some.entry.now in
    let types : c.types.result.now ≡ table = c.types.ensures ∙ c.layout-layout.ensures in
    let meant_answer = meaning_of primitive (laid_out table) (view_of_blocks table blocks) arguments before.input.now before.output in
    let same : Prim entry.name (type_of table entry.kind) (laid_out table) (view_of_blocks table blocks) arguments before.input.now before.output ≡ Some meant_answer =
    subst (λ (name : List ℕ). Prim name (type_of table entry.kind) (laid_out table) (view_of_blocks table blocks) arguments before.input.now before.output ≡ Some meant_answer) c.bytes.ensures
    (subst (λ (t : Table). Prim c.bytes.result.now (type_of t entry.kind) (laid_out table) (view_of_blocks table blocks) arguments before.input.now before.output ≡ Some meant_answer) types
    (c.in-Some-of.ensures.same (laid_out table) (view_of_blocks table blocks) arguments before.input.now before.output)) in
    let answers =
    subst (λ (t : Table). IsAnswer (meaning_of primitive (laid_out t) (view_of_blocks t blocks) arguments before.input.now before.output) before c.in_ok-answer.answer after)
    c.layout-layout.ensures c.in_ok-answer.ensures in
    c.answered.ensures.step table blocks before after meant_answer kind place locks answers
    ∙ sym (primitive-called source statics objects (world_of table blocks before) kind place arguments c.args.number (view_of_declared table entry) (Some meant_answer) c.in-Some.ensures.0 same)

pub returns-clause-keeps : goal.returns-clause-keeps
returns-clause-keeps c =
    let table = c.args.program.now.table in
    let blocks = c.args.blocks.now in
    let before = c.args.streams.now in
    let after = c.call.new.streams in
    let arguments = map view_of_value c.args.arguments.now in
    let primitive = c.in-Some-of.primitive in
    let answers =
    subst (λ (t : Table). IsAnswer (meaning_of primitive (laid_out t) (view_of_blocks t blocks) arguments before.input.now before.output) before c.in_ok-answer.answer after)
    c.layout-layout.ensures c.in_ok-answer.ensures in
    c.answered.ensures.keeps table blocks before after _ answers

pub returns-clause-fits : goal.returns-clause-fits
returns-clause-fits c = c.answered.ensures.fits c.args.program.now
