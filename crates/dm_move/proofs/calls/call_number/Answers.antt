-- The definition that was found has the number.
use Rattle.std.proofs.Common.{ℕ, List, map, ap, sym, ◌∙◌}
use Rattle.dm_type.specs.CTypes.{CType}
use Rattle.dm_meaning.specs.Expressions.{Move, called, calls}
use Rattle.dm_meaning.specs.Values as values
use Rattle.dm_meaning.specs.Programs.{definition_of}
use Rattle.dm_meaning.specs.Running.{here, Run, Hole}
use Rattle.dm_program.specs.Functions.{view_of_function}
use Rattle.dm_program.specs.Sources.{meant}
use Rattle.dm_state.specs.Standing.{world_of}
use Rattle.dm_value.specs.Views.{view_of_value}
use Rattle.dm_move.specs.Steps.{scene_with}
use Rattle.dm_move.proofs.OperandLemmas.{defined-number}
use Rattle.dm_move.proofs.calls.call_number.Goals as goal

-- what a call of this function is
abbrev calling : ℕ → List values.Value → CType → Move Run Hole
calling n arguments kind = calls n arguments kind here

pub returns-in-Some-clause-step : goal.returns-in-Some-clause-step
returns-in-Some-clause-step c = λ statics objects kind place locks.
    let source = c.args.program.now in
    let table = source.table in
    let arguments = map view_of_value c.args.arguments.items in
    let found = c.in-Some.ensures.0 in
    ap (λ n. calling n arguments kind) (defined-number (meant source).functions c.args.number (view_of_function table c.in-Some.function) found)
    ∙ sym (ap (called (scene_with source statics objects) (world_of table c.args.blocks.now c.args.streams.now) kind place arguments c.args.number) found)

pub returns-in-Some-clause-fits : goal.returns-in-Some-clause-fits
returns-in-Some-clause-fits c =
    let source = c.args.program.now in
    let found = c.in-Some.ensures.0 in
    (ap (λ n. definition_of (meant source) n) (defined-number (meant source).functions c.args.number (view_of_function source.table c.in-Some.function) found) ∙ found, c.in-Some.ensures.1)
