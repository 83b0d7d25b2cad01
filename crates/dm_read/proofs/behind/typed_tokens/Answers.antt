-- Each layer in turn.
use Rattle.dm_read.proofs.ReadingLemmas.{layers-handed, no-tokens, no-syntax, no-types, all-layers, well-typed}
use Rattle.dm_read.proofs.behind.typed_tokens.Goals as goal

pub returns-in_err-made-clause-layers : goal.returns-in_err-made-clause-layers
returns-in_err-made-clause-layers c =
    layers-handed c.args.tokens.now c.from_residual.result c.in_err-made.field-0.0 c.from_residual.ensures.1 (no-tokens c.args.tokens.now c.in_err-made.field-0.0 c.in_err-made.ensures)

pub returns-in_err-syntax-clause-layers : goal.returns-in_err-syntax-clause-layers
returns-in_err-syntax-clause-layers c =
    layers-handed c.args.tokens.now c.from_residual-in_err-syntax.result c.in_err-syntax.field-0.0 c.from_residual-in_err-syntax.ensures.1
    (no-syntax c.args.tokens.now c.in_ok-made.made c.in_ok-made.ensures c.in_err-syntax.field-0.0 c.items.result.now c.items.ensures c.in_err-syntax.ensures.stop)

pub returns-in_err-core-clause-layers : goal.returns-in_err-core-clause-layers
returns-in_err-core-clause-layers c =
    layers-handed c.args.tokens.now c.from_residual-in_err-core.result c.in_err-core.field-0.0 c.from_residual-in_err-core.ensures.1
    (no-types c.args.tokens.now c.in_ok-made.made c.in_ok-made.ensures c.in_ok-syntax.syntax c.items.result.now c.items-2.result.now c.items-3.result.now c.items.ensures c.items-2.ensures c.items-3.ensures
    c.in_ok-syntax.ensures.syntax c.in_err-core.field-0.0 c.in_err-core.ensures.unit)

pub returns-clause-layers : goal.returns-clause-layers
returns-clause-layers c =
    all-layers c.args.tokens.now c.in_ok-made.made c.in_ok-made.ensures c.in_ok-syntax.syntax c.items.result.now c.items-2.result.now c.items-3.result.now c.items.ensures c.items-2.ensures c.items-3.ensures
    c.in_ok-syntax.ensures.syntax c.in_ok-core.core c.in_ok-core.types c.in_ok-core.ensures.unit

pub returns-clause-well_typed : goal.returns-clause-well_typed
returns-clause-well_typed c =
    well-typed c.args.tokens.now c.in_ok-made.made c.in_ok-made.ensures c.in_ok-syntax.syntax c.items.result.now c.items-2.result.now c.items-3.result.now c.items.ensures c.items-2.ensures c.items-3.ensures
    c.in_ok-syntax.ensures.syntax c.in_ok-core.core c.in_ok-core.types c.in_ok-core.ensures.well_typed
