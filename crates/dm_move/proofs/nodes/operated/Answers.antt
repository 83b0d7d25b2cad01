-- There are no more than two operands.
use Rattle.std.proofs.Common.{arith}
use Rattle.dm_move.proofs.nodes.operated.Goals as goal

pub operate-requires-clause-operands : goal.operate-requires-clause-operands
operate-requires-clause-operands c = c.in-Some.ensures.known c.args.layout.now c.requires.operands

pub returns-in-None-clause-step : goal.returns-in-None-clause-step
returns-in-None-clause-step c = λ beside place own few. let more = c.in-None.ensures.given c.args.layout.now in absurd (omega (arith, few, more))
