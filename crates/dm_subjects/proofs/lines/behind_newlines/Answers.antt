-- The first offset with so many newlines before it.
use Rattle.std.proofs.Common.{arith}
use Rattle.dm_subjects.proofs.LineLemmas.{first-behind}
use Rattle.dm_subjects.proofs.lines.behind_newlines.Goals as goal

pub returns-then-left-eq0-clause-found : goal.returns-then-left-eq0-clause-found
returns-then-left-eq0-clause-found c =
    first-behind c.args.bytes.now c.args.count c.loop-at.at (omega (arith, c.loop-at.invariant.counted, c.if-left-eq0.true)) c.loop-at.invariant.few
