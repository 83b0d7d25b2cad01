use Rattle.std.proofs.Common.{sym}
use Rattle.dm_lex.proofs.RunLemmas.{beyond-above, beyond-at_zero}
use Rattle.dm_lex.proofs.scan.beyond.Goals as goal

pub returns-then-far-eq0-clause-far : goal.returns-then-far-eq0-clause-far
returns-then-far-eq0-clause-far c = sym (beyond-at_zero c.args.more c.args.far c.if-far-eq0.true)

pub returns-else-far-eq0-clause-far : goal.returns-else-far-eq0-clause-far
returns-else-far-eq0-clause-far c = sym (beyond-above c.args.more c.args.far c.if-far-eq0.false)
