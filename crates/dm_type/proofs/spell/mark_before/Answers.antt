use Rattle.std.proofs.Common.{sym}
use Rattle.dm_type.proofs.WritingLemmas.{between-more}
use Rattle.dm_type.proofs.spell.mark_before.Goals as goal

pub returns-else-parameter-eq0 : goal.returns-else-parameter-eq0
returns-else-parameter-eq0 c = sym (between-more c.args.parameter c.if-parameter-eq0.false)
