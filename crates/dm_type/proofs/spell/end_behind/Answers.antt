use Rattle.std.proofs.Common.{sym}
use Rattle.dm_type.proofs.WritingLemmas.{closing-more}
use Rattle.dm_type.proofs.spell.end_behind.Goals as goal

pub returns-else-parameters-eq0 : goal.returns-else-parameters-eq0
returns-else-parameters-eq0 c = sym (closing-more c.args.parameters c.if-parameters-eq0.false)
