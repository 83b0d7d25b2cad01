use Rattle.std.proofs.Common.{rules}
use Rattle.dm_spell.specs.Tables.{keyword_rows}
use Rattle.dm_spell.proofs.tables.keywords.Goals as goal

pub returns : goal.returns
unfolding keyword_rows
returns c = search rules
