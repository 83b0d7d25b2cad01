use Rattle.std.proofs.Common.{rules}
use Rattle.dm_spell.specs.Tables.{directive_rows}
use Rattle.dm_spell.proofs.tables.directives.Goals as goal

pub returns : goal.returns
unfolding directive_rows
returns c = search rules
