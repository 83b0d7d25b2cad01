use Rattle.std.proofs.Common.{rules}
use Rattle.dm_spell.specs.Tables.{punctuator_rows}
use Rattle.dm_spell.proofs.tables.punctuators.Goals as goal

pub returns : goal.returns
unfolding punctuator_rows
returns c = search rules
