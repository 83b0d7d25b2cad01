use Rattle.std.proofs.Common.{subst}
use Rattle.dm_macro.specs.Tables.{IsSound}
use Rattle.dm_macro.proofs.table.MacroTable.get.Goals as goal

pub returns-clause-sound : goal.returns-clause-sound
returns-clause-sound c = subst IsSound c.self.view_is c.self.invariant.0
