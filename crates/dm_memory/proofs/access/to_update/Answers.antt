-- Those of reading, and those of storing.
use Rattle.std.proofs.Common.{◌∙◌}
use Rattle.dm_value.specs.Sooner.{joined}
use Rattle.dm_memory.proofs.access.to_update.Goals as goal

pub returns : goal.returns
returns c = c.sooner.ensures ∙ joined _ _ _ _ c.to_read-read.ensures c.to_store-stored.ensures
