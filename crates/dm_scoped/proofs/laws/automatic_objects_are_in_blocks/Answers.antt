use Rattle.dm_scoped.proofs.DeclarationLemmas.{entry-unsaid}
use Rattle.dm_scoped.proofs.laws.automatic_objects_are_in_blocks.Goals as goal

pub returns : goal.returns
returns c = entry-unsaid
