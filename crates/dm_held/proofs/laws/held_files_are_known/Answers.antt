use Rattle.dm_held.proofs.HeldLemmas.{held-known}
use Rattle.dm_held.proofs.laws.held_files_are_known.Goals as goal

pub returns : goal.returns
returns c old new slots = held-known old new slots
