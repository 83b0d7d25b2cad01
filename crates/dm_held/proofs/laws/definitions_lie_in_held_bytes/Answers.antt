use Rattle.dm_held.proofs.HeldLemmas.{definitions-held}
use Rattle.dm_held.proofs.laws.definitions_lie_in_held_bytes.Goals as goal

pub returns : goal.returns
returns c unit old new pp reads grows numbered new_numbered =
    definitions-held c.definitions_lie_in_bytes.ensures c.definitions_are_made.ensures c.definitions_stand_in_known_files.ensures unit old new pp reads grows numbered new_numbered
