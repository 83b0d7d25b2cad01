use Rattle.dm_edecl.proofs.UnitFitLemmas.{beginning-sound}
use Rattle.dm_edecl.proofs.laws.a_unit_begins_soundly.Goals as goal

pub returns : goal.returns
returns c = beginning-sound
