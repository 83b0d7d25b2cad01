use Rattle.dm_local.proofs.SearchedLemmas.{reading-alike}
use Rattle.dm_local.proofs.laws.readings_hang_on_what_they_look_for.Goals as goal

pub returns : goal.returns
returns c before after unit old new result is of alike = reading-alike before after unit old new of.0 of.1 result alike is
