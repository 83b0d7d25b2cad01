use Rattle.dm_local.proofs.SearchedLemmas.{reading-alike}
use Rattle.dm_local.proofs.laws.readings_over_such_files_are_one.Goals as goal

pub returns : goal.returns
returns c before after unit old first second one other is again of alike faultless also =
    c.one_reading_of_unit.ensures after unit old first second one other (reading-alike before after unit old first of.0 of.1 one alike is) again faultless also
