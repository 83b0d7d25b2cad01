use Rattle.dm_standing.proofs.UnitLemmas.{calls_evaluated}
use Rattle.dm_standing.proofs.laws.calls_are_evaluated.Goals as goal

pub returns : goal.returns
returns c old_types new_types old new runs put f parameters body old_typed typed aligned adds told keep =
    calls_evaluated old_types new_types old new runs put f parameters body old_typed typed aligned adds told keep
