use Rattle.dm_late.proofs.LateFunctionLemmas.{uncalled_units}
use Rattle.dm_late.proofs.laws.uncalled_units_refine.Goals as goal

pub returns : goal.returns
returns c old_types new_types old new put f parameters body old_typed typed scoped aligned is evaluated =
    uncalled_units old_types new_types old new old_typed typed scoped put aligned f parameters body is evaluated
