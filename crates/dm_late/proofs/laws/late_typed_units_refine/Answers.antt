use Rattle.dm_late.proofs.LateFunctionLemmas.{late_typed_units}
use Rattle.dm_late.proofs.laws.late_typed_units_refine.Goals as goal

pub returns : goal.returns
returns c old_types new_types old new runs put f parameters body judged old_typed typed scoped sound aligned is lengths evaluated first alike closed silent always =
    late_typed_units old_types new_types old new runs old_typed typed scoped put aligned f parameters body is (λ run k. lengths) evaluated judged (λ d picked. lengths) first alike closed silent always sound
