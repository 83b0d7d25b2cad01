use Rattle.std.specs.Prelude.{[], None}
use Rattle.dm_refine.proofs.BackLemmas.{aligned_back}
use Rattle.dm_refine.proofs.EnumeratorUnitLemmas.{enumerated_units}
use Rattle.dm_refine.proofs.laws.unread_units_refine.Goals as goal

pub returns-clause-new : goal.returns-clause-new
returns-clause-new c old_types new_types old new runs old_typed typed aligned = enumerated_units old_types new_types old new runs old_typed typed None tt aligned

pub returns-clause-old : goal.returns-clause-old
returns-clause-old c old_types new_types old new runs old_typed typed aligned =
    enumerated_units new_types old_types new old [] typed old_typed None tt (aligned_back old_types new_types old new runs aligned)
