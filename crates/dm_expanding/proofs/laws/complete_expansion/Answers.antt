-- A unit comes to one thing.
use Rattle.dm_expanding.proofs.ExpandSteps.{complete_unit}
use Rattle.dm_expanding.proofs.laws.complete_expansion.Goals as goal

pub returns : goal.returns
returns c = complete_unit
