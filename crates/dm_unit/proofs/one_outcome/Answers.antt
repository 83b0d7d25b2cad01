-- A unit has one outcome.
use Rattle.dm_unit.proofs.OutcomeLemmas.{one-outcome}
use Rattle.dm_unit.proofs.one_outcome.Goals as goal

pub returns : goal.returns
returns c = one-outcome
