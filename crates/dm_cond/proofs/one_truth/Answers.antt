-- Reading has one outcome.
use Rattle.dm_cond.proofs.Truths.{truth-unique}
use Rattle.dm_cond.proofs.one_truth.Goals as goal

pub returns : goal.returns
returns c = truth-unique
