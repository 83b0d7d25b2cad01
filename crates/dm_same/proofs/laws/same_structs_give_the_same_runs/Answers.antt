use Rattle.std.proofs.Common.{sym}
use Rattle.dm_same.proofs.MachineLemmas.{same_runs, refines_same}
use Rattle.dm_same.proofs.laws.same_structs_give_the_same_runs.Goals as goal

pub returns-clause-runs : goal.returns-clause-runs
returns-clause-runs c old new one input n state same = (same_runs old new same one input n state, same_runs new old (sym same) one input n state)

pub returns-clause-refines : goal.returns-clause-refines
returns-clause-refines c old new one same = (refines_same old new same one, refines_same new old (sym same) one)
