use Rattle.dm_refined.proofs.RunLemmas.{runs_of_expansions}
use Rattle.dm_refined.proofs.laws.runs_are_of_expansions.Goals as goal

pub returns : goal.returns
returns c definition files unit old new reading is of = runs_of_expansions definition reading (c.marks_are_listed.ensures files unit old new reading is of)
