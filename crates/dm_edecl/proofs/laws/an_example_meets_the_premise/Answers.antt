use Rattle.dm_edecl.proofs.ExampleLemmas.{twice-formed}
use Rattle.dm_edecl.proofs.laws.an_example_meets_the_premise.Goals as goal

pub returns : goal.returns
returns c = twice-formed
