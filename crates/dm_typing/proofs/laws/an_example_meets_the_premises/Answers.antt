use Rattle.dm_typing.proofs.ExampleLemmas.{sum-tokens-sound, sum-formed}
use Rattle.dm_typing.proofs.laws.an_example_meets_the_premises.Goals as goal

pub returns-clause-tokens : goal.returns-clause-tokens
returns-clause-tokens c = sum-tokens-sound

pub returns-clause-tree : goal.returns-clause-tree
returns-clause-tree c = sum-formed
