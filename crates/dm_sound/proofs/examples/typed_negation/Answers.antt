-- The negative of a call meets each premise.
use Rattle.dm_sound.proofs.ExampleLemmas.{negation_comes, five_given}
use Rattle.dm_sound.proofs.examples.typed_negation.Goals as goal

pub returns-clause-hole : goal.returns-clause-hole
returns-clause-hole c = negation_comes

pub returns-clause-given : goal.returns-clause-given
returns-clause-given c = five_given
