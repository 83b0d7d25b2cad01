-- The tables say the same.
use Rattle.dm_sound.proofs.ExampleLemmas.{tables_same}
use Rattle.dm_sound.proofs.examples.same_tables.Goals as goal

pub returns : goal.returns
returns c = tables_same
