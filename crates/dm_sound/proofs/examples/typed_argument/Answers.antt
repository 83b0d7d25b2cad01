-- 5 is an int.
use Rattle.dm_sound.proofs.ExampleLemmas.{five_given}
use Rattle.dm_sound.proofs.examples.typed_argument.Goals as goal

pub returns : goal.returns
returns c = (five_given.typed, tt)
