-- 1 is an int, and what isn't set is of each scalar type.
use Rattle.std.specs.Prelude.{refl}
use Rattle.dm_sound.proofs.ExampleLemmas.{one_has}
use Rattle.dm_sound.proofs.examples.typed_list.Goals as goal

pub returns-clause-parts : goal.returns-clause-parts
returns-clause-parts c = refl

pub returns-clause-typed : goal.returns-clause-typed
returns-clause-typed c = one_has

pub returns-clause-character : goal.returns-clause-character
returns-clause-character c = refl
