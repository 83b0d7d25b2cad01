use Rattle.std.specs.Prelude.{refl}
use Rattle.dm_sound.proofs.ExampleLemmas.{unit_fits}
use Rattle.dm_in_place.proofs.examples.a_set_object.Goals as goal

pub returns-clause-typed : goal.returns-clause-typed
returns-clause-typed c = unit_fits

pub returns-clause-set : goal.returns-clause-set
returns-clause-set c = refl
