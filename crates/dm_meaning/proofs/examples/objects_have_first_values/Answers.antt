use Rattle.std.specs.Prelude.{refl}
use Rattle.dm_meaning.proofs.examples.objects_have_first_values.Goals as goal

-- the text is put by computing
pub returns-clause-text : goal.returns-clause-text
returns-clause-text c = refl
