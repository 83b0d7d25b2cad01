use Rattle.std.specs.Prelude.{refl}
use Rattle.dm_type.specs.Tables.{types_of}
use Rattle.dm_meaning.proofs.examples.unset_and_dead_are_carried_and_not_used.Goals as goal

-- the members' types are those of the table
pub returns-clause-copied : goal.returns-clause-copied
unfolding types_of
returns-clause-copied c = refl

pub returns-clause-unset : goal.returns-clause-unset
unfolding types_of
returns-clause-unset c = refl
