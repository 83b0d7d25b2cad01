use Rattle.dm_typing.proofs.NameLemmas.{name-gives, constant-sound, literal-sound}
use Rattle.dm_typing.proofs.laws.leaves_are_well_typed.Goals as goal

pub returns-clause-names : goal.returns-clause-names
returns-clause-names c = name-gives

pub returns-clause-constants : goal.returns-clause-constants
returns-clause-constants c = constant-sound

pub returns-clause-literals : goal.returns-clause-literals
returns-clause-literals c = literal-sound
