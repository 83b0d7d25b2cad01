use Rattle.dm_edecl.proofs.InitialLemmas.{initialiser-gives, alone-gives}
use Rattle.dm_edecl.proofs.laws.initialisers_are_well_typed.Goals as goal

pub returns-clause-initialisers : goal.returns-clause-initialisers
returns-clause-initialisers c = initialiser-gives

pub returns-clause-alone : goal.returns-clause-alone
returns-clause-alone c = alone-gives
