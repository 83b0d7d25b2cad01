use Rattle.dm_lexed.proofs.WordLemmas.{become-words}
use Rattle.dm_lexed.proofs.UnitLemmas.{unit-words}
use Rattle.dm_lexed.proofs.laws.identifiers_are_words.Goals as goal

pub returns-clause-units : goal.returns-clause-units
returns-clause-units c setting unit old new pp is = unit-words setting unit old new pp is

pub returns-clause-readings : goal.returns-clause-readings
returns-clause-readings c setting unit old new reading is = become-words reading.pp.tokens reading.tokens (unit-words setting unit old new reading.pp is.1) is.2.0
