use Rattle.dm_told.proofs.UnitLemmas.{unit_expressions, unit_nested}
use Rattle.dm_told.proofs.laws.places_are_nested.Goals as goal

pub returns-clause-nested : goal.returns-clause-nested
returns-clause-nested c types one typed laid = unit_nested types one typed laid

pub returns-clause-expressions : goal.returns-clause-expressions
returns-clause-expressions c types one typed laid = unit_expressions types one typed laid
