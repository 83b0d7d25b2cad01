use Rattle.dm_typing.proofs.WriteLemmas.{assignment-gives, count-gives, prefix-gives}
use Rattle.dm_typing.proofs.laws.assignments_give_well_typed_values.Goals as goal

pub returns-clause-assignment : goal.returns-clause-assignment
returns-clause-assignment c = assignment-gives

pub returns-clause-counting : goal.returns-clause-counting
returns-clause-counting c = count-gives

pub returns-clause-prefix : goal.returns-clause-prefix
returns-clause-prefix c = prefix-gives
