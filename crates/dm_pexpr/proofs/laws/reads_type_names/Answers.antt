use Rattle.dm_pexpr.proofs.Exactness.{type-name-found, type-name-only}
use Rattle.dm_pexpr.proofs.laws.reads_type_names.Goals as goal

pub returns-clause-found : goal.returns-clause-found
returns-clause-found c = type-name-found

pub returns-clause-only : goal.returns-clause-only
returns-clause-only c = type-name-only
