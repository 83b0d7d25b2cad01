use Rattle.dm_pexpr.proofs.Exactness.{expression-found, expression-only}
use Rattle.dm_pexpr.proofs.laws.reads_expressions.Goals as goal

pub returns-clause-found : goal.returns-clause-found
returns-clause-found c = expression-found

pub returns-clause-only : goal.returns-clause-only
returns-clause-only c = expression-only
