use Rattle.dm_edecl.proofs.StatementLemmas.{condition-gives, subject-gives, case-gives, return-gives}
use Rattle.dm_edecl.proofs.laws.expressions_fit_statements.Goals as goal

pub returns-clause-conditions : goal.returns-clause-conditions
returns-clause-conditions c = condition-gives

pub returns-clause-subjects : goal.returns-clause-subjects
returns-clause-subjects c = subject-gives

pub returns-clause-cases : goal.returns-clause-cases
returns-clause-cases c = case-gives

pub returns-clause-returns : goal.returns-clause-returns
returns-clause-returns c = return-gives
