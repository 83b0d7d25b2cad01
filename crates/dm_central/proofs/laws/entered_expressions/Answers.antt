use Rattle.dm_central.proofs.EntryLemmas.{entered_agrees, entered_claimed}
use Rattle.dm_central.proofs.laws.entered_expressions.Goals as goal

pub returns-clause-agrees : goal.returns-clause-agrees
returns-clause-agrees c = entered_agrees

pub returns-clause-claimed : goal.returns-clause-claimed
returns-clause-claimed c = entered_claimed
