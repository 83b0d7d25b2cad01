use Rattle.dm_central.proofs.FactLemmas.{same_facts, same_operands, fewer_locks, unbegun_agrees}
use Rattle.dm_central.proofs.laws.common_facts.Goals as goal

pub returns-clause-facts : goal.returns-clause-facts
returns-clause-facts c = same_facts

pub returns-clause-operands : goal.returns-clause-operands
returns-clause-operands c = same_operands

pub returns-clause-locks : goal.returns-clause-locks
returns-clause-locks c = fewer_locks

pub returns-clause-unbegun : goal.returns-clause-unbegun
returns-clause-unbegun c = unbegun_agrees
