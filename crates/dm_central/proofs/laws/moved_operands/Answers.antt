use Rattle.dm_central.proofs.OperandLemmas.{first_moved, rest_moved}
use Rattle.dm_central.proofs.laws.moved_operands.Goals as goal

pub returns-clause-first : goal.returns-clause-first
returns-clause-first c = first_moved

pub returns-clause-others : goal.returns-clause-others
returns-clause-others c = rest_moved
