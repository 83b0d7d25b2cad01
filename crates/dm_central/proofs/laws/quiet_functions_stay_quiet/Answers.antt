use Rattle.dm_central.proofs.QuietFrameLemmas.{quiet_later, begins_quiet}
use Rattle.dm_central.proofs.QuietTreeLemmas.{writes_nothing}
use Rattle.dm_central.proofs.laws.quiet_functions_stay_quiet.Goals as goal

pub returns-clause-begins : goal.returns-clause-begins
returns-clause-begins c = begins_quiet

pub returns-clause-steps : goal.returns-clause-steps
returns-clause-steps c = quiet_later

pub returns-clause-trees : goal.returns-clause-trees
returns-clause-trees c = writes_nothing
