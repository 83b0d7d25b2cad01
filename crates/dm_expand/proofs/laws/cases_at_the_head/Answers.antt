use Rattle.dm_expand.proofs.ProgressLemmas.{expanded-nothing, expanded-put, expanded-replace, expanded-refuse}
use Rattle.dm_expand.proofs.laws.cases_at_the_head.Goals as goal

pub returns-clause-nothing : goal.returns-clause-nothing
returns-clause-nothing c = λ macros progress. expanded-nothing macros progress

pub returns-clause-puts : goal.returns-clause-puts
returns-clause-puts c = λ macros item out rest progress is. expanded-put macros item out rest progress is

pub returns-clause-replaces : goal.returns-clause-replaces
returns-clause-replaces c = λ macros item rest invocation progress within is. expanded-replace macros item rest invocation progress within is

pub returns-clause-refuses : goal.returns-clause-refuses
returns-clause-refuses c = λ macros item rest progress is. expanded-refuse macros item rest progress is
