-- What shows is the machine's start.
use Rattle.std.proofs.Common.{Some, ap}
use Rattle.dm_meaning.specs.States.{State}
use Rattle.dm_exec.specs.Outcomes.{IsStart}
use Rattle.dm_exec.specs.Shown.{seen}
use Rattle.dm_exec.proofs.steps.start.Goals as goal

pub returns-clause-begins : goal.returns-clause-begins
unfolding IsStart
returns-clause-begins c = let begun = c.in_ok-running.ensures in (begun.main, begun.is_main, ap (λ (state : State). Some (seen state)) begun.same)
