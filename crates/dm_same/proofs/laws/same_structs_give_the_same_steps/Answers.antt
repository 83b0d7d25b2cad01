use Rattle.dm_same.proofs.MachineLemmas.{begins_along, steps_along}
use Rattle.dm_same.proofs.laws.same_structs_give_the_same_steps.Goals as goal

pub returns-clause-begins : goal.returns-clause-begins
returns-clause-begins c old new one input state same = begins_along old new same one input state

pub returns-clause-steps : goal.returns-clause-steps
returns-clause-steps c old new one state other same = steps_along old new same one state other
