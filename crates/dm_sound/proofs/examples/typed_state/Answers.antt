-- The state meets each premise.
use Rattle.dm_sound.proofs.ExampleLemmas.{running_typed, running_gives, beginning_typed, first_step, one_step}
use Rattle.dm_sound.proofs.examples.typed_state.Goals as goal

pub returns-clause-program : goal.returns-clause-program
returns-clause-program c = running_typed

pub returns-clause-values : goal.returns-clause-values
returns-clause-values c = running_gives

pub returns-clause-state : goal.returns-clause-state
returns-clause-state c = beginning_typed

pub returns-clause-step : goal.returns-clause-step
returns-clause-step c = first_step

pub returns-clause-goes : goal.returns-clause-goes
returns-clause-goes c = one_step
