use Rattle.dm_exec.proofs.SeenLemmas.{seen-stepped}
use Rattle.dm_exec.proofs.laws.shown_states_step.Goals as goal

pub returns : goal.returns
returns c = seen-stepped
