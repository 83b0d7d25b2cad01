use Rattle.dm_initialised.proofs.BeginLemmas.{begins_set}
use Rattle.dm_initialised.proofs.laws.runs_begin_set.Goals as goal

pub returns : goal.returns
returns c program needs input state sound settled begins = begins_set program sound needs settled input state begins
