use Rattle.dm_initialised.proofs.BeginLemmas.{run_set}
use Rattle.dm_initialised.proofs.laws.objects_stay_set.Goals as goal

pub returns : goal.returns
returns c program needs input n state sound settled run = run_set program sound needs settled input n state run
