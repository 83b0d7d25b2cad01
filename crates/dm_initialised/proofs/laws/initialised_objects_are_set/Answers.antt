use Rattle.dm_initialised.proofs.NameLemmas.{run_names_set}
use Rattle.dm_initialised.proofs.laws.initialised_objects_are_set.Goals as goal

pub returns : goal.returns
returns c program needs input n state sound settled run = run_names_set program needs settled sound input n state run
