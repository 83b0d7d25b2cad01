use Rattle.dm_void.proofs.UncalledStateLemmas.{never_called}
use Rattle.dm_void.proofs.laws.unnamed_functions_never_run.Goals as goal

pub returns : goal.returns
returns c program f uncalled other_name = never_called f program uncalled other_name
