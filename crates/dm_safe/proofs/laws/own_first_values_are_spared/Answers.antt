use Rattle.dm_safe.proofs.SparedStateLemmas.{run_spares}
use Rattle.dm_safe.proofs.laws.own_first_values_are_spared.Goals as goal

pub returns : goal.returns
returns c = run_spares
