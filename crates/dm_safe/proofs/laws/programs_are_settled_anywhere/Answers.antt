use Rattle.dm_safe.proofs.AnywhereLemmas.{program_settled}
use Rattle.dm_safe.proofs.laws.programs_are_settled_anywhere.Goals as goal

pub returns : goal.returns
returns c = program_settled
