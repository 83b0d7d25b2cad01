use Rattle.dm_settled.proofs.MovedLemmas.{program_moved}
use Rattle.dm_settled.proofs.laws.settled_programs_are_moved.Goals as goal

pub returns : goal.returns
returns c = program_moved
