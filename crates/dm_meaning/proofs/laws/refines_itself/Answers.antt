use Rattle.dm_meaning.specs.Units.{machine_of}
use Rattle.dm_meaning.specs.Refinement.{refines_itself}
use Rattle.dm_meaning.proofs.laws.refines_itself.Goals as goal

pub returns : goal.returns
returns c = λ program. refines_itself (machine_of program)
