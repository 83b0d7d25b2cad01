use Rattle.dm_meaning.specs.Units.{machine_of}
use Rattle.dm_meaning.specs.Refinement.{refines_through}
use Rattle.dm_meaning.proofs.laws.refines_through.Goals as goal

pub returns : goal.returns
returns c = λ new middle old. refines_through (machine_of new) (machine_of middle) (machine_of old)
