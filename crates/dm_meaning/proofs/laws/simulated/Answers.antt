use Rattle.dm_meaning.specs.Units.{machine_of}
use Rattle.dm_meaning.specs.Simulation.{simulated}
use Rattle.dm_meaning.proofs.laws.simulated.Goals as goal

pub returns : goal.returns
returns g c = simulated (machine_of g.S.Simulation.new) (machine_of g.S.Simulation.old) g.S.Simulation.relates g.S.Simulation.first g.S.Simulation.rise c.requires
