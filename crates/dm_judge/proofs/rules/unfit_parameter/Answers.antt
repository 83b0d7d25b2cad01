-- By the macros of the units.
use Rattle.dm_judge.specs.Units.{readings_of}
use Rattle.dm_judge.proofs.rules.unfit_parameter.Goals as goal

pub returns : goal.returns
returns c = c.in_ok-place.ensures (readings_of c.args.units.now) c.requires.defined
