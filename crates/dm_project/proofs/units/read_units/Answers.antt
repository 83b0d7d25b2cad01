-- A limit that is passed behind all readings.
use Rattle.dm_unit.specs.Loaders.{file_of}
use Rattle.dm_readings.proofs.LeaveLemmas.{grows-weaken, none-memory}
use Rattle.dm_project.proofs.units.read_units.Goals as goal

pub returns-then-len-gt-MOST_DEFINITIONS-clause-loader : goal.returns-then-len-gt-MOST_DEFINITIONS-clause-loader
returns-then-len-gt-MOST_DEFINITIONS-clause-loader g c = λ not.
    grows-weaken (file_of c.passed.result) c.args.loader.now c.read_all.new.loader (c.in_ok-given.ensures.leaves.grows none-memory)
