-- The new readings are put in among the others.
use Rattle.dm_reading.specs.Layered.{IsLayered}
use Rattle.dm_readings.specs.Units.{IsTyped}
use Rattle.dm_project.proofs.AgainLemmas.{put-all}
use Rattle.dm_project.proofs.again.read_again.Goals as goal

pub returns-clause-layers : goal.returns-clause-layers
returns-clause-layers g c = λ all. put-all IsLayered c.args.kept.now c.in_ok-news.news all c.in_ok-news.ensures.layers

pub returns-clause-well_typed : goal.returns-clause-well_typed
returns-clause-well_typed g c = λ all. put-all IsTyped c.args.kept.now c.in_ok-news.news all c.in_ok-news.ensures.well_typed
