use Rattle.dm_meaning.specs.Programs.{layout}
use Rattle.dm_sound.proofs.ComeLemmas.{begun_comes}
use Rattle.dm_sound.proofs.laws.evaluations_begin.Goals as goal

pub returns : goal.returns
returns c scene tree = begun_comes (layout scene.program) tree
