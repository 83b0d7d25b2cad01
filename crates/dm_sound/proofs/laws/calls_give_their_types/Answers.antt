use Rattle.dm_meaning.specs.Programs.{layout}
use Rattle.dm_sound.proofs.ComeLemmas.{filled_comes}
use Rattle.dm_sound.proofs.laws.calls_give_their_types.Goals as goal

pub returns : goal.returns
returns c scene tree called hole value h given = filled_comes (layout scene.program) tree called hole value h given
