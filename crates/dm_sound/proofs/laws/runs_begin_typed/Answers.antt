use Rattle.dm_sound.proofs.BeginLemmas.{begins_typed}
use Rattle.dm_sound.proofs.FillLemmas.{declares_fill}
use Rattle.dm_sound.proofs.laws.runs_begin_typed.Goals as goal

pub returns : goal.returns
returns c program input state sound begins = begins_typed program sound (declares_fill program sound.scope.table sound.scope.proper) input state begins
