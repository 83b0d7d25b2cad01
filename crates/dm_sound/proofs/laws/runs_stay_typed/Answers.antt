use Rattle.dm_sound.proofs.FillLemmas.{declares_fill}
use Rattle.dm_sound.proofs.StepLemmas.{goes_typed}
use Rattle.dm_sound.proofs.laws.runs_stay_typed.Goals as goal

pub returns : goal.returns
returns c program n state other sound typed goes = goes_typed program sound (declares_fill program sound.scope.table sound.scope.proper) n state other typed goes
