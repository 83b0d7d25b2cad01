use Rattle.dm_front.proofs.FrontLemmas.{front-too}
use Rattle.dm_front.proofs.laws.a_front_is_typed_too.Goals as goal

pub returns : goal.returns
returns c setting standing end front others made is = front-too setting standing end front others made is
