use Rattle.dm_front.proofs.FrontLemmas.{front-first}
use Rattle.dm_front.proofs.laws.a_front_is_typed_first.Goals as goal

pub returns : goal.returns
returns c setting standing front others = front-first setting standing front others
