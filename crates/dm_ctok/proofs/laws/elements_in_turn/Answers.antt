use Rattle.dm_ctok.proofs.ElementLemmas.{elements-none, elements-some, elements-bad}
use Rattle.dm_ctok.proofs.laws.elements_in_turn.Goals as goal

pub returns : goal.returns
returns c = record { none = elements-none; some = elements-some; bad = elements-bad }
