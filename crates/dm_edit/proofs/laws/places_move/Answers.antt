use Rattle.dm_edit.proofs.LineLemmas.{place_of-before, place_of-behind}
use Rattle.dm_edit.proofs.laws.places_move.Goals as goal

pub returns : goal.returns
returns c = record { before = place_of-before; behind = place_of-behind }
