use Rattle.dm_settled.proofs.PlaceLemmas.{part_stands}
use Rattle.dm_settled.proofs.laws.parts_stand_where_expressions_do.Goals as goal

pub returns : goal.returns
returns c = part_stands
