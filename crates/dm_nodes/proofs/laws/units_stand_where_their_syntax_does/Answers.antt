use Rattle.dm_nodes.proofs.UnitLemmas.{unit-nodes}
use Rattle.dm_nodes.proofs.laws.units_stand_where_their_syntax_does.Goals as goal

pub returns : goal.returns
returns c shapes tokens externals known one is = unit-nodes shapes tokens externals known one is
