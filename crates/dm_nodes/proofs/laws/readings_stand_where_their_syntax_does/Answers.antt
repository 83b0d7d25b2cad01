use Rattle.std.specs.Prelude.{map}
use Rattle.dm_syn.specs.Views as view
use Rattle.dm_tree.specs.Views.{view_of_unit}
use Rattle.dm_typing.proofs.LaterLemmas.{begins-itself}
use Rattle.dm_nodes.proofs.UnitLemmas.{unit-nodes}
use Rattle.dm_nodes.proofs.laws.readings_stand_where_their_syntax_does.Goals as goal

pub returns : goal.returns
returns c reading is =
    let typed = is.2 reading.types.shapes (begins-itself reading.types.shapes) in
    unit-nodes reading.types.shapes reading.tokens (map view.external reading.syntax) typed.0 (view_of_unit reading.types reading.core) typed.2
