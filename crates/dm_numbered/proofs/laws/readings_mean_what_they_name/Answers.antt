use Rattle.std.specs.Prelude.{map}
use Rattle.dm_syn.specs.Views as view
use Rattle.dm_tree.specs.Views.{view_of_unit}
use Rattle.dm_typing.proofs.LaterLemmas.{begins-itself}
use Rattle.dm_names.specs.Declarations.{source_of}
use Rattle.dm_numbered.proofs.PlainLemmas.{plain-tokens}
use Rattle.dm_numbered.proofs.UnitLemmas.{unit-meant}
use Rattle.dm_numbered.proofs.laws.readings_mean_what_they_name.Goals as goal

pub returns : goal.returns
returns c reading is plain =
    let one = view_of_unit reading.types reading.core in
    let syntax = map view.external reading.syntax in
    let typed = is.2 reading.types.shapes (begins-itself reading.types.shapes) in
    unit-meant reading.types.shapes reading.tokens syntax one is.1 (plain-tokens (source_of reading.tokens one) reading.tokens syntax is.1 plain) typed.0 typed.2
