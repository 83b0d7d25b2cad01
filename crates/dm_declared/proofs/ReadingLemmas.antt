-- The unit of a reading declares each automatic object once, since it is a typed unit.
use Rattle.std.specs.Prelude.{List, map, Ok}
use Rattle.dm_token.specs.declared.token.Token.{Token}
use Rattle.dm_syn.specs.Views as view
use Rattle.dm_tree.specs.Typing.{IsWellTypedUnit}
use Rattle.dm_tree.specs.Units.{TypedUnit}
use Rattle.dm_tree.specs.Views.{view_of_unit}
use Rattle.dm_typing.proofs.LaterLemmas.{begins-itself}
use Rattle.dm_reading.specs.declared.reading.Layers.{Layers}
use Rattle.dm_reading.specs.Layered.{HasLayers}
use Rattle.dm_initialised.specs.Once.{IsDeclaredOnce}
use Rattle.dm_declared.proofs.UnitLemmas.{units_once}

pub reading_once : (tokens : List Token) (layers : Layers) → HasLayers tokens (Ok layers) → IsWellTypedUnit layers.types (view_of_unit layers.types layers.core)
    → IsDeclaredOnce (view_of_unit layers.types layers.core)
reading_once tokens layers h well_typed =
    let unit : TypedUnit = view_of_unit layers.types layers.core in
    let typed = h.2 layers.types.shapes (begins-itself layers.types.shapes) in
    units_once layers.types.shapes layers.tokens (map view.external layers.syntax) typed.0 layers.types unit typed.2 well_typed
