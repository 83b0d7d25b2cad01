-- What values stand for.
use Rattle.dm_meaning.specs.Values as values
use Rattle.dm_value.specs.declared.value.Pointer.{Pointer}
use Rattle.dm_value.specs.declared.value.Pointer.TheVariants.{Null, To}
use Rattle.dm_value.specs.declared.value.Value.{Value}
use Rattle.dm_value.specs.declared.value.Value.TheOpen as layer
use Rattle.dm_value.specs.declared.value.Value.TheFolds as folds
use Rattle.dm_value.specs.Places.{view_of_at}

abbrev pub view_of_pointer : Pointer → values.Pointer
view_of_pointer Null = values.null
view_of_pointer (To at) = values.to (view_of_at at.value)

-- one layer, whose parts are seen already
abbrev pub value_layer : layer.Value-F values.Value → values.Value
value_layer (layer.Integer integer) = values.integer_value integer.kind integer.value
value_layer (layer.Pointer pointer) = values.pointer_value (view_of_pointer pointer)
value_layer (layer.Parts parts) = values.parts (values.values parts.value)
value_layer layer.Unset = values.unset

abbrev pub view_of_value : Value → values.Value
view_of_value = folds.fold-Value values.Value value_layer
