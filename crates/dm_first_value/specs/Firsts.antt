-- The first values of scalars.
use Rattle.dm_type.specs.CTypes.{CType}
use Rattle.dm_meaning.specs.Objects.{zero_of}
use Rattle.dm_meaning.specs.Values.{Value, unset}
use Rattle.dm_first_value.specs.declared.filled.Scalars.{Scalars}
use Rattle.dm_first_value.specs.declared.filled.Scalars.TheVariants.{Unset, Zero}

abbrev pub scalar_of : Scalars → CType → Value
scalar_of Unset type = unset
scalar_of Zero type = zero_of type
