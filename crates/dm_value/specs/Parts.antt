-- What the steps of a path stand for.
use Rattle.dm_meaning.specs.Values as values
use Rattle.dm_value.specs.declared.path.Part.{Part}
use Rattle.dm_value.specs.declared.path.Part.TheVariants.{Inner, Past}

abbrev pub view_of_part : Part → values.Part
view_of_part (Inner number) = values.part number
view_of_part Past = values.past
