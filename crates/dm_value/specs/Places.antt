-- What names and places stand for.
use Rattle.dm_meaning.specs.Values as values
use Rattle.dm_value.specs.declared.place.Name.{Name}
use Rattle.dm_value.specs.declared.place.Name.TheVariants.{Numbered, Literal, Elsewhere}
use Rattle.dm_value.specs.declared.place.At.{At}

abbrev pub view_of_name : Name → values.Name
view_of_name (Numbered number) = values.numbered number
view_of_name (Literal bytes unit) = values.literal_of bytes unit
view_of_name (Elsewhere identifier) = values.elsewhere identifier

abbrev pub view_of_at : At → values.At
view_of_at at = record { name = view_of_name at.name; path = at.path }
