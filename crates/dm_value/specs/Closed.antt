-- Values that were taken apart, put together again.
use Rattle.std.specs.Prelude.{List, [], ◌∷◌, map, slice_set}
use Rattle.dm_meaning.specs.Values as values
use Rattle.dm_value.specs.declared.parts.Opened.{Opened}
use Rattle.dm_value.specs.Views.{view_of_value}

-- one of them, with a value in place of the part that was taken out
abbrev pub closed_one : Opened → values.Value → values.Value
closed_one opened inner = values.parts (values.values (slice_set (map view_of_value opened.parts.items) opened.number inner))

-- one within the other, the outermost first
abbrev pub closed : List Opened → values.Value → values.Value
closed [] inner = inner
closed (opened ∷ others) inner = closed_one opened (closed others inner)
