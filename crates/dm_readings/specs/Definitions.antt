-- The macro definitions in files that a project reads. A definition is known by its file and the byte of its `#`, however many units
-- read it; those of built-in headers and of the manifest don't count.
--     definitions_in readings      each of them once, in the order of first reading
--     key_of loaded definition      its file and the line of its `#`, which edits keep
use Rattle.std.specs.Prelude.{Bool, ◌&&◌, ◌==◌, List, [], ◌∷◌, ◌++◌, map, filter, fold, unwrap_or, if◌then◌else◌}
use Rattle.std.specs.List.{list_any, flat_map}
use Rattle.dm_token.specs.Places.{line_at}
use Rattle.dm_token.specs.declared.expansion.Definition.{Definition}
use Rattle.dm_token.specs.declared.unit.Read.{Read}
use Rattle.dm_definitions.specs.Counts.{is_in_file}
use Rattle.dm_search.specs.Loaded.{Loaded, held_at}
use Rattle.dm_reading.specs.declared.reading.Reading.{Reading}
use Rattle.dm_readings.specs.declared.distinct.Key.{Key}

-- whether two are one
abbrev pub is_same : Definition → Definition → Bool
is_same one other = (one.place.file == other.place.file) && (one.hash == other.hash)

abbrev pub once_more : List Definition → Definition → List Definition
once_more found one = if list_any (is_same one) found then found else found ++ one ∷ []

-- those in files among those that a unit reads, in the order of reading
abbrev pub in_files : List Read → List Definition
in_files read = filter (λ (one : Definition). is_in_file one.origin) (map (λ (one : Read). one.definition) read)

abbrev pub definitions_in : List Reading → List Definition
definitions_in readings = fold once_more [] (flat_map (λ (reading : Reading). in_files reading.pp.read) readings)

abbrev pub key_of : Loaded → Definition → Key
key_of loaded one = record { file = one.place.file; line = line_at (unwrap_or (held_at loaded one.place.file) []) one.hash }
