-- The definitions that are judged, and how they are found again.
--     bytes_at loaded file      what is held of a file
--     subject_of loaded definition      a definition as it was read first, with its key
--     definition_at loaded readings key      the definition of a key, as the first unit that reads one has it
use Rattle.std.specs.Prelude.{ℕ, Bool, ◌&&◌, ◌==◌, List, [], find, Option, unwrap_or}
use Rattle.std.specs.List.{flat_map}
use Rattle.dm_token.specs.Places.{line_at}
use Rattle.dm_token.specs.declared.expansion.Definition.{Definition}
use Rattle.dm_definitions.specs.Counts.{is_in_file}
use Rattle.dm_search.specs.Loaded.{Loaded, held_at}
use Rattle.dm_reading.specs.declared.reading.Reading.{Reading}
use Rattle.dm_readings.specs.declared.distinct.Key.{Key}
use Rattle.dm_readings.specs.Definitions.{key_of}
use Rattle.dm_judge.specs.Proposals.{definitions_in}
use Rattle.dm_subjects.specs.declared.subject.Subject.{Subject}

-- what is held of a file
abbrev pub bytes_at : Loaded → ℕ → List ℕ
bytes_at loaded file = unwrap_or (held_at loaded file) []

-- a definition of the project as it was read first
abbrev pub subject_of : Loaded → Definition → Subject
subject_of loaded definition = record { key = key_of loaded definition; definition = definition }

-- By its key a definition is found again: its file, and the line of its `#`, which edits keep.
abbrev pub has_key : Loaded → Key → Definition → Bool
has_key loaded key one = is_in_file one.origin && ((one.place.file == key.file) && (line_at (bytes_at loaded key.file) one.hash == key.line))

-- as the first unit that reads it has it
abbrev pub definition_at : Loaded → List Reading → Key → Option Definition
definition_at loaded readings key = find (has_key loaded key) (flat_map definitions_in readings)
