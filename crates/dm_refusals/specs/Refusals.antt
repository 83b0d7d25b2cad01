-- What a command puts where it refuses the source.
--     PutsRefusal files before after faults later      the line of a refusal is put, with the name of a file and a place that lies in it
--     RefusesInFile files before after      the same between two moments of the world
use Rattle.std.specs.Prelude.{ℕ, List, Option}
use Rattle.dm_token.specs.declared.stop.Refusal.{Refusal}
use Rattle.dm_io.specs.Files.{Files}
use Rattle.dm_search.specs.Fresh.{fresh}
use Rattle.dm_search.specs.Loaded.{Loaded, name_of}
use Rattle.dm_lines.specs.Lines.{refusal_line}
use Rattle.dm_lines.specs.Outside.{Outside}
use Rattle.dm_lines.specs.Puts.{PutsText}
use Rattle.dm_places.specs.Places.{LiesInFile}

-- The file has the name of its number among those that were looked for, and its bytes are those of the folder.
abbrev pub PutsRefusal : Files → Option (List ℕ) → Option (List ℕ) → ℕ → ℕ → Type 0
PutsRefusal files before after faults later =
    (refusal : Refusal) × (known : Loaded) × LiesInFile fresh known files refusal.place
    × PutsText before after faults later (refusal_line (name_of known refusal.place.file) refusal)

abbrev pub RefusesInFile : Files → Outside → Outside → Type 0
RefusesInFile files before after = PutsRefusal files before.written after.written before.sink_faults after.sink_faults
