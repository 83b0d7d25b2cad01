-- The readings of a project's units by what the loader knows now.
--     AreCurrent known files units readings      each unit has the reading that it has by this loader, which learns nothing from it
--     AreSame readings others      two readings of each unit are one
--     put_back old file new      a loader with the bytes that another held for a file
use Rattle.std.specs.Prelude.{ℕ, List, [], Ok, unwrap_or}
use Rattle.std.specs.List.{AllZip}
use Rattle.dm_token.specs.declared.unit.Unit.{Unit as Source}
use Rattle.dm_io.specs.Files.{Files}
use Rattle.dm_search.specs.Loaded.{Loaded, held_at, with_bytes}
use Rattle.dm_reading.specs.declared.reading.Reading.{Reading}
use Rattle.dm_readings.specs.Reading.{AreOneReading}
use Rattle.dm_local.specs.Kept.{IsReadBy}

abbrev pub AreCurrent : Loaded → Files → List Source → List Reading → Type 0
AreCurrent known files units readings = AllZip (IsReadBy known files) units readings

abbrev pub AreSame : List Reading → List Reading → Type 0
AreSame readings others = AllZip (λ (one other : Reading). AreOneReading (Ok one) (Ok other)) readings others

abbrev pub put_back : Loaded → ℕ → Loaded → Loaded
put_back old file new = with_bytes new file (unwrap_or (held_at old file) [])
