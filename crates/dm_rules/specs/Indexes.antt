-- The readings of some indexes.
use Rattle.std.specs.Prelude.{List, map}
use Rattle.dm_reading.specs.declared.reading.Reading.{Reading}
use Rattle.dm_rules.specs.declared.index.Index.{Index}

abbrev pub readings_of : List Index → List Reading
readings_of units = map (λ (one : Index). one.reading.now) units
