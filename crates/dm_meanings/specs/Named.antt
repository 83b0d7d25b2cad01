-- What the names of a reading mean.
use Rattle.dm_names.specs.declared.names.Names.{Names}
use Rattle.dm_names.specs.Indexes.{AreNames}
use Rattle.dm_reading.specs.declared.reading.Reading.{Reading}

abbrev pub AreNamesOf : Reading → Names → Type 0
AreNamesOf reading names = AreNames reading.types reading.tokens reading.syntax reading.core names
