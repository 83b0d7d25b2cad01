-- Programs over other tables of types.
--     over program table      the program over another table
use Rattle.dm_type.specs.Tables.{Table}
use Rattle.dm_meaning.specs.Programs.{Program}

abbrev pub over : Program → Table → Program
over program table = record program { table = table }
