-- What is known of the readings of a project, apart from them.
--     AreKnown readings known      of each reading there is what an index of it knows, and what its names mean
--     AreNew news new      the same for those units that have a new reading
use Rattle.std.specs.Prelude.{List, Option, Some, None}
use Rattle.dm_meaning.specs.Replaced.{Zipped}
use Rattle.dm_names.specs.declared.names.Names.{Names}
use Rattle.dm_reading.specs.declared.reading.Reading.{Reading}
use Rattle.dm_rules.specs.Tables.{AreTables}
use Rattle.dm_rules.specs.declared.tables.Tables.{Tables}
use Rattle.dm_meanings.specs.Named.{AreNamesOf}
use Rattle.dm_subjects.specs.declared.tables.Known.{Known}
use Rattle.dm_subjects.specs.declared.tables.News.{News}

abbrev pub HaveTables : List Reading → List Tables → Type 0
HaveTables readings tables = Zipped AreTables readings tables

abbrev pub HaveNames : List Reading → List Names → Type 0
HaveNames readings names = Zipped AreNamesOf readings names

abbrev pub AreKnown : List Reading → Known → Type 0
AreKnown readings known = HaveTables readings known.tables.items × HaveNames readings known.names.items

-- there is one for a new reading, if there is one
abbrev pub IsNew : {A : Type 0} → (Reading → A → Type 0) → Option Reading → Option A → Type 0
IsNew R None None = Unit {0}
IsNew R None (Some one) = ⊥
IsNew R (Some reading) None = ⊥
IsNew R (Some reading) (Some one) = R reading one

abbrev pub AreNewTables : List (Option Reading) → List (Option Tables) → Type 0
AreNewTables news tables = Zipped (IsNew AreTables) news tables

abbrev pub AreNewNames : List (Option Reading) → List (Option Names) → Type 0
AreNewNames news names = Zipped (IsNew AreNamesOf) news names

abbrev pub AreNew : List (Option Reading) → News → Type 0
AreNew news new = AreNewTables news new.tables.items × AreNewNames news new.names.items
