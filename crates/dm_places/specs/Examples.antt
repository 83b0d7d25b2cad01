-- A reading that is refused: that of a unit whose main file is absent.
use Rattle.std.specs.Prelude.{[], codes}
use Rattle.std.specs.FinMap as finite
use Rattle.dm_token.specs.Refusals as refusals
use Rattle.dm_token.specs.declared.stop.Refusal.{Refusal}
use Rattle.dm_token.specs.declared.unit.Unit.{Unit as Source}
use Rattle.dm_search.specs.Fresh.{fresh}
use Rattle.dm_search.specs.Loaded.{Loaded, with_name, without_file}
use Rattle.dm_unit.specs.States.{Setting}
use Rattle.dm_unit.specs.Readings.{absent_place}
use Rattle.dm_unit.specs.Units.{setting_of}

abbrev pub unit : Source
unit = record { file = codes "absent.c"; include = []; define = [] }

-- behind the reading it is known that there is no such file
abbrev pub behind : Loaded
behind = without_file (with_name fresh unit.file) unit.file

abbrev pub setting : Setting
setting = setting_of fresh behind finite.empty unit

abbrev pub refusal : Refusal
refusal = record { number = refusals.not_found; detail = 0; place = absent_place setting.main }
