-- How a call of `expand` ends.
use Rattle.std.specs.Prelude.{◌≡◌, ℕ, List, Option, Some, None, Result, Ok, Err}
use Rattle.dm_token.specs.declared.stop.Memory.{Memory}
use Rattle.dm_token.specs.declared.stop.Refusal.{Refusal}
use Rattle.dm_token.specs.declared.stop.Limit.{Limit}
use Rattle.dm_token.specs.declared.stop.Stop.{Stop}
use Rattle.dm_token.specs.declared.stop.Stop.TheVariants as stop
use Rattle.dm_token.specs.declared.unit.Unit.{Unit as Source}
use Rattle.dm_token.specs.declared.unit.UnitTokens.{UnitTokens}
use Rattle.dm_io.specs.Files.{Files}
use Rattle.dm_io.specs.Output.{appended, MayHaveAppended}
use Rattle.dm_io.specs.Faults.{Rose}
use Rattle.dm_search.specs.Loaded.{Loaded, name_of}
use Rattle.dm_search.specs.Fresh.{fresh}
use Rattle.dm_unit.specs.Units.{IsReadAs, setting_of}
use Rattle.dm_sources.specs.declared.finding.NoUnit.{NoUnit}
use Rattle.dm_sources.specs.Sources.{HasUnit, HasNoUnit}
use Rattle.dm_sources.specs.Explanations.{line_without_unit, status_without_unit}
use Rattle.dm_expanding.specs.Listings.{listing_of}
use Rattle.dm_lines.specs.Lines.{refusal_line, limit_line, read_fault_line}
use Rattle.dm_lines.specs.Outside.{Outside, Puts, KeepsFiles}
use Rattle.dm_lines.specs.Statuses as statuses

-- the endings, with what was found of the unit, and with the files by number where one of them is named
pub data UnitEnding : Type 0 where
  listed : UnitTokens → Loaded → UnitEnding
  unit_missing : NoUnit → UnitEnding
  refused : Refusal → Loaded → UnitEnding
  limit_passed : Limit → Loaded → UnitEnding
  file_unread : ℕ → Loaded → UnitEnding
  listing_failed : UnitTokens → Loaded → UnitEnding
  memory_wanted : UnitEnding

-- the exit status of each
abbrev pub status_of_unit : UnitEnding → ℕ
status_of_unit (listed tokens files) = statuses.done
status_of_unit (unit_missing why) = status_without_unit why
status_of_unit (refused refusal files) = statuses.refused
status_of_unit (limit_passed limit files) = statuses.limit_passed
status_of_unit (file_unread file files) = statuses.read_fault
status_of_unit (listing_failed tokens files) = statuses.output_fault
status_of_unit memory_wanted = statuses.memory_wanted

-- Where the files are told, the unit is read so, by a loader that knew no file before, and these are the files by number
-- afterwards.
abbrev pub IsReading : Option Files → Source → Result UnitTokens Stop → Loaded → Type 0
IsReading None unit result files = Unit {0}
IsReading (Some told) unit result files = IsReadAs (setting_of fresh files told unit) unit fresh result files

-- what is put for a unit
abbrev pub listing : UnitTokens → List ℕ
listing tokens = listing_of tokens.expansions tokens.tokens

-- what each ending means for a unit
abbrev pub EndsWith : Source → Outside → Outside → UnitEnding → Type 0
EndsWith unit before after (listed tokens files) =
    IsReading before.files unit (Ok tokens) files × KeepsFiles before after × (after.written ≡ appended before.written (listing tokens))
EndsWith unit before after (unit_missing why) = ⊥
EndsWith unit before after (refused refusal files) =
    IsReading before.files unit (Err (stop.Refused refusal)) files × KeepsFiles before after
    × Puts before after (refusal_line (name_of files refusal.place.file) refusal)
EndsWith unit before after (limit_passed limit files) =
    IsReading before.files unit (Err (stop.Limit limit)) files × KeepsFiles before after × Puts before after (limit_line limit.number (name_of files limit.file))
EndsWith unit before after (file_unread file files) =
    IsReading before.files unit (Err (stop.ReadFault file)) files × Rose before.folder_faults after.folder_faults × KeepsFiles before after
    × Puts before after (read_fault_line (name_of files file))
EndsWith unit before after (listing_failed tokens files) =
    IsReading before.files unit (Ok tokens) files × KeepsFiles before after × Rose before.sink_faults after.sink_faults
    × MayHaveAppended before.written after.written (listing tokens)
EndsWith unit before after memory_wanted = KeepsFiles before after × (after.written ≡ before.written)

-- what each ending means for a project and the main file of a unit
abbrev pub EndsExpanding : List ℕ → List ℕ → Outside → Outside → UnitEnding → Type 0
EndsExpanding project file before after (unit_missing why) =
    HasNoUnit before.files project file before.folder_faults after.folder_faults why × KeepsFiles before after × Puts before after (line_without_unit project file why)
EndsExpanding project file before after memory_wanted = KeepsFiles before after × (after.written ≡ before.written)
EndsExpanding project file before after ending = (unit : Source) × HasUnit before.files project file unit × EndsWith unit before after ending

-- a call for a unit ends: with a status, or for want of memory
abbrev pub EndsWithAs : Source → Outside → Outside → Result ℕ Memory → Type 0
EndsWithAs unit before after (Ok status) = (ending : UnitEnding) × (status ≡ status_of_unit ending) × EndsWith unit before after ending
EndsWithAs unit before after (Err error) = EndsWith unit before after memory_wanted

-- the same for a project and the main file of a unit
abbrev pub EndsExpandingAs : List ℕ → List ℕ → Outside → Outside → Result ℕ Memory → Type 0
EndsExpandingAs project file before after (Ok status) = (ending : UnitEnding) × (status ≡ status_of_unit ending) × EndsExpanding project file before after ending
EndsExpandingAs project file before after (Err error) = EndsExpanding project file before after memory_wanted

-- the files are told, the project has the unit, and its reading gives these tokens
pub record HoldsUnit (told : Option Files) (project file : List ℕ) : Type 0 where
  pub files : Files
  pub are_told : told ≡ Some files
  pub unit : Source
  pub has : HasUnit told project file unit
  pub tokens : UnitTokens
  pub loaded : Loaded
  pub is_read : IsReading told unit (Ok tokens) loaded
