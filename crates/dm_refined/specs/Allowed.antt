-- When the edit of a macro's definition is allowed in a unit, by the readings of the unit before and after it, and what that is to say.
--     rules_in definition reading      the rules that a unit alone can break, each with the place where it is broken first
--     IsAllowed old new change      none of them is broken, and the readings are aligned
--     RefinesWhereRead old new change      where they are readings over files, the new program refines the old one
use Rattle.std.specs.Prelude.{◌≡◌, true, [], ◌∷◌, None, Ok, is_some, if◌then◌else◌}
use Rattle.dm_token.specs.declared.expansion.Definition.{Definition}
use Rattle.dm_token.specs.declared.unit.Unit.{Unit as Source}
use Rattle.dm_io.specs.Files.{Files}
use Rattle.dm_search.specs.Loaded.{Loaded}
use Rattle.dm_unit.specs.Units.{setting_of}
use Rattle.dm_readings.specs.Reading.{IsReading}
use Rattle.dm_local.specs.Kept.{IsOfLoader}
use Rattle.dm_reading.specs.declared.reading.Reading.{Reading}
use Rattle.dm_reading.specs.Layered.{IsLayered}
use Rattle.dm_edit.specs.declared.change.As.TheVariants.{Function}
use Rattle.dm_edit.specs.declared.change.Change.{Change}
use Rattle.dm_rules.specs.Rules.{broken_directive}
use Rattle.dm_rules.specs.Uses.{reads}
use Rattle.dm_alignment.specs.Readings.{AreAlignedReadings}
use Rattle.dm_judge.specs.Rules.{Rules, broken_first, rules_from_5}
use Rattle.dm_refined.specs.Programs.{IsMadeFor, RefinesReading}

-- ---- rules

-- In a unit that doesn't read the definition only a directive can speak of its name.
abbrev pub rules_on_use : Definition → Reading → Rules
rules_on_use definition reading = if reads definition reading then rules_from_5 definition (reading ∷ []) else []

abbrev pub rules_in : Definition → Reading → Rules
rules_in definition reading = (3, broken_directive definition (reading ∷ [])) ∷ rules_on_use definition reading

-- ---- edits

-- Rule 15 asks that the readings are aligned.
abbrev pub IsAllowed : Reading → Reading → Change → Type 0
IsAllowed old new change = (broken_first (rules_in change.definition old) ≡ None) × AreAlignedReadings old new change

-- The old reading is one of a unit over files, by a loader that has what they have; the new one has the layers of its tokens, wherever these come from;
-- the definition is one that the unit's files have; and a function takes the place of a macro with a parameter list alone.
abbrev pub RefinesWhereRead : Reading → Reading → Change → Type 0
RefinesWhereRead old new change =
    (files : Files) (unit : Source) (before after : Loaded) → IsReading (setting_of before after files unit) unit before (Ok old) after → IsOfLoader before → IsLayered new
    → IsMadeFor (setting_of before after files unit) change.definition → (change.kind ≡ Function → is_some change.definition.parameters ≡ true) → RefinesReading new old
