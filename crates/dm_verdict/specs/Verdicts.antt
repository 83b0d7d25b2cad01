-- What is said of the edit of a macro's definition, by the readings of one unit before and after it.
--     IsVerdict old new change verdict      the least of the rules that the unit breaks, 15 among them, with its first place; or that the edit is allowed
--     RefinesIfAllowed old new change verdict      where it is, and the readings are those of files, the new program refines the old one
use Rattle.std.specs.Prelude.{◌≡◌, ℕ, Option, Some, None}
use Rattle.dm_token.specs.declared.place.Place.{Place}
use Rattle.dm_edit.specs.declared.change.Change.{Change}
use Rattle.dm_reading.specs.declared.reading.Reading.{Reading}
use Rattle.dm_alignment.specs.Readings.{AreAlignedReadings}
use Rattle.dm_judge.specs.Rules.{broken_first}
use Rattle.dm_refined.specs.Allowed.{RefinesWhereRead, rules_in}
use Rattle.dm_verdict.specs.declared.verdict.Verdict.{Verdict}
use Rattle.dm_verdict.specs.declared.verdict.Verdict.TheVariants as verdict

-- 15 Reread: the readings are aligned
abbrev pub IsVerdictBy : Reading → Reading → Change → Option (ℕ × Place) → Verdict → Type 0
IsVerdictBy old new change (Some broken) answer = answer ≡ verdict.Broken broken.0 broken.1
IsVerdictBy old new change None verdict.Allowed = AreAlignedReadings old new change
IsVerdictBy old new change None (verdict.Broken rule place) = (rule ≡ 15) × (place ≡ change.definition.place) × ¬ AreAlignedReadings old new change

abbrev pub IsVerdict : Reading → Reading → Change → Verdict → Type 0
IsVerdict old new change answer = IsVerdictBy old new change (broken_first (rules_in change.definition old)) answer

-- what a verdict is for
abbrev pub RefinesIfAllowed : Reading → Reading → Change → Verdict → Type 0
RefinesIfAllowed old new change answer = answer ≡ verdict.Allowed → RefinesWhereRead old new change
