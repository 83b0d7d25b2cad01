-- Whether the units that were read again are the old ones but for an edit (6.9).
--     AreAllAligned change kept news      each unit that has a new reading is aligned with the old one
use Rattle.std.specs.Prelude.{List, Option, IfSome}
use Rattle.dm_meaning.specs.Replaced.{Zipped}
use Rattle.dm_reading.specs.declared.reading.Reading.{Reading}
use Rattle.dm_edit.specs.declared.change.Change.{Change}
use Rattle.dm_alignment.specs.Readings.{AreAlignedReadings}

-- the units that are read again are the old ones but for the change
abbrev pub IsAligned : Change → Reading → Option Reading → Type 0
IsAligned change old new = IfSome new (λ reading. AreAlignedReadings old reading change)

abbrev pub AreAllAligned : Change → List Reading → List (Option Reading) → Type 0
AreAllAligned change kept news = Zipped (IsAligned change) kept news
