-- Nothing is put in.
use Rattle.std.specs.Prelude.{◌≡◌, false, Option, Some, None}
use Rattle.std.proofs.Common.{sym, ◌∙◌}
use Rattle.std.proofs.lemmas.Bool.{true≢false}
use Rattle.dm_align.specs.Units.{Insertion, AreAligned}
use Rattle.dm_edit.specs.declared.change.Change.{Change}
use Rattle.dm_meanings.specs.Types.{unit_in}
use Rattle.dm_reading.specs.declared.reading.Reading.{Reading}
use Rattle.dm_rules.specs.Uses.{reads, runs_in}
use Rattle.dm_alignment.specs.Readings.{AddsBy}
use Rattle.dm_refined.proofs.laws.readings_without_the_definition_refine.Goals as goal

aligned_alone : (old new : Reading) (change : Change) → reads change.definition old ≡ false → (put : Option Insertion) → AddsBy old new change put
    → AreAligned old.types new.types (unit_in old) (unit_in new) (runs_in change.definition old) put
    → AreAligned old.types new.types (unit_in old) (unit_in new) (runs_in change.definition old) None
aligned_alone old new change unread None h aligned = aligned
aligned_alone old new change unread (Some put) h aligned = absurd (true≢false (sym h.read ∙ unread))

pub returns-clause-new : goal.returns-clause-new
returns-clause-new c old new change old_layered layered aligned unread =
    c.unread_units_refine.ensures.new old.types new.types (unit_in old) (unit_in new) (runs_in change.definition old)
    (c.readings_are_sound.ensures.unit old old_layered) (c.readings_are_sound.ensures.unit new layered)
    (aligned_alone old new change unread aligned.0 aligned.1 aligned.2)

pub returns-clause-old : goal.returns-clause-old
returns-clause-old c old new change old_layered layered aligned unread =
    c.unread_units_refine.ensures.old old.types new.types (unit_in old) (unit_in new) (runs_in change.definition old)
    (c.readings_are_sound.ensures.unit old old_layered) (c.readings_are_sound.ensures.unit new layered)
    (aligned_alone old new change unread aligned.0 aligned.1 aligned.2)
