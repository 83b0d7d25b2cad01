-- When two readings are aligned.
use Rattle.std.proofs.Common.{◌≡◌, ◌↔◌, true, false, Option, Some, None, sym, ◌∙◌, subst}
use Rattle.std.proofs.lemmas.Bool.{false≢true}
use Rattle.dm_align.specs.declared.insertion.Inserted.{Inserted}
use Rattle.dm_align.specs.Insertions.{AreAlignedFor}
use Rattle.dm_align.specs.Units.{AreAligned, Insertion}
use Rattle.dm_edit.specs.declared.change.Change.{Change}
use Rattle.dm_meanings.specs.Types.{unit_in}
use Rattle.dm_reading.specs.declared.reading.Reading.{Reading}
use Rattle.dm_rules.specs.Uses.{reads, runs_in}
use Rattle.dm_alignment.specs.Insertions.{IsInserted}
use Rattle.dm_alignment.specs.Readings.{AddsBy, AreAlignedReadings}
use Rattle.dm_alignment.proofs.AddedLemmas.{as-insertion, fits-inserted, is-inserted}

module _ (old new : Reading) (change : Change) where
  abbrev Are : Option Insertion → Type 0
  Are put = AreAligned old.types new.types (unit_in old) (unit_in new) (runs_in change.definition old) put

  -- nothing is added to a unit that doesn't read the definition
  without : reads change.definition old ≡ false → (put : Option Insertion) → AddsBy old new change put → Are put → Are None
  without unread None adds whole = whole
  without unread (Some put) adds whole = absurd (false≢true (sym unread ∙ adds.read))

  pub unread-unit : reads change.definition old ≡ false → Are None ↔ AreAlignedReadings old new change
  unread-unit unread = (λ whole. (None, unread, whole), λ aligned. without unread aligned.0 aligned.1 aligned.2)

  module _ (read : reads change.definition old ≡ true) (it : Inserted) (inserted : IsInserted old new change it) where
    abbrev For : Type 0
    For = AreAlignedFor it old.types new.types (unit_in old) (unit_in new) (runs_in change.definition old)

    for-inserted : (put : Option Insertion) → AddsBy old new change put → Are put → For
    for-inserted None adds whole = absurd (false≢true (sym adds ∙ read))
    for-inserted (Some put) adds whole =
        (put.added, fits-inserted old new change it inserted put adds, subst (λ (one : Insertion). Are (Some one)) (is-inserted old new change it inserted put adds) whole)

    pub read-unit : For ↔ AreAlignedReadings old new change
    read-unit = (
      λ whole. (Some _, as-insertion old new change it inserted read whole.0 whole.1, whole.2),
      λ aligned. for-inserted aligned.0 aligned.1 aligned.2,
    )
