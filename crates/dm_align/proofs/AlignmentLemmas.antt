-- Two units agree where all their parts do.
use Rattle.std.proofs.Common.{◌≡◌, ◌↔◌, Bool, IsTrue, List, map, Option, Some, subst}
use Rattle.dm_runs.specs.declared.run.Run.{Run}
use Rattle.dm_type.specs.Structs.{AreSameStructs}
use Rattle.dm_type.specs.Tables.{Table}
use Rattle.dm_tree.specs.Units.{TypedUnit}
use Rattle.dm_meaning.specs.Replaced.{Zipped}
use Rattle.dm_agree.specs.Agreement.{Added}
use Rattle.std.specs.List.{AllByRecursion}
use Rattle.dm_align.specs.declared.insertion.Inserted.{Inserted}
use Rattle.dm_align.specs.Insertions.{put_in, AddsIt, AreAlignedFor, IsOnly}
use Rattle.dm_align.specs.Units.{Insertion, entry_of, other_entries, other_externals, rewriting_of, AreAligned, ExternalsAgree, IsPlaced, IsPutIn}

module _ (old_types new_types : Table) (old new : TypedUnit) (runs : List Run) where
  -- the last part decides
  pub last-part : (put : Option Insertion) → AreSameStructs old_types new_types → IsPutIn new_types new put → map entry_of (other_entries put new.declared) ≡ map entry_of old.declared
      → Zipped (ExternalsAgree (rewriting_of old_types old runs put)) (other_externals put new.externals) old.externals
      → (test : Bool) → (IsTrue test ↔ AllByRecursion (IsPlaced old) runs) → IsTrue test ↔ AreAligned old_types new_types old new runs put
  last-part put structs added declared externals test says =
      (λ e. record { structs = structs; added = added; declared = declared; externals = externals; placed = says.0 e }, λ aligned. says.1 aligned.placed)

  module _ (it : Inserted) where
    module _ (found : Added) (only : IsOnly (AddsIt new_types new it) (Some found)) where
      -- what is added is known
      pub as-found : AreAlignedFor it old_types new_types old new runs → AreAligned old_types new_types old new runs (Some (put_in it found))
      as-found whole = subst (λ (added : Added). AreAligned old_types new_types old new runs (Some (put_in it added))) (only.1 whole.0 (whole.1, whole.2.added)) whole.2

      pub so-found : (test : Bool) → (IsTrue test ↔ AreAligned old_types new_types old new runs (Some (put_in it found))) → IsTrue test ↔ AreAlignedFor it old_types new_types old new runs
      so-found test says = (λ e. (found, only.0.0, says.0 e), λ whole. says.1 (as-found whole))
