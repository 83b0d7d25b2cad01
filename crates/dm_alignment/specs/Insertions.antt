-- What the edit of a macro's definition adds to a unit, as the code has it.
--     IsInserted old new change it      it is where an insertion stands that the change makes, and what that declares
use Rattle.std.specs.Prelude.{◌≡◌, suc, ◌+◌, slice_get}
use Rattle.dm_align.specs.declared.insertion.Inserted.{Inserted}
use Rattle.dm_edit.specs.declared.change.Change.{Change}
use Rattle.dm_reading.specs.declared.reading.Reading.{Reading}
use Rattle.dm_rules.specs.Places.{externals_behind}
use Rattle.dm_rules.specs.Uses.{runs_in}
use Rattle.dm_alignment.specs.Readings.{DeclaresAlone, IsPlain, TakesAsMany, entries_behind}

pub record IsInserted (old new : Reading) (change : Change) (it : Inserted) : Type 0 where
  pub external : it.external ≡ externals_behind change.definition old
  pub first : it.first ≡ entries_behind new it.external
  pub behind : it.first + it.count ≡ entries_behind new (suc it.external)
  pub name : it.name.now ≡ change.definition.name
  pub kind : it.kind ≡ change.kind
  pub counted : TakesAsMany change.kind change.definition (slice_get new.core.externals it.external)
  pub plain : IsPlain (runs_in change.definition old) new (slice_get new.core.externals it.external)
  pub alone : DeclaresAlone new it.external it.name.now it.number
