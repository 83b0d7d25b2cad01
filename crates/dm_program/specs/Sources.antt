-- The unit of a program and its types, and what the machine needs of them.
--     meant source      its program
--     IsSoundExternal source external      an external declaration has types of the table and is well typed
use Rattle.std.specs.Prelude.{length, IsTrue}
use Rattle.dm_type.specs.Tables.{Table}
use Rattle.dm_tree.specs.declared.unit.CoreExternal.{CoreExternal}
use Rattle.dm_tree.specs.declared.unit.CoreUnit.{CoreUnit}
use Rattle.dm_tree.specs.TypeNumbers.{external_has_known}
use Rattle.dm_tree.specs.Typing.{ExternalFits, file_scene}
use Rattle.dm_tree.specs.Views.{entries_of, view_of_external, view_of_unit}
use Rattle.dm_meaning.specs.Programs.{Program}
use Rattle.dm_meaning.specs.Units.{program_of}

pub record Source : Type 0 where
  pub table : Table
  pub unit : CoreUnit

-- its program
abbrev pub meant : Source → Program
meant source = program_of source.table (view_of_unit source.table source.unit)

-- an external declaration has types of the table, and is well typed
pub record IsSoundExternal (source : Source) (external : CoreExternal) : Type 0 where
  pub known : IsTrue (external_has_known (length source.table.shapes) external)
  pub typed : ExternalFits (file_scene source.table (entries_of source.table source.unit.declared)) (view_of_external source.table external)
