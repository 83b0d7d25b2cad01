-- What a table of the objects of a unit says.
--     AreNoted unit marks      the marks of each deed are right
use Rattle.std.specs.Prelude.{ℕ, map}
use Rattle.std.specs.List.{list_any}
use Rattle.dm_type.specs.Tables.{Table}
use Rattle.dm_tree.specs.declared.unit.CoreUnit.{CoreUnit}
use Rattle.dm_tree.specs.Views.{view_of_external}
use Rattle.dm_stable.specs.declared.marks.Marks.{Marks}
use Rattle.dm_stable.specs.Marks.{Deed, Tells, found, mark_at, marks_of}

abbrev pub AreNoted : CoreUnit → Marks → Type 0
AreNoted one marks = (deed : Deed) (types : Table) (d token : ℕ) → Tells (mark_at (marks_of deed marks) d) token (list_any (found deed d token) (map (view_of_external types) one.externals))
