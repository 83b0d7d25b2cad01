-- From no marks on.
use Rattle.std.proofs.Common.{List, map, false, subst}
use Rattle.std.specs.List.{list_any}
use Rattle.dm_tree.specs.declared.unit.CoreExternal.{CoreExternal}
use Rattle.dm_tree.specs.Views.{view_of_external}
use Rattle.dm_stable.specs.Marks.{Tells, found, mark_at, marks_of}
use Rattle.dm_stable.proofs.objects.noted.Goals as goal

pub returns : goal.returns
returns c deed types d token =
    subst (λ (all : List CoreExternal). Tells (mark_at (marks_of deed c.note_externals.new.marks) d) token (list_any (found deed d token) (map (view_of_external types) all))) c.items.ensures
    (c.note_externals.ensures types deed d token false (c.in_ok-marks.ensures deed d token))
