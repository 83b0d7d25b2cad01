-- What is noted at the end follows from what is noted of the rest.
use Rattle.std.proofs.Common.{List, map, length}
use Rattle.std.specs.List.{list_any}
use Rattle.dm_type.specs.Tables.{Table}
use Rattle.dm_tree.specs.Views.{view_of_external}
use Rattle.dm_stable.specs.declared.marks.Mark.{Mark}
use Rattle.dm_stable.specs.Marks.{Deed, Follows, found, marks_of}
use Rattle.dm_stable.proofs.objects.note_externals.Given as goal

abbrev pub invariant-loop-external : goal.invariant-loop-external
invariant-loop-external l =
    (types : Table) (deed : Deed) (final : List Mark)
    → Follows (λ d token. list_any (found deed d token) (map (view_of_external types) l.left)) (marks_of deed l.marks) final
    → Follows (λ d token. list_any (found deed d token) (map (view_of_external types) l.externals)) (marks_of deed l.initial.marks) final

abbrev pub decreases-loop-external : goal.decreases-loop-external
decreases-loop-external l = length l.left
