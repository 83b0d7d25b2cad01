-- What is noted at the end follows from what is noted of the rest.
use Rattle.std.proofs.Common.{List, map, length}
use Rattle.std.specs.List.{list_any}
use Rattle.dm_type.specs.Tables.{Table}
use Rattle.dm_tree.specs.Views.{view_of_local}
use Rattle.dm_effect.specs.Questions.{as_local}
use Rattle.dm_stable.specs.declared.marks.Mark.{Mark}
use Rattle.dm_stable.specs.Marks.{Deed, Follows, does_local, marks_of}
use Rattle.dm_stable.proofs.marks.note_locals.Given as goal

abbrev pub invariant-loop-local : goal.invariant-loop-local
invariant-loop-local l =
    (types : Table) (deed : Deed) (final : List Mark)
    → Follows (λ d token. list_any (does_local deed d token) (map as_local (map (view_of_local types) l.left))) (marks_of deed l.marks) final
    → Follows (λ d token. list_any (does_local deed d token) (map as_local (map (view_of_local types) l.locals))) (marks_of deed l.initial.marks) final

abbrev pub decreases-loop-local : goal.decreases-loop-local
decreases-loop-local l = length l.left
