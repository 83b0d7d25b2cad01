-- What is noted at the end follows from what is noted of the rest. A tree's depth measures the walk.
use Rattle.std.proofs.Common.{◌+◌, ◌*◌, ◌≤◌, List, map, length}
use Rattle.std.specs.Option.{option_copied, option_map_or}
use denote.Param.Weighed.{most}
use Rattle.dm_type.specs.Tables.{Table}
use Rattle.dm_tree.specs.declared.tree.Core.{size-Core}
use Rattle.dm_tree.specs.declared.tree.Initial.{size-Initial}
use Rattle.dm_tree.specs.declared.tree.Local.{size-Local}
use Rattle.dm_tree.specs.Paths.{all_in}
use Rattle.dm_tree.specs.Views.{expressions_of_items, expressions_of_locals, view, view_of_local}
use Rattle.dm_meaning.specs.Wholes.{view_of_initial}
use Rattle.dm_effect.proofs.WalkLemmas.{depth_of}
use Rattle.dm_stable.specs.declared.marks.Mark.{Mark}
use Rattle.dm_stable.specs.Marks.{Deed, Notes, marks_of}
use Rattle.dm_stable.proofs.MarkLemmas.{NotesIn}
use Rattle.dm_stable.proofs.marking.+marking.Given as goal

abbrev pub decreases-note_tree : goal.decreases-note_tree
decreases-note_tree l = 8 * size-Core l.tree.now + 3

abbrev pub decreases-note_parts : goal.decreases-note_parts
decreases-note_parts l = 8 * depth_of l.parts + 7

abbrev pub decreases-note_part : goal.decreases-note_part
decreases-note_part l = 8 * option_map_or size-Core (option_copied l.part) 0 + 4

abbrev pub decreases-note_trees : goal.decreases-note_trees
decreases-note_trees l = 8 * most size-Core l.all.now + 4

abbrev pub decreases-note_initials_of : goal.decreases-note_initials_of
decreases-note_initials_of l = 8 * most size-Local l.locals.now + 6

abbrev pub decreases-note_initial_of : goal.decreases-note_initial_of
decreases-note_initial_of l = 8 * size-Local l.local.now + 5

abbrev pub decreases-note_initial : goal.decreases-note_initial
decreases-note_initial l = 8 * size-Initial l.initial.now + 4

abbrev pub decreases-note_initials : goal.decreases-note_initials
decreases-note_initials l = 8 * most size-Initial l.initials.now + 5

abbrev pub invariant-note_tree-loop-at : goal.invariant-note_tree-loop-at
invariant-note_tree-loop-at l =
    (size-Core l.at ≤ size-Core l.fn.tree)
    × ((types : Table) (deed : Deed) (final : List Mark) → Notes deed (all_in (view types l.at)) (marks_of deed l.marks) final → Notes deed (all_in (view types l.fn.tree)) (marks_of deed l.initial.marks) final)

abbrev pub invariant-note_trees-loop-tree : goal.invariant-note_trees-loop-tree
invariant-note_trees-loop-tree l =
    (most size-Core l.left ≤ most size-Core l.fn.all)
    × ((types : Table) (deed : Deed) (final : List Mark) → NotesIn deed (map (view types) l.left) (marks_of deed l.marks) final → NotesIn deed (map (view types) l.fn.all) (marks_of deed l.initial.marks) final)

abbrev pub decreases-note_trees-loop-tree : goal.decreases-note_trees-loop-tree
decreases-note_trees-loop-tree l = length l.left

abbrev pub invariant-note_initials_of-loop-local : goal.invariant-note_initials_of-loop-local
invariant-note_initials_of-loop-local l =
    (most size-Local l.left ≤ most size-Local l.fn.locals)
    × ((types : Table) (deed : Deed) (final : List Mark) → NotesIn deed (expressions_of_locals (map (view_of_local types) l.left)) (marks_of deed l.marks) final → NotesIn deed (expressions_of_locals (map (view_of_local types) l.fn.locals)) (marks_of deed l.initial.marks) final)

abbrev pub decreases-note_initials_of-loop-local : goal.decreases-note_initials_of-loop-local
decreases-note_initials_of-loop-local l = length l.left

abbrev pub invariant-note_initials-loop-initial : goal.invariant-note_initials-loop-initial
invariant-note_initials-loop-initial l =
    (most size-Initial l.left ≤ most size-Initial l.fn.initials)
    × ((types : Table) (deed : Deed) (final : List Mark) → NotesIn deed (expressions_of_items (map (view_of_initial types) l.left)) (marks_of deed l.marks) final → NotesIn deed (expressions_of_items (map (view_of_initial types) l.fn.initials)) (marks_of deed l.initial.marks) final)

abbrev pub decreases-note_initials-loop-initial : goal.decreases-note_initials-loop-initial
decreases-note_initials-loop-initial l = length l.left
