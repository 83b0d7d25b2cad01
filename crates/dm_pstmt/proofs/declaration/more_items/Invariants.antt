-- What is read so far, with what the others are read as, is what all are read as.
use Rattle.std.proofs.Common.{◌≡◌, ℕ, List, Option, Some}
use Rattle.dm_syn.specs.declared.declared.Declared.{Declared}
use Rattle.dm_syn.specs.Trees as tree
use Rattle.dm_syn.specs.Views as view
use Rattle.dm_pexpr.specs.Parsing.{all_turns}
use Rattle.dm_pexpr.specs.Parts.{source_of, IsPart}
use Rattle.dm_pstmt.specs.Kinds.{items_from}
use Rattle.dm_pstmt.specs.Parsing.{within, more_items}
use Rattle.dm_pstmt.specs.Steps.{with_row, with_item}
use Rattle.dm_pstmt.proofs.declaration.more_items.Given as goal

abbrev pub decreases-loop-turns : goal.decreases-loop-turns
decreases-loop-turns l = l.turns

abbrev pub invariant-loop-turns : goal.invariant-loop-turns
invariant-loop-turns l =
    (before : List Declared) (start : ℕ) (read : Option (List tree.Item)) → IsPart (items_from (source_of l.reader) l.is_type start) (source_of l.reader) before l.fn.scope l.fn.items read
    → IsPart (items_from (source_of l.reader) l.is_type start) (source_of l.reader) before l.scope l.items (Some (view.items l.items.tree))
    × (with_row with_item (view.items l.fn.items.tree) (more_items (source_of l.reader) (within (source_of l.reader) l.depth) l.is_type (all_turns (source_of l.reader)) l.fn.scope l.fn.items.after)
    ≡ with_row with_item (view.items l.items.tree) (more_items (source_of l.reader) (within (source_of l.reader) l.depth) l.is_type l.turns l.scope l.items.after))
