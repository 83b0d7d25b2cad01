-- The depth goes down within a statement. What is read so far, with what the others are read as, is what all are read as.
use Rattle.std.proofs.Common.{◌≡◌, ◌+◌, ◌*◌, map, Some}
use Rattle.dm_syn.specs.Trees as tree
use Rattle.dm_syn.specs.Views as view
use Rattle.dm_pexpr.specs.Parsing.{all_turns}
use Rattle.dm_pexpr.specs.Parts.{source_of, IsPart}
use Rattle.dm_pstmt.specs.Kinds.{block_items_from, switch_items_from}
use Rattle.dm_pstmt.specs.Parsing.{within, block_items, switch_items}
use Rattle.dm_pstmt.specs.Steps.{with_row}
use Rattle.dm_pstmt.proofs.statement.+statements.Given as goal

abbrev pub decreases-statement : goal.decreases-statement
decreases-statement l = 4 * l.depth

abbrev pub decreases-block : goal.decreases-block
decreases-block l = 4 * l.depth + 3

abbrev pub decreases-block_items : goal.decreases-block_items
decreases-block_items l = 4 * l.depth + 2

abbrev pub decreases-block_item : goal.decreases-block_item
decreases-block_item l = 4 * l.depth + 1

abbrev pub decreases-choice : goal.decreases-choice
decreases-choice l = 4 * l.depth + 2

abbrev pub decreases-otherwise : goal.decreases-otherwise
decreases-otherwise l = 4 * l.depth + 1

abbrev pub decreases-switch : goal.decreases-switch
decreases-switch l = 4 * l.depth + 3

abbrev pub decreases-switch_items : goal.decreases-switch_items
decreases-switch_items l = 4 * l.depth + 2

abbrev pub decreases-labelled : goal.decreases-labelled
decreases-labelled l = 4 * l.depth + 1

abbrev pub decreases-case : goal.decreases-case
decreases-case l = 4 * l.depth + 2

abbrev pub decreases-default : goal.decreases-default
decreases-default l = 4 * l.depth + 2

abbrev pub decreases-while_statement : goal.decreases-while_statement
decreases-while_statement l = 4 * l.depth + 1

abbrev pub decreases-do_statement : goal.decreases-do_statement
decreases-do_statement l = 4 * l.depth + 1

abbrev pub decreases-for_statement : goal.decreases-for_statement
decreases-for_statement l = 4 * l.depth + 1

abbrev pub decreases-block_items-loop-turns : goal.decreases-block_items-loop-turns
decreases-block_items-loop-turns l = l.turns

abbrev pub invariant-block_items-loop-turns : goal.invariant-block_items-loop-turns
invariant-block_items-loop-turns l =
    IsPart (block_items_from (source_of l.reader) l.at) (source_of l.reader) l.fn.scope l.scope l.items (Some (view.block_items (map view.block_item l.items.tree)))
    × (block_items (source_of l.reader) (within (source_of l.reader) l.depth) (all_turns (source_of l.reader)) l.fn.scope l.at
    ≡ with_row tree.more_items (map view.block_item l.items.tree) (block_items (source_of l.reader) (within (source_of l.reader) l.depth) l.turns l.scope l.items.after))

abbrev pub decreases-switch_items-loop-turns : goal.decreases-switch_items-loop-turns
decreases-switch_items-loop-turns l = l.turns

abbrev pub invariant-switch_items-loop-turns : goal.invariant-switch_items-loop-turns
invariant-switch_items-loop-turns l =
    IsPart (switch_items_from (source_of l.reader) l.at) (source_of l.reader) l.fn.scope l.scope l.items (Some (view.switch_items (map view.switch_item l.items.tree)))
    × (switch_items (source_of l.reader) (within (source_of l.reader) l.depth) (all_turns (source_of l.reader)) l.fn.scope l.at
    ≡ with_row tree.more_switch_items (map view.switch_item l.items.tree) (switch_items (source_of l.reader) (within (source_of l.reader) l.depth) l.turns l.scope l.items.after))
