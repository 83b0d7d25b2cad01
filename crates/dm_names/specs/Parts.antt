-- Parts of the definition by names of their own, one for each step that the code takes.
--     stmt_inside source seen stmt      a statement that is a scope, inside it
--     other_part source seen other      the statement behind `else`, if there is one
use Rattle.std.specs.Prelude.{Option, Some, None}
use Rattle.dm_syn.specs.Trees as tree
use Rattle.dm_names.specs.declared.seen.Seen.{Seen}
use Rattle.dm_names.specs.Seen.{Source, in_block, expr, optional, start, stmt, block_items, switch_items}

abbrev pub part : Source → Seen → tree.Stmt → Seen
part source seen its_stmt = in_block seen (λ inside. stmt source inside its_stmt)

abbrev pub other_part : Source → Seen → Option tree.Stmt → Seen
other_part source seen None = seen
other_part source seen (Some other) = part source seen other

abbrev pub stmt_inside : Source → Seen → tree.Stmt → Seen
stmt_inside source seen (tree.block span its_items) = block_items source seen its_items
stmt_inside source seen (tree.if_only span condition body) = part source (expr source seen condition) body
stmt_inside source seen (tree.if_else span condition body other) = part source (part source (expr source seen condition) body) other
stmt_inside source seen (tree.switch span subject its_items) = in_block (expr source seen subject) (λ inside. switch_items source inside its_items)
stmt_inside source seen (tree.while span condition body) = part source (expr source seen condition) body
stmt_inside source seen (tree.do_while span body condition) = expr source (part source seen body) condition
stmt_inside source seen (tree.for_loop span its_start condition step body) =
    part source (optional source (optional source (start source seen its_start) condition) step) body
stmt_inside source seen other = seen
