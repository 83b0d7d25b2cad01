-- The items are those of the block.
use Rattle.std.proofs.Common.{sym, subst}
use Rattle.dm_program.specs.Functions.{IsItems}
use Rattle.dm_program.proofs.ItemLemmas.{block-items}
use Rattle.dm_program.proofs.definitions.items_of.Goals as goal

pub returns-in-Block : goal.returns-in-Block
returns-in-Block c = subst (IsItems c.args.body.now) (sym c.items.ensures) (block-items c.args.body.now c.in-Block.items c.in-Block.is)
