-- The items, and then the node of the block.
use Rattle.std.specs.Prelude.{map}
use Rattle.dm_syn.specs.Views as syntax
use Rattle.dm_typing.specs.Views.{setting_of}
use Rattle.dm_eunit.proofs.BodyLemmas.{block-fails, block-made}
use Rattle.dm_eunit.proofs.bodies.block_inside.Goals as goal

pub returns-in_err-trees : goal.returns-in_err-trees
returns-in_err-trees c =
    block-fails (setting_of c.args.typer.now) c.args.within.now c.args.span (syntax.block_items (map syntax.block_item c.args.items.now)) c.args.standing.now c.typed_items_in.new.standing c.requires
    c.in_err-trees.field-0.0 c.in_err-trees.ensures c.from_residual.result c.from_residual.ensures.1

pub returns : goal.returns
returns c =
    block-made (setting_of c.args.typer.now) c.args.within.now c.args.span (syntax.block_items (map syntax.block_item c.args.items.now)) c.args.standing.now c.typed_items_in.new.standing c.requires
    c.in_ok-trees.trees c.block.result c.in_ok-trees.ensures c.block.ensures.view c.block.ensures.known
