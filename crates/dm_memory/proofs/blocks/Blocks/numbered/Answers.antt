-- The object of a number is the item at that place.
use Rattle.std.proofs.Common.{rules}
use Rattle.dm_memory.proofs.BlockLemmas.{seen}
use Rattle.dm_memory.proofs.blocks.Blocks.numbered.Goals as goal

pub returns-clause-view : goal.returns-clause-view
returns-clause-view c = λ table. seen table c.args.self.now c.as_slice.result.now c.args.number c.nth.result (search rules) c.nth.ensures
