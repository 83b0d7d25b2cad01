-- The new object is the newest.
use Rattle.std.proofs.Common.{ap, ◌∷◌, [], ◌++◌, ◌∙◌}
use Rattle.dm_memory.specs.Blocks.{view_of_blocks}
use Rattle.dm_memory.proofs.ChangedLemmas.{more-view}
use Rattle.dm_memory.proofs.blocks.Blocks.add.Goals as goal

pub returns-clause-view : goal.returns-clause-view
returns-clause-view c = λ table.
    ap (view_of_blocks table) (c.in_ok-push.ensures.items ∙ ap (λ all. all ++ c.args.block ∷ []) c.self.view_is) ∙ more-view table c.args.self.now c.args.block
