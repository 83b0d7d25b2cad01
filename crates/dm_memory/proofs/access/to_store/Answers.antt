-- Those of the access, and whether the object may be written.
use Rattle.std.proofs.Common.{ap, not, ◌||◌, ◌++◌, ◌∙◌}
use Rattle.dm_meaning.specs.declared.cause.Cause.TheVariants.{Const}
use Rattle.dm_meaning.specs.Causes as table
use Rattle.dm_meaning.specs.Memory.{look, may_be_written}
use Rattle.dm_memory.specs.Blocks.{view_of_blocks}
use Rattle.dm_value.specs.Places.{view_of_name}
use Rattle.dm_value.specs.Sooner.{joined}
use Rattle.dm_memory.proofs.AccessLemmas.{access_by}
use Rattle.dm_memory.proofs.access.to_store.Goals as goal

pub returns : goal.returns
returns c =
    let memory = view_of_blocks c.args.layout.now c.args.blocks.now in
    c.sooner.ensures ∙ (joined _ _ _ _ c.to_access-access.ensures (c.not_writable-fixed.ensures c.args.layout.now)
    ∙ ap (λ reached. table.earliest (access_by c.args.layout.now c.args.blocks.now c.args.locks.now c.args.access c.args.at.now reached
    ++ table.when Const (table.is_fixed reached || not (may_be_written (look memory (view_of_name c.args.at.now.name)))))) c.reached_at-reached.ensures.view)
