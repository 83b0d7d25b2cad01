-- Those of the access, and whether the scalar was set.
use Rattle.std.proofs.Common.{ap, ◌++◌, ◌∙◌}
use Rattle.dm_meaning.specs.declared.cause.Cause.TheVariants.{Unset}
use Rattle.dm_meaning.specs.Causes as table
use Rattle.dm_meaning.specs.Memory.{contents_at}
use Rattle.dm_memory.specs.Blocks.{view_of_blocks}
use Rattle.dm_value.specs.Places.{view_of_at}
use Rattle.dm_value.specs.Sooner.{joined}
use Rattle.dm_memory.proofs.AccessLemmas.{access_by}
use Rattle.dm_memory.proofs.access.to_read.Goals as goal

pub returns : goal.returns
returns c =
    let memory = view_of_blocks c.args.layout.now c.args.blocks.now in
    c.sooner.ensures ∙ (joined _ _ _ _ c.to_access-access.ensures (c.never_set-unset.ensures c.args.layout.now)
    ∙ ap (λ reached. table.earliest (access_by c.args.layout.now c.args.blocks.now c.args.locks.now c.args.access c.args.at.now reached
    ++ table.when Unset (table.is_unset_object (contents_at memory (view_of_at c.args.at.now)) reached))) c.reached_at-reached.ensures.view)
