-- The object has to be there, and to be of the type.
use Rattle.std.proofs.Common.{ap, ◌++◌, ◌∙◌}
use Rattle.dm_type.specs.Tables.{type_of}
use Rattle.dm_meaning.specs.declared.cause.Cause.TheVariants.{OtherType}
use Rattle.dm_meaning.specs.Causes.{earliest, when, is_other, absence_causes}
use Rattle.dm_memory.specs.Blocks.{view_of_blocks}
use Rattle.dm_value.specs.Places.{view_of_name}
use Rattle.dm_value.specs.Sooner.{joined}
use Rattle.dm_memory.proofs.access.to_enter.Goals as goal

pub returns : goal.returns
returns c =
    let table = c.args.layout.now in
    let absent = absence_causes (view_of_blocks table c.args.blocks.now) (view_of_name c.args.at.now.name) in
    c.sooner.ensures ∙ (joined _ _ _ _ (c.absence-absent.ensures table) (c.when-other.ensures ∙ ap (λ b. earliest (when OtherType b)) c.is_other.ensures)
    ∙ ap (λ reached. earliest (absent ++ when OtherType (is_other (type_of table c.args.access) reached))) c.reached_at-reached.ensures.view)
