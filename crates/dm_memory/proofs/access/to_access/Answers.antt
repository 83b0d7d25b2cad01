-- The causes of an access, one after another.
use Rattle.std.proofs.Common.{ap, ◌∙◌}
use Rattle.dm_meaning.specs.declared.cause.Cause.TheVariants.{Conflict, Bounds, OtherType}
use Rattle.dm_meaning.specs.Causes.{earliest, when}
use Rattle.dm_value.specs.Sooner.{joined}
use Rattle.dm_memory.proofs.access.to_access.Goals as goal

pub returns : goal.returns
returns c =
    c.sooner.ensures ∙ joined _ _ _ _ (c.sooner-three.ensures ∙ joined _ _ _ _ (c.sooner-two.ensures ∙ joined _ _ _ _
    (c.when-conflict.ensures ∙ ap (λ b. earliest (when Conflict b)) c.overlaps_any.ensures)
    (c.when-bounds.ensures ∙ ap (λ b. earliest (when Bounds b)) (c.is_outside.ensures c.args.layout.now)))
    (c.absence-absent.ensures c.args.layout.now))
    (c.when-other.ensures ∙ ap (λ b. earliest (when OtherType b)) c.is_other.ensures)
