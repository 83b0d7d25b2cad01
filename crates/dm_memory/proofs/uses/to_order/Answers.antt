-- They point into different objects, or one can't be used.
use Rattle.std.proofs.Common.{ap, not, ◌∙◌}
use Rattle.dm_meaning.specs.declared.cause.Cause.TheVariants.{Pointer}
use Rattle.dm_meaning.specs.Causes.{earliest, when}
use Rattle.dm_value.specs.Sooner.{joined}
use Rattle.dm_memory.proofs.uses.to_order.Goals as goal

pub returns : goal.returns
returns c = λ types. c.sooner.ensures ∙ joined _ _ _ _
    (c.sooner-one.ensures ∙ joined _ _ _ _ (c.when-apart.ensures ∙ ap (λ b. earliest (when Pointer (not b))) c.in_one_object.ensures) (c.to_use-first.ensures types))
    (c.to_use-second.ensures types)
