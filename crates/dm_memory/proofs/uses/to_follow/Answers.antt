-- It is null, or can't be used.
use Rattle.std.proofs.Common.{ap, ◌∙◌}
use Rattle.dm_meaning.specs.declared.cause.Cause.TheVariants.{Null}
use Rattle.dm_meaning.specs.Causes.{earliest, when}
use Rattle.dm_value.specs.Sooner.{joined}
use Rattle.dm_memory.proofs.uses.to_follow.Goals as goal

pub returns : goal.returns
returns c = λ types. c.sooner.ensures ∙ joined _ _ _ _ (c.when-null.ensures ∙ ap (λ b. earliest (when Null b)) c.is_null.ensures) (c.to_use-used.ensures types)
