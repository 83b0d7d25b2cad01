-- One is null, they don't point into one array, or one can't be used.
use Rattle.std.proofs.Common.{ap, ◌∙◌}
use Rattle.dm_meaning.specs.declared.cause.Cause.TheVariants.{Null, Pointer}
use Rattle.dm_meaning.specs.Causes.{earliest, when}
use Rattle.dm_value.specs.Sooner.{joined}
use Rattle.dm_memory.proofs.compare.to_subtract.Goals as goal

pub returns : goal.returns
returns c = λ types. c.sooner.ensures ∙ joined _ _ _ _
    (c.sooner-three.ensures ∙ joined _ _ _ _
    (c.sooner-two.ensures ∙ joined _ _ _ _ (c.when-null.ensures ∙ ap (λ b. earliest (when Null b)) c.is_one_null.ensures)
    (c.when-apart.ensures ∙ ap (λ b. earliest (when Pointer b)) c.is_unknown.ensures))
    (c.to_use-first.ensures types))
    (c.to_use-second.ensures types)
