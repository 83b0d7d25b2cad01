-- An object with a number can't be used where its lifetime has ended.
use Rattle.std.proofs.Common.{not, ap, ◌∙◌}
use Rattle.dm_meaning.specs.declared.cause.Cause.TheVariants.{Life}
use Rattle.dm_meaning.specs.Causes.{earliest, when}
use Rattle.dm_memory.proofs.BlockLemmas.{numbered-absent}
use Rattle.dm_memory.proofs.access.absence.Goals as goal

pub returns-in-Numbered : goal.returns-in-Numbered
returns-in-Numbered c = λ types. c.when.ensures
    ∙ (ap (λ lives. earliest (when Life (not lives))) (c.lives.ensures types) ∙ numbered-absent types c.args.blocks.now c.args.name.now _ c.in-Numbered.is)
