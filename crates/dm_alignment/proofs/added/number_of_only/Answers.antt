-- The one item decides.
use Rattle.dm_alignment.proofs.AddedLemmas.{not-only}
use Rattle.dm_alignment.proofs.added.number_of_only.Goals as goal

pub returns-in-len1-clause-none : goal.returns-in-len1-clause-none
returns-in-len1-clause-none c = not-only c.args.entered.now c.one-item.result c.number_of.result c.args.name.now c.one-item.is c.number_of.ensures.none
