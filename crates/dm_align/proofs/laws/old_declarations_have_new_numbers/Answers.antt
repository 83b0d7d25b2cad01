-- The entry at the new number.
use Rattle.dm_align.proofs.NumberLemmas.{entry-stays}
use Rattle.dm_align.proofs.laws.old_declarations_have_new_numbers.Goals as goal

pub returns-clause-told : goal.returns-clause-told
returns-clause-told c old_types new_types old new runs put aligned d = entry-stays put new.declared old.declared aligned.declared d
