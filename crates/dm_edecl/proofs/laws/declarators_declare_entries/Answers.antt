use Rattle.dm_edecl.proofs.EntryLemmas.{entry-fits}
use Rattle.dm_edecl.proofs.laws.declarators_declare_entries.Goals as goal

pub returns : goal.returns
returns c = entry-fits
