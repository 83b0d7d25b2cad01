use Rattle.dm_edit.proofs.OrderLemmas.{edited-both}
use Rattle.dm_edit.proofs.laws.edits_commute.Goals as goal

pub returns : goal.returns
returns c = edited-both
