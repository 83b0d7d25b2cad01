use Rattle.dm_edit.proofs.VisibleLemmas.{lies-in}
use Rattle.dm_edit.proofs.laws.a_definition_lies.Goals as goal

pub returns : goal.returns
returns c = lies-in
