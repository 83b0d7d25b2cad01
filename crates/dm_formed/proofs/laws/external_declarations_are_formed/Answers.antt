use Rattle.dm_formed.proofs.SourceLemmas.{syntax-externals}
use Rattle.dm_formed.proofs.laws.external_declarations_are_formed.Goals as goal

pub returns : goal.returns
returns c = syntax-externals
