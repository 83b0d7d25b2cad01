use Rattle.dm_rewrite.proofs.UnnamedLemmas.{begun_free}
use Rattle.dm_rewrite.proofs.laws.unnamed_objects.Goals as goal

pub returns : goal.returns
returns c = begun_free
