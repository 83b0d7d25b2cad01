use Rattle.dm_inside.proofs.CutLemmas.{directive-lies}
use Rattle.dm_inside.proofs.laws.definitions_lie_in_bytes.Goals as goal

pub returns : goal.returns
returns c file bytes k start behind origin plain definition at gives some = directive-lies file bytes k start behind origin plain definition at gives some
