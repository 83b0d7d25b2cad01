use Rattle.std.proofs.Common.{inr}
use Rattle.dm_void.proofs.RefineLemmas.{restated_refines}
use Rattle.dm_void.proofs.laws.uncalled_functions_refine.Goals as goal

pub returns : goal.returns
returns c program f value other functions restated other_name never = restated_refines program f value other functions restated other_name (inr never)
