use Rattle.dm_ctok.proofs.JoinLemmas.{common-is_longest}
use Rattle.dm_ctok.proofs.laws.longest_common_prefix.Goals as goal

pub returns : goal.returns
returns c = common-is_longest
