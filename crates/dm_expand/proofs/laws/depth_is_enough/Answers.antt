use Rattle.std.proofs.Common.{arith}
use Rattle.dm_expand.proofs.ProgressLemmas.{expanded_within-is}
use Rattle.dm_expand.proofs.laws.depth_is_enough.Goals as goal

pub returns : goal.returns
returns c = λ macros depth tokens progress within deep. expanded_within-is macros depth progress.spent deep tokens progress (omega arith) within
