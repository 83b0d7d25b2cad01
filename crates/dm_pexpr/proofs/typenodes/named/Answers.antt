use Rattle.dm_pexpr.proofs.DeclaratorNodeLemmas.{named-made}
use Rattle.dm_pexpr.proofs.typenodes.named.Goals as goal

pub returns : goal.returns
returns c source names next within = named-made source names c.args.name c.args.after next within
