use Rattle.dm_pstmt.proofs.DeclarationNodes.{valued-made}
use Rattle.dm_pstmt.proofs.initialiser.valued.Goals as goal

pub returns : goal.returns
returns c source before behind wanted given = valued-made source before behind c.args.value c.in_ok-value.value wanted c.in_ok-value.was given c.args.first
