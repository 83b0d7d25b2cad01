use Rattle.dm_pstmt.proofs.ExternalNodes.{declaration-made}
use Rattle.dm_pstmt.proofs.nodes.external_declaration.Goals as goal

pub returns : goal.returns
returns c source before behind wanted given = declaration-made source before behind c.args.declaration c.in_ok-declaration.declaration wanted c.in_ok-declaration.was given c.args.first
