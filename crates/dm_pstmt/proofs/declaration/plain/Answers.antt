use Rattle.dm_pstmt.proofs.DeclarationNodes.{plain-made}
use Rattle.dm_pstmt.proofs.declaration.plain.Goals as goal

pub returns : goal.returns
returns c source is_type before names behind read declarator scoped = plain-made source is_type before names behind c.args.declarator read declarator scoped c.args.first
