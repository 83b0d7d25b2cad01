use Rattle.dm_pstmt.proofs.DeclarationNodes.{initialised-made}
use Rattle.dm_pstmt.proofs.declaration.initialised.Goals as goal

pub returns : goal.returns
returns c source is_type before names between behind read wanted declarator scoped given =
    initialised-made source is_type before names between behind c.args.declarator read c.args.value c.in_ok-value.value wanted c.in_ok-value.was declarator scoped given c.args.first c.max-height.result c.max-height.ensures
