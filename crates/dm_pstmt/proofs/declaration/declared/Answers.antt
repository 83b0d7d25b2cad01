use Rattle.dm_pstmt.proofs.DeclarationNodes.{declared-made}
use Rattle.dm_pstmt.proofs.declaration.declared.Goals as goal

pub returns : goal.returns
returns c source before names behind read seen specifiers items test end within =
    declared-made source before names behind c.args.specifiers read c.args.items seen specifiers items test c.args.first c.args.after c.above-height.result c.checked.result end within c.above-height.ensures c.checked.ensures
