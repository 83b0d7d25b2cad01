use Rattle.dm_pstmt.proofs.NodeLemmas.{declared-item-made}
use Rattle.dm_pstmt.proofs.nodes.declared_item.Goals as goal

pub returns : goal.returns
returns c source before behind wanted given = declared-item-made source before behind c.args.declaration c.in_ok-declaration.declaration wanted c.in_ok-declaration.was given
