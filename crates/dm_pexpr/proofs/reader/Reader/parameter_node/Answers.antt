use Rattle.dm_pexpr.proofs.TypeNodeLemmas.{parameter-made}
use Rattle.dm_pexpr.proofs.reader.Reader.parameter_node.Goals as goal

pub returns : goal.returns
returns c before names read wanted specifiers given =
    parameter-made _ before names _ _ c.args.specifiers read c.args.declarator c.in-Some.declarator wanted c.in-Some.is specifiers given c.args.first c.named_height-height.result c.named_height-height.ensures
    c.declarator_name.result c.declarator_name.ensures c.in_ok-declare.ensures
