use Rattle.dm_pexpr.proofs.TypeNodeLemmas.{name-made}
use Rattle.dm_pexpr.proofs.reader.Reader.name_node.Goals as goal

pub returns : goal.returns
returns c before names read wanted specifiers given =
    name-made _ before names _ c.args.specifiers read c.args.declarator c.in_ok-declarator.declarator wanted c.in_ok-declarator.was specifiers given c.args.first c.named_height-height.result c.named_height-height.ensures
