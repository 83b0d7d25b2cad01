use Rattle.std.proofs.Common.{◌≡◌, true, false}
use Rattle.dm_pexpr.proofs.TypeNodeLemmas.{struct-made}
use Rattle.dm_pexpr.proofs.reader.Reader.struct_node.Goals as goal

pub returns : goal.returns
returns c before inside wanted given closed =
    struct-made _ before _ c.args.first inside c.args.tag c.args.members c.in_ok-members.members wanted c.in_ok-members.was (λ empty. let clash : false ≡ true = c.if-is_empty.ensures.1 empty in cc) given
    c.in_ok-after.after c.over.result c.checked.result c.in_ok-after.ensures.1 c.in_ok-after.ensures.2 c.over.ensures c.checked.ensures
