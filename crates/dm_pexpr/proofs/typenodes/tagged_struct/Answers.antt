use Rattle.dm_pexpr.proofs.TypeNodeLemmas.{struct-only-made}
use Rattle.dm_pexpr.proofs.typenodes.tagged_struct.Goals as goal

pub returns : goal.returns
returns c source names next within = struct-only-made source names c.args.first c.args.tag c.in_ok-tag.field-0 c.args.after c.checked.result c.in_ok-tag.was next within c.checked.ensures
