use Rattle.std.proofs.Common.{ap, ◌∙◌}
use Rattle.std.specs.FinMap as finite
use Rattle.dm_name_map.proofs.MapLemmas.{entries_without}
use Rattle.dm_pexpr.proofs.names.Names.remove.Goals as goal

pub returns : goal.returns
returns c =
    entries_without c.self.inside.map.entries c.remove.new.self.entries c.args.name.now c.remove.ensures.updates.0
    ∙ ap (λ names. finite.remove names c.args.name.now) c.self.view_is
