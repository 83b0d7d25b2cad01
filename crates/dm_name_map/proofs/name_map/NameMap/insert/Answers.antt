use Rattle.std.proofs.Common.{ap, ◌∙◌}
use Rattle.std.specs.FinMap as finite
use Rattle.dm_name_map.proofs.MapLemmas.{entries_with}
use Rattle.dm_name_map.proofs.name_map.NameMap.insert.Goals as goal

pub returns-clause-ok : goal.returns-clause-ok
returns-clause-ok c =
    entries_with c.self.inside.map.entries c.insert.new.self.entries c.args.name c.args.number c.in_ok-insert.ensures.updates.0
    ∙ ap (λ names. finite.insert names c.args.name c.args.number) c.self.view_is
