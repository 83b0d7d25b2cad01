use Rattle.std.proofs.Common.{sym, ap, ◌∙◌}
use Rattle.std.specs.FinMap as finite
use Rattle.dm_name_map.proofs.MapLemmas.{get_of_entries}
use Rattle.dm_pexpr.proofs.names.Names.get.Goals as goal

pub returns : goal.returns
returns c =
    c.copied.ensures ∙ c.get.ensures.value ∙ sym (get_of_entries c.self.inside.map.entries c.args.name.now) ∙ ap (λ names. finite.get names c.args.name.now) c.self.view_is
