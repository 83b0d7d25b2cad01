use Rattle.std.proofs.Common.{is_some, sym, ap, ◌∙◌}
use Rattle.std.specs.FinMap as finite
use Rattle.dm_name_map.proofs.MapLemmas.{get_of_entries, entries_without}
use Rattle.dm_name_map.proofs.name_map.NameMap.remove.Goals as goal

pub returns-clause-had : goal.returns-clause-had
returns-clause-had c =
    c.is_some.ensures ∙ ap is_some (c.remove.ensures.value ∙ sym (get_of_entries c.self.inside.map.entries c.args.name.now) ∙ ap (λ names. finite.get names c.args.name.now) c.self.view_is)

pub returns-clause-removed : goal.returns-clause-removed
returns-clause-removed c =
    entries_without c.self.inside.map.entries c.remove.new.self.entries c.args.name.now c.remove.ensures.updates.0
    ∙ ap (λ names. finite.remove names c.args.name.now) c.self.view_is
