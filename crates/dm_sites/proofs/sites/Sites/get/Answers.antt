-- The place with this number.
use Rattle.std.proofs.Common.{◌≡◌, List, slice_get, option_map, ap, subst, sym, ◌∙◌}
use Rattle.std.specs.Option.{option_copied}
use Rattle.dm_tree.specs.declared.unit.CoreUnit.{CoreUnit}
use Rattle.dm_tree.specs.Views.{view_of_unit}
use Rattle.dm_sites.specs.declared.site.Site.{Site as CodeSite}
use Rattle.dm_sites.specs.Seen.{seen}
use Rattle.dm_sites.specs.Sites.{sites_of_unit}
use Rattle.dm_sites.proofs.SiteLemmas.{got, looked-up}
use Rattle.dm_sites.proofs.sites.Sites.get.Goals as goal

pub returns : goal.returns
returns c types =
    let all = sites_of_unit (view_of_unit types c.self.inside.unit.now) in
    let found = looked-up c.deref.result.now c.args.number c.get.result c.get.ensures.lookup.1 c.get.ensures.lookup.3 in
    subst (λ (one : CoreUnit). option_map (seen types (sites_of_unit (view_of_unit types one))) (option_copied c.get.result) ≡ slice_get (sites_of_unit (view_of_unit types one)) c.args.number) c.self.view_is
    (sym (got types all c.self.inside.found.items (c.self.invariant.same types) c.args.number (option_copied c.get.result)
    (ap (λ (them : List CodeSite). slice_get them c.args.number) (sym c.deref.ensures.value) ∙ found)))
