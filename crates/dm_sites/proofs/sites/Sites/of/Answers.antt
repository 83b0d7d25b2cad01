-- The walk finds all places, and they are linked.
use Rattle.std.proofs.Common.{map, List, ap, ◌∙◌}
use Rattle.dm_tree.specs.Views.{view_of_unit}
use Rattle.dm_sites.specs.declared.site.Site.{Site as CodeSite}
use Rattle.dm_sites.specs.Seen.{seen}
use Rattle.dm_sites.specs.Sites.{sites_of_unit}
use Rattle.dm_sites.proofs.sites.Sites.of.Goals as goal

pub invariant_of-result : goal.invariant_of-result
invariant_of-result c = record {
  same = λ types. c.in_ok-found.ensures types;
  linked = λ types.
      let all = sites_of_unit (view_of_unit types c.args.unit.now) in
      c.in_ok-links.ensures types all (ap (λ (found : List CodeSite). map (seen types all) found) c.as_slice.ensures.value ∙ c.in_ok-found.ensures types);
}
