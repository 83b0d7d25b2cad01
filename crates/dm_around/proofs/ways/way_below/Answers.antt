-- By the place above.
use Rattle.std.proofs.Common.{Option, Some, sym, ap, ap₂, ◌∙◌, Bool}
use Rattle.dm_tree.specs.Views.{view_of_unit}
use Rattle.dm_effect.specs.Sequencing.{comes_first}
use Rattle.dm_sites.specs.declared.site.Above.{Above}
use Rattle.dm_sites.specs.Sites.{Site, sites_of_unit}
use Rattle.dm_sites.proofs.NodeLemmas.{label-view}
use Rattle.dm_around.specs.declared.ways.Way.{Way}
use Rattle.dm_around.specs.Ways.{further, way_at, way_from, way_below}
use Rattle.dm_around.proofs.ways.way_below.Goals as goal

pub returns : goal.returns
returns c types =
    let all = sites_of_unit (view_of_unit types c.args.sites.now) in
    let known = c.args.known.now in
    let step = c.in-Some-above.step in
    let above = c.in-Some.above in
    c.further.ensures
    ∙ (ap₂ (λ (way : Way) (comes : Bool). further way comes) c.way_at.ensures
    (c.comes_first.ensures types ∙ ap (λ label. comes_first label step.part) (sym (label-view types c.in-Some-get.upper.now.tree.now)))
    ∙ (ap (λ (found : Option Site). way_from found (way_at known above) (Some step)) (c.in-Some-get.ensures types)
    ∙ (ap (λ (found : Option Above). way_below all known (Some above) found) (sym c.in-Some-above.is)
    ∙ ap (λ parent. way_below all known parent c.args.site.now.above) (sym c.in-Some.is))))
