-- By the expression above.
use Rattle.std.proofs.Common.{true, false, ap, ◌∙◌}
use Rattle.dm_tree.specs.Views.{view_of_unit}
use Rattle.dm_sites.proofs.NodeLemmas.{label-view}
use Rattle.dm_sites.specs.Sites.{sites_of_unit}
use Rattle.dm_sites.specs.Seen.{seen}
use Rattle.dm_effect.specs.Sequencing.{is_unsequenced}
use Rattle.dm_around.proofs.LinkLemmas.{below-by}
use Rattle.dm_around.proofs.links.link_below.Goals as goal

pub returns-then-is_unsequenced : goal.returns-then-is_unsequenced
returns-then-is_unsequenced c types =
    let all = sites_of_unit (view_of_unit types c.args.sites.now) in
    below-by all c.args.links.now c.args.parent c.in_ok-above.above (seen types all c.in_ok-site.site.now) true c.in_ok-above.was (c.in_ok-site.ensures types)
    (ap is_unsequenced (label-view types c.in_ok-site.site.now.tree.now) ∙ (c.is_unsequenced.ensures types ∙ c.if-is_unsequenced.true))

pub returns-else-is_unsequenced : goal.returns-else-is_unsequenced
returns-else-is_unsequenced c types =
    let all = sites_of_unit (view_of_unit types c.args.sites.now) in
    c.link_at.ensures
    ∙ below-by all c.args.links.now c.args.parent c.in_ok-above.above (seen types all c.in_ok-site.site.now) false c.in_ok-above.was (c.in_ok-site.ensures types)
    (ap is_unsequenced (label-view types c.in_ok-site.site.now.tree.now) ∙ (c.is_unsequenced.ensures types ∙ c.if-is_unsequenced.false))
