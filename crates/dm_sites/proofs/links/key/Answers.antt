-- A value that is an expression of its own has a key.
use Rattle.std.proofs.Common.{Bool, cond, ◌&&◌, Some, None, ap, sym, ◌∙◌}
use Rattle.dm_tree.specs.Trees.{Spans, spans_of}
use Rattle.dm_tree.specs.Views.{view}
use Rattle.dm_sites.specs.Links.{ends}
use Rattle.dm_sites.specs.Standing.{is_value}
use Rattle.dm_sites.proofs.NodeLemmas.{spans-view}
use Rattle.dm_sites.proofs.links.key.Goals as goal
use Rattle.dm_sites.proofs.links.key.Goals.{else-site-via-then-site+else-is_value, else-site-via-else-site}

pub returns-then-is_value : goal.returns-then-is_value
returns-then-is_value c types all =
    let tree = view types c.args.site.now.tree.now in
    ap (λ (b : Bool). cond (b && is_value tree) (Some (ends (spans_of tree).inner)) None) c.if-site.true
    ∙ (ap (λ (b : Bool). cond b (Some (ends (spans_of tree).inner)) None) (c.is_value.ensures types ∙ c.if-is_value.true)
    ∙ (ap (λ (spans : Spans). Some (ends spans.inner)) (spans-view types c.args.site.now.tree.now) ∙ ap Some (sym c.ends.ensures)))

pub returns-else-site : goal.returns-else-site
returns-else-site c types all =
    let tree = view types c.args.site.now.tree.now in
    elim c.else-site.branch [
      | else-site-via-then-site+else-is_value w ↦
          ap (λ (b : Bool). cond (b && is_value tree) (Some (ends (spans_of tree).inner)) None) w.if-site.true
          ∙ ap (λ (b : Bool). cond b (Some (ends (spans_of tree).inner)) None) (w.is_value.ensures types ∙ w.if-is_value.false)
      | else-site-via-else-site w ↦ ap (λ (b : Bool). cond (b && is_value tree) (Some (ends (spans_of tree).inner)) None) w.if-site.false
    ]
