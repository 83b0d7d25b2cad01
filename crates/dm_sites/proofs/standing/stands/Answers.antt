-- A value, and by its tokens.
use Rattle.std.proofs.Common.{Bool, ◌&&◌, ap, sym, ◌∙◌}
use Rattle.dm_tree.specs.Trees.{spans_of}
use Rattle.dm_tree.specs.Views.{view}
use Rattle.dm_sites.specs.Standing.{is_extent}
use Rattle.dm_sites.proofs.standing.stands.Goals as goal

pub returns-then-is_value : goal.returns-then-is_value
returns-then-is_value c types =
    ap (λ (b : Bool). b && is_extent c.args.span (spans_of (view types c.args.tree.now))) (c.is_value.ensures types ∙ c.if-is_value.true) ∙ c.is_extent.ensures types

pub returns-else-is_value : goal.returns-else-is_value
returns-else-is_value c types = ap (λ (b : Bool). b && is_extent c.args.span (spans_of (view types c.args.tree.now))) (c.is_value.ensures types ∙ c.if-is_value.false) ∙ sym c.if-is_value.false
