-- Below a conversion, or by the tokens.
use Rattle.std.proofs.Common.{Bool, ◌||◌, not, ap, sym, ◌∙◌}
use Rattle.dm_tree.specs.Initialisers.{shares_tokens}
use Rattle.dm_tree.specs.Trees.{spans_of}
use Rattle.dm_tree.specs.Views.{view}
use Rattle.dm_sites.specs.Standing.{is_conversion}
use Rattle.dm_sites.proofs.NodeLemmas.{label-view}
use Rattle.dm_sites.proofs.standing.is_apart.Goals as goal

pub returns-then-is_conversion : goal.returns-then-is_conversion
returns-then-is_conversion c types =
    ap (λ (b : Bool). b || not (shares_tokens (spans_of (view types c.args.above.now)) (view types c.args.part.now)))
    (ap is_conversion (label-view types c.args.above.now) ∙ (c.is_conversion.ensures types ∙ c.if-is_conversion.true))
    ∙ sym c.if-is_conversion.true

pub returns-else-is_conversion : goal.returns-else-is_conversion
returns-else-is_conversion c types =
    ap (λ (b : Bool). b || not (shares_tokens (spans_of (view types c.args.above.now)) (view types c.args.part.now)))
    (ap is_conversion (label-view types c.args.above.now) ∙ (c.is_conversion.ensures types ∙ c.if-is_conversion.false))
    ∙ ap not (c.shares.ensures types)
