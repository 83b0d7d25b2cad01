-- A statement isn't, nor a conversion that isn't written.
use Rattle.std.proofs.Common.{Bool, ◌&&◌, not, ap, sym, ◌∙◌}
use Rattle.dm_tree.specs.Trees.{is_statement, label_of}
use Rattle.dm_tree.specs.Views.{view}
use Rattle.dm_tree.proofs.ViewLemmas.{view-core}
use Rattle.dm_sites.specs.Standing.{is_implied_conversion}
use Rattle.dm_agree.proofs.standing.is_value.Goals as goal

pub returns-then-not-is_statement : goal.returns-then-not-is_statement
returns-then-not-is_statement c types =
    ap (λ (b : Bool). not b && not (is_implied_conversion (view types c.args.tree.now)))
    (ap is_statement (ap label_of (view-core types c.args.tree.now)) ∙ (c.is_statement.ensures types ∙ c.if-not-is_statement.true))
    ∙ ap not (c.is_implied.ensures types)

pub returns-else-not-is_statement : goal.returns-else-not-is_statement
returns-else-not-is_statement c types =
    ap (λ (b : Bool). not b && not (is_implied_conversion (view types c.args.tree.now)))
    (ap is_statement (ap label_of (view-core types c.args.tree.now)) ∙ (c.is_statement.ensures types ∙ c.if-not-is_statement.false))
    ∙ ap not (sym c.if-not-is_statement.false)
