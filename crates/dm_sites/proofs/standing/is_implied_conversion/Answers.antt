-- By the tokens of the operand.
use Rattle.std.proofs.Common.{ap, sym, ◌∙◌}
use Rattle.dm_tree.specs.declared.tree.Core.{Core}
use Rattle.dm_tree.specs.Initialisers.{shares_tokens}
use Rattle.dm_tree.specs.Trees.{spans_of}
use Rattle.dm_tree.specs.Views.{view}
use Rattle.dm_sites.proofs.NodeLemmas.{implied-Convert}
use Rattle.dm_sites.proofs.standing.is_implied_conversion.Goals as goal

pub returns-in-Convert : goal.returns-in-Convert
returns-in-Convert c types =
    implied-Convert types c.args.tree.now c.in-Convert.operand c.in-Convert.field-1 c.in-Convert.is
    ∙ (ap (λ (operand : Core). shares_tokens (spans_of (view types c.args.tree.now)) (view types operand)) (sym c.get.ensures) ∙ c.shares.ensures types)
