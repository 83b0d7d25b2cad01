-- The table says whether it is quiet.
use Rattle.std.proofs.Common.{◌≡◌, ℕ, List, Option, not, ap, sym, subst, ◌∙◌}
use Rattle.dm_tree.specs.declared.tree.Core.{out-Core}
use Rattle.dm_tree.specs.declared.unit.CoreUnit.{CoreUnit}
use Rattle.dm_tree.specs.Trees.{Tree, spans_of}
use Rattle.dm_tree.specs.Views.{view, view_of_unit}
use Rattle.dm_tree.proofs.ViewLemmas.{view-core}
use Rattle.dm_effect.specs.Questions.{is_quiet_since}
use Rattle.dm_effect.specs.Quiet.{is_quiet, is_quiet_with}
use Rattle.dm_effect.proofs.TableLemmas.{table-quiet}
use Rattle.dm_effect.proofs.quieting.QuietFunctions.is_quiet.Goals as goal

pub returns : goal.returns
returns c types =
    let one : CoreUnit = c.self.inside.unit.now in
    let tree : Tree = view types c.args.tree.now in
    let since : List (Option ℕ) = c.self.inside.since.items in
    let first : (out-Core c.args.tree.now).inner.first ≡ (spans_of tree).inner.first = sym (ap (λ (whole : Tree). (spans_of whole).inner.first) (view-core types c.args.tree.now)) in
    subst (λ (unit : CoreUnit). not c.any_node.result ≡ is_quiet (view_of_unit types unit) tree) c.self.view_is
    (ap not (c.any_node.ensures types)
    ∙ (ap (λ (since : List (Option ℕ)). is_quiet_with (is_quiet_since since (out-Core c.args.tree.now).inner.first) tree) c.as_slice-since.ensures.value
    ∙ (ap (λ (token : ℕ). is_quiet_with (is_quiet_since since token) tree) first ∙ table-quiet types one since c.self.invariant tree)))
