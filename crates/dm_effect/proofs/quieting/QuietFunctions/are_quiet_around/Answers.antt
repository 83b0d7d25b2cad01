-- The table says of each of them whether it is quiet.
use Rattle.std.proofs.Common.{◌≡◌, ℕ, List, Option, not, ap, subst, ◌∙◌}
use Rattle.std.specs.List.{list_all, list_any}
use Rattle.dm_tree.specs.declared.unit.CoreUnit.{CoreUnit}
use Rattle.dm_tree.specs.Trees.{Tree, spans_of}
use Rattle.dm_tree.specs.Views.{view, view_of_unit}
use Rattle.dm_effect.specs.Questions.{is_quiet_since}
use Rattle.dm_effect.specs.Quiet.{is_quiet, is_quiet_with}
use Rattle.dm_effect.specs.Sequencing.{around}
use Rattle.dm_effect.proofs.TableLemmas.{none-fails, table-quiet}
use Rattle.dm_effect.proofs.quieting.QuietFunctions.are_quiet_around.Goals as goal

pub returns : goal.returns
returns c types =
    let one : CoreUnit = c.self.inside.unit.now in
    let trees : List Tree = around c.args.at.now (view types c.args.full.now) in
    let since : List (Option ℕ) = c.self.inside.since.items in
    subst (λ (unit : CoreUnit). not c.any_around.result ≡ list_all (is_quiet (view_of_unit types unit)) trees) c.self.view_is
    (ap not (c.any_around.ensures types)
    ∙ (ap (λ (since : List (Option ℕ)). not (list_any (λ (tree : Tree). not (is_quiet_with (is_quiet_since since (spans_of tree).inner.first) tree)) trees)) c.as_slice.ensures.value
    ∙ none-fails (is_quiet (view_of_unit types one)) (λ (tree : Tree). not (is_quiet_with (is_quiet_since since (spans_of tree).inner.first) tree))
    (λ tree. ap not (table-quiet types one since c.self.invariant tree)) trees))
