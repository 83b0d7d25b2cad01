-- By what is asked.
use Rattle.std.proofs.Common.{ℕ, List, Option, ap, sym, ◌∙◌}
use Rattle.std.specs.List.{list_any}
use Rattle.dm_tree.specs.Paths.{all_in}
use Rattle.dm_tree.specs.Trees.{Tree, spans_of}
use Rattle.dm_tree.specs.Views.{view}
use Rattle.dm_tree.proofs.ViewLemmas.{view-core}
use Rattle.dm_effect.specs.declared.around.Doubt.{Doubt}
use Rattle.dm_effect.specs.Doubts.{is_doubted}
use Rattle.dm_effect.specs.Questions.{is_quiet_since}
use Rattle.dm_effect.specs.Quiet.{disturbs}
use Rattle.dm_effect.proofs.WalkLemmas.{twice}
use Rattle.dm_effect.proofs.around.doubts.Goals as goal

pub returns-in-Writes : goal.returns-in-Writes
returns-in-Writes c types = c.any_node.ensures types ∙ sym (ap (λ (doubt : Doubt). is_doubted types doubt (view types c.args.tree.now)) c.in-Writes.is)

pub returns-in-Disturbs : goal.returns-in-Disturbs
returns-in-Disturbs c types =
    let tree : Tree = view types c.args.tree.now in
    let since : List (Option ℕ) = c.in-Disturbs.since.now in
    c.any_node-in-Disturbs.ensures types
    ∙ (ap (λ (whole : Tree). list_any (disturbs (is_quiet_since since (spans_of whole).inner.first)) (all_in tree)) (sym (view-core types c.args.tree.now))
    ∙ (sym (twice (list_any (disturbs (is_quiet_since since (spans_of tree).inner.first)) (all_in tree)))
    ∙ sym (ap (λ (doubt : Doubt). is_doubted types doubt tree) c.in-Disturbs.is)))
