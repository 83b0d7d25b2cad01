use Rattle.std.proofs.Common.{ℕ, IsTrue, length, sym, subst, ◌∙◌}
use Rattle.std.proofs.lemmas.Bool.{and_from, lt-ltb}
use Rattle.dm_tree.specs.TypeNumbers.{are_known}
use Rattle.dm_tree.proofs.ViewLemmas.{are_known-Choose}
use Rattle.layer_tests.proofs.tree.choice.Goals as goal

pub returns : goal.returns
returns c =
    let count : ℕ = length c.args.types.now.shapes in
    c.node.ensures count ∙ and_from _ _ (lt-ltb _ _ c.requires.kind)
    (are_known-Choose count c.in_ok-first.first c.in_ok-second.second c.in_ok-third.third
    ∙ and_from _ _ (subst (λ x. IsTrue (are_known count x)) (sym c.in_ok-first.ensures) c.requires.first)
    (and_from _ _ (subst (λ x. IsTrue (are_known count x)) (sym c.in_ok-second.ensures) c.requires.second)
    (subst (λ x. IsTrue (are_known count x)) (sym c.in_ok-third.ensures) c.requires.third)))
