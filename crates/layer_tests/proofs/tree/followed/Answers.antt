use Rattle.std.proofs.Common.{ℕ, IsTrue, length, sym, subst, ◌∙◌}
use Rattle.std.proofs.lemmas.Bool.{and_from, lt-ltb}
use Rattle.dm_tree.specs.TypeNumbers.{are_known}
use Rattle.dm_tree.proofs.ViewLemmas.{are_known-Comma}
use Rattle.layer_tests.proofs.tree.followed.Goals as goal

pub returns : goal.returns
returns c =
    let count : ℕ = length c.args.types.now.shapes in
    c.node.ensures count ∙ and_from _ _ (lt-ltb _ _ c.requires.kind)
    (are_known-Comma count c.in_ok-left.left c.in_ok-right.right
    ∙ and_from _ _ (subst (λ x. IsTrue (are_known count x)) (sym c.in_ok-left.ensures) c.requires.tree) (subst (λ x. IsTrue (are_known count x)) (sym c.in_ok-right.ensures) c.number.ensures))
