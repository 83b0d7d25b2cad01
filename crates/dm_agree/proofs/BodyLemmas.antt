-- The body of the added function and the tree of a run, node by node.
use Rattle.std.proofs.Common.{◌≡◌, ◌↔◌, ◌<◌, ℕ, zero, suc, Bool, IsTrue, List, [], ◌∷◌, ◌++◌, length, map, drop, get_or, drop-cons, Bor, refl, sym, ap, ◌∙◌, subst}
use Rattle.dm_runs.specs.declared.run.Run.{Run}
use Rattle.dm_type.specs.Tables.{Table}
use Rattle.dm_tree.specs.declared.tree.Core.{Core, out-Core}
use Rattle.dm_tree.specs.declared.tree.Form.TheVariants as form
use Rattle.dm_tree.specs.Trees.{Label, Spans, Tree, Trees, node, no_trees, more_trees, label_of, kind_of, spans_of, trees_of, trees}
use Rattle.dm_tree.specs.Views.{view}
use Rattle.dm_agree.specs.Agreement.{Rewriting, SameNode, Here, here_below, SameBody, SameBodies}
use Rattle.dm_agree.specs.Arguments.{arguments_in, arguments_below, nothing_here}
use Rattle.dm_agree.specs.Parts.{nows}
use Rattle.dm_agree.proofs.AgreeLemmas.{comma-parts}
use Rattle.dm_agree.proofs.ArgumentLemmas.{body-there}
use Rattle.dm_agree.proofs.StepLemmas.{itself, through}

pub arguments-apart : (it : Rewriting) (run : Run) (tree : Tree) → arguments_in it run nothing_here tree ≡ arguments_below it run (label_of tree) (spans_of tree) (trees_of tree)
arguments-apart it run (node label kind spans parts) = refl

module _ (it : Rewriting) (parameters : List ℕ) (run : Run) (new old : Table) where
  -- ---- commas

  module _ (at other left right first second : Core) (is : (out-Core at).form ≡ form.Comma left right) (other_is : (out-Core other).form ≡ form.Comma first second) where
    abbrev below : Core → Here
    below part = here_below it run (label_of (view old other)) (spans_of (view old other)) (view old part)

    -- a comma, by its operands
    pub comma-same : (SameNode it (label_of (view new at)) (kind_of (view new at)) (view old other)
        × (SameBody it parameters run (below first) (view new left) (view old first) × (SameBody it parameters run (below second) (view new right) (view old second) × Unit {0})))
        ↔ SameBody it parameters run nothing_here (view new at) (view old other)
    comma-same =
        let label = label_of (view old other) in
        let spans = spans_of (view old other) in
        let node : Type 0 = SameNode it (label_of (view new at)) (kind_of (view new at)) (view old other) in
        let parts : Type 0 = SameBodies it parameters run label spans (more_trees (view new left) (more_trees (view new right) no_trees)) (more_trees (view old first) (more_trees (view old second) no_trees)) in
        through (subst (λ (one : Trees). (node × parts) ↔ (node × SameBodies it parameters run label spans one (trees_of (view old other)))) (sym (comma-parts new at left right is))
        (subst (λ (one : Trees). (node × parts) ↔ (node × SameBodies it parameters run label spans (more_trees (view new left) (more_trees (view new right) no_trees)) one)) (sym (comma-parts old other first second other_is)) itself))
        (body-there it parameters run (view new at) (view old other))

    pub comma-arguments : arguments_in it run nothing_here (view old other) ≡ arguments_in it run (below second) (view old second) ++ arguments_in it run (below first) (view old first)
    comma-arguments =
        arguments-apart it run (view old other)
        ∙ ap (λ (parts : Trees). arguments_below it run (label_of (view old other)) (spans_of (view old other)) parts) (comma-parts old other first second other_is)

  -- ---- parts one by one

  module _ (label : Label) (spans : Spans) where
    abbrev pub PartsSame : List (Bor Core) → List (Bor Core) → Type 0
    PartsSame parts others = SameBodies it parameters run label spans (trees (map (view new) (nows parts))) (trees (map (view old) (nows others)))

    pub bodies-count : (parts others : List (Bor Core)) → PartsSame parts others → length parts ≡ length others
    bodies-count [] [] h = refl
    bodies-count [] (y ∷ ys) h = absurd h
    bodies-count (x ∷ xs) [] h = absurd h
    bodies-count (x ∷ xs) (y ∷ ys) h = ap suc (bodies-count xs ys h.1)

    pub bodies-drop : (i : ℕ) (parts others : List (Bor Core)) → PartsSame parts others → PartsSame (drop i parts) (drop i others)
    bodies-drop zero parts others h = h
    bodies-drop (suc i) [] [] h = h
    bodies-drop (suc i) [] (y ∷ ys) h = absurd h
    bodies-drop (suc i) (x ∷ xs) [] h = absurd h
    bodies-drop (suc i) (x ∷ xs) (y ∷ ys) h = bodies-drop i xs ys h.1

    module _ (parts others : List (Bor Core)) (i : ℕ) (x y : Bor Core) (first : i < length parts) (second : i < length others) (is_x : x ≡ get_or parts i x) (is_y : y ≡ get_or others i y) where
      cut : drop i parts ≡ x ∷ drop (suc i) parts
      cut = drop-cons parts i x first ∙ ap (λ (one : Bor Core). one ∷ drop (suc i) parts) (sym is_x)

      other-cut : drop i others ≡ y ∷ drop (suc i) others
      other-cut = drop-cons others i y second ∙ ap (λ (one : Bor Core). one ∷ drop (suc i) others) (sym is_y)

      pub bodies-next : (SameBody it parameters run (here_below it run label spans (view old y.now)) (view new x.now) (view old y.now) × PartsSame (drop (suc i) parts) (drop (suc i) others))
          ↔ PartsSame (drop i parts) (drop i others)
      bodies-next =
          let both : Type 0 = SameBody it parameters run (here_below it run label spans (view old y.now)) (view new x.now) (view old y.now) × PartsSame (drop (suc i) parts) (drop (suc i) others) in
          subst (λ (one : List (Bor Core)). both ↔ PartsSame one (drop i others)) (sym cut)
          (subst (λ (one : List (Bor Core)). both ↔ PartsSame (x ∷ drop (suc i) parts) one) (sym other-cut) itself)

      pub arguments-next : arguments_below it run label spans (trees (map (view old) (nows (drop i others))))
          ≡ arguments_below it run label spans (trees (map (view old) (nows (drop (suc i) others)))) ++ arguments_in it run (here_below it run label spans (view old y.now)) (view old y.now)
      arguments-next = ap (λ (left : List (Bor Core)). arguments_below it run label spans (trees (map (view old) (nows left)))) other-cut

    pub with-bodies : (test : Bool) (a b c d : Trees) → a ≡ b → c ≡ d → (IsTrue test ↔ SameBodies it parameters run label spans a c) → IsTrue test ↔ SameBodies it parameters run label spans b d
    with-bodies test a b c d first second says =
        subst (λ (one : Trees). IsTrue test ↔ SameBodies it parameters run label spans one d) first (subst (λ (one : Trees). IsTrue test ↔ SameBodies it parameters run label spans a one) second says)
