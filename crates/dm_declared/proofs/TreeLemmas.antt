-- What trees declare, in order.
--     Goes automatic low tree high      the numbers that its declarators declare rise, and no item of a `switch` in it is a declaration
--     GoAll automatic low parts high      so do those of some trees
use Rattle.std.specs.Prelude.{◌≡◌, refl, ℕ, ◌≤◌, Bool, true, false, not, List, [], ◌∷◌, ◌++◌}
use Rattle.std.proofs.Common.{sym, ap₂, subst, true≢false, arith}
use Rattle.dm_tree.specs.Trees.{Label, declare, switch, is_statement, Tree, Trees, node, no_trees, more_trees, trees}
use Rattle.dm_effect.specs.Scoped.{declared_here, declared_by}
use Rattle.dm_meaning.specs.Wholes.{is_expression, are_expressions, all_expressions}
use Rattle.dm_meaning.proofs.OptionLemmas.{and_left, and_right}
use Rattle.dm_initialised.specs.Units.{numbers_below, numbers_below_all}
use Rattle.dm_initialised.specs.Once.{ItemsDeclareNothing, SwitchesDeclareNothing, AllSwitchesDeclareNothing}
use Rattle.dm_declared.proofs.NumberLemmas.{Rises, wider, joined}

module _ (automatic : ℕ → Bool) where
  abbrev pub Goes : ℕ → Tree → ℕ → Type 0
  Goes low tree high = Rises automatic low (numbers_below tree) high × SwitchesDeclareNothing tree

  abbrev pub GoAll : ℕ → Trees → ℕ → Type 0
  GoAll low parts high = Rises automatic low (numbers_below_all parts) high × AllSwitchesDeclareNothing parts

-- ---- expressions declare nothing

pub plain_form : (form : Label) → not (is_statement form) ≡ true → (declared_here form ≡ []) × ((parts : Trees) → ItemsDeclareNothing form parts)
plain_form (declare lengths declarators) e = absurd (true≢false (sym e))
plain_form switch e = absurd (true≢false (sym e))
plain_form form e = (refl, λ parts. tt)

mutual
  plain_tree : (tree : Tree) → is_expression tree ≡ true → (numbers_below tree ≡ []) × SwitchesDeclareNothing tree
  plain_tree (node form kind spans parts) e =
      let here = plain_form form (and_left (not (is_statement form)) (are_expressions parts) e) in
      let below = plain_trees parts (and_right (not (is_statement form)) (are_expressions parts) e) in
      (ap₂ (λ (ds es : List ℕ). ds ++ es) here.0 below.0, (here.1 parts, below.1))

  plain_trees : (parts : Trees) → are_expressions parts ≡ true → (numbers_below_all parts ≡ []) × AllSwitchesDeclareNothing parts
  plain_trees no_trees e = (refl, tt)
  plain_trees (more_trees first rest) e =
      let one = plain_tree first (and_left (is_expression first) (are_expressions rest) e) in
      let others = plain_trees rest (and_right (is_expression first) (are_expressions rest) e) in
      (ap₂ (λ (ds es : List ℕ). ds ++ es) one.0 others.0, (one.1, others.1))

pub plain_label : (tree : Tree) → is_expression tree ≡ true → declared_by tree ≡ []
plain_label (node form kind spans parts) e = (plain_form form (and_left (not (is_statement form)) (are_expressions parts) e)).0

module _ (automatic : ℕ → Bool) where
  pub expression_goes : (low high : ℕ) (tree : Tree) → is_expression tree ≡ true → low ≤ high → Goes automatic low tree high
  expression_goes low high tree e h = let plain = plain_tree tree e in (subst (λ ds. Rises automatic low ds high) (sym plain.0) h, plain.1)

  -- ---- trees behind one another

  pub goes_wider : (lower low high higher : ℕ) (tree : Tree) → lower ≤ low → high ≤ higher → Goes automatic low tree high → Goes automatic lower tree higher
  goes_wider lower low high higher tree l h g = (wider automatic lower low high higher (numbers_below tree) l h g.0, g.1)

  pub all_wider : (lower low high higher : ℕ) (parts : Trees) → lower ≤ low → high ≤ higher → GoAll automatic low parts high → GoAll automatic lower parts higher
  all_wider lower low high higher parts l h g = (wider automatic lower low high higher (numbers_below_all parts) l h g.0, g.1)

  pub then_others : (low mid high : ℕ) (first : Tree) (rest : Trees) → Goes automatic low first mid → GoAll automatic mid rest high → GoAll automatic low (more_trees first rest) high
  then_others low mid high first rest g h = (joined automatic low mid high (numbers_below first) (numbers_below_all rest) g.0 h.0, (g.1, h.1))

  pub alone : (low high : ℕ) (tree : Tree) → Goes automatic low tree high → GoAll automatic low (more_trees tree no_trees) high
  alone low high tree g = then_others low high high tree no_trees g (omega arith, tt)

  -- an expression before others
  pub value_then : (low mid high : ℕ) (value : Tree) (rest : Trees) → is_expression value ≡ true → low ≤ mid → GoAll automatic mid rest high → GoAll automatic low (more_trees value rest) high
  value_then low mid high value rest e h g = then_others low mid high value rest (expression_goes low mid value e h) g

  pub expressions_go : (low high : ℕ) (list : List Tree) → all_expressions list ≡ true → low ≤ high → GoAll automatic low (trees list) high
  expressions_go low high [] e h = (h, tt)
  expressions_go low high (first ∷ rest) e h =
      value_then low low high first (trees rest) (and_left (is_expression first) (all_expressions rest) e) (omega arith)
      (expressions_go low high rest (and_right (is_expression first) (all_expressions rest) e) h)
