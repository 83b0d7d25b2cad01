-- Results taken in front of the place, one after another.
use Rattle.std.proofs.Common.{◌≡◌, ℕ, suc, ◌+◌, ◌-◌, ◌≤◌, List, [], ◌∷◌, ◌++◌, refl, sym, ap, ap₂, subst, ◌∙◌, arith, append_assoc, append-nil}
use Rattle.dm_row.specs.declared.item.Item.{Item}
use Rattle.dm_row.specs.declared.item.Item.TheVariants.{Done, Waits}
use Rattle.dm_row.specs.Counts.{ready_in, results_after, weight_by, weight_in}
use Rattle.dm_row.specs.Sought.{IsSought}
use Rattle.dm_expression.specs.declared.waiting.Waiting.{Waiting}
use Rattle.dm_expression.specs.declared.results.Taken.{Taken}
use Rattle.dm_expression.specs.Taken.{dones, results_of, IsOperands, number_of, IsTaken}

pub no-operand : {R N : Type 0} (row : List (Item R N) × List (Item R N)) → IsOperands 0 row row []
no-operand row = record { pairs = []; in_front = sym (append-nil row.0); behind = refl; results = refl; as_many = refl }

-- one more, in front of the others
pub one-operand : {R N : Type 0} (count : ℕ) (old middle new : List (Item R N) × List (Item R N)) (found : List R) (one : R) (weight : ℕ)
    → IsOperands count old middle found → middle.0 ≡ new.0 ++ Done one weight ∷ [] → new.1 ≡ middle.1 → IsOperands (suc count) old new (one ∷ found)
one-operand count old middle new found one weight h in_front behind = record {
  pairs = (one, weight) ∷ h.pairs;
  in_front = h.in_front ∙ (ap (λ xs. xs ++ dones h.pairs) in_front ∙ append_assoc new.0 (Done one weight ∷ []) (dones h.pairs));
  behind = behind ∙ h.behind;
  results = ap (λ rest. one ∷ rest) h.results;
  as_many = ap suc h.as_many;
}

-- ---- weights

pub weight-append : {R N : Type 0} (xs ys : List (Item R N)) → weight_in (xs ++ ys) ≡ weight_in xs + weight_in ys
weight-append [] ys = none-before (weight_in ys)
  where
    none-before : (n : ℕ) → n ≡ 0 + n
    none-before n = omega arith
weight-append (x ∷ xs) ys = let h = weight-append xs ys in joined (weight_by x) (weight_in (xs ++ ys)) (weight_in xs) (weight_in ys) h
  where
    joined : (a b c d : ℕ) → b ≡ c + d → a + b ≡ (a + c) + d
    joined a b c d e = omega (arith, e)

pub weight-operands : {R N : Type 0} (count : ℕ) (before after : List (Item R N) × List (Item R N)) (found : List R) (h : IsOperands count before after found)
    → weight_in (dones {N = N} h.pairs) ≡ weight_in before.0 - weight_in after.0
weight-operands {N = N} count before after found h =
    let all = ap weight_in h.in_front ∙ weight-append after.0 (dones h.pairs) in
    from (weight_in before.0) (weight_in after.0) (weight_in (dones {N = N} h.pairs)) all
  where
    from : (a b c : ℕ) → a ≡ b + c → c ≡ a - b
    from a b c e = omega (arith, e)

-- ---- the node

operands_in : {R N : Type 0} → List (Item R N) → ℕ
operands_in [] = 0
operands_in (Done result weight ∷ rest) = 0
operands_in (Waits node operands ∷ rest) = operands

-- as many results as the node has operands stand in front of it
pub enough : {R N : Type 0} (number : ℕ) (old middle after : List (Item R N) × List (Item R N)) (node : N) (count : ℕ) → IsSought number old middle
    → middle.1 ≡ Waits node count ∷ after.1 → after.0 ≡ middle.0 → count ≤ results_after 0 after.0
unfolding operands_in
enough number old middle after node count h there front =
    let same = ap operands_in (sym there ∙ h.there) in
    subst (λ n. n ≤ results_after 0 after.0) (sym same) (subst (λ xs. h.operands ≤ results_after 0 xs) (sym front) h.enough)

pub taken : {R : Type 0} (choice number : ℕ) (old middle after new : List (Item R Waiting) × List (Item R Waiting)) (all : Taken R) (count : ℕ) → IsSought number old middle
    → middle.1 ≡ Waits all.node count ∷ after.1 → after.0 ≡ middle.0 → IsOperands count after new (results_of all.operands)
    → all.locks ≡ weight_in after.0 - weight_in new.0 → number ≡ number_of choice (ready_in 0 (old.0 ++ old.1)) → IsTaken choice old new all
taken choice number old middle after new all count h there front operands locks chosen = record {
  count = count;
  pairs = operands.pairs;
  same = h.same ∙ (ap₂ (λ xs ys. xs ++ ys) (sym front ∙ operands.in_front) (there ∙ ap (λ rest. Waits all.node count ∷ rest) (sym operands.behind)));
  results = operands.results;
  locks = weight-operands count after new (results_of all.operands) operands ∙ sym locks;
  as_many = operands.as_many;
  chosen = ap (ready_in 0) (sym operands.in_front ∙ front) ∙ (h.counted ∙ chosen);
}

pub weight-less : {R N : Type 0} (count : ℕ) (before after : List (Item R N) × List (Item R N)) (found : List R) → IsOperands count before after found → weight_in after.0 ≤ weight_in before.0
weight-less {N = N} count before after found h = let all = ap weight_in h.in_front ∙ weight-append after.0 (dones h.pairs) in from (weight_in before.0) (weight_in after.0) (weight_in (dones {N = N} h.pairs)) all
  where
    from : (a b c : ℕ) → a ≡ b + c → b ≤ a
    from a b c e = omega (arith, e)
