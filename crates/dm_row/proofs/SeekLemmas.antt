-- Moving the place in a row.
use Rattle.std.proofs.Common.{◌≡◌, ℕ, ◌+◌, ◌≤◌, Bool, true, false, ◌&&◌, nat_le, nat_eq, List, [], ◌∷◌, ◌++◌, refl, sym, ap, ◌∙◌, arith, append_assoc, eq-eqb}
use Rattle.dm_row.specs.declared.item.Item.{Item}
use Rattle.dm_row.specs.declared.item.Item.TheVariants.{Done, Waits}
use Rattle.dm_row.specs.Counts.{one_if, ready_in, results_after, is_next_ready}
use Rattle.dm_row.specs.Sought.{IsBehind}
use Rattle.dm_row.proofs.SideLemmas.{ready-append, results-append}

abbrev pub Sides : Type 0 → Type 0 → Type 0
Sides R N = List (Item R N) × List (Item R N)

-- the items are the same
pub behind-same : {R N : Type 0} (first second : Sides R N) → IsBehind first second → first.0 ++ first.1 ≡ second.0 ++ second.1
behind-same first second h =
    ap (λ xs. first.0 ++ xs) h.behind ∙ (sym (append_assoc first.0 (h.item ∷ []) second.1) ∙ ap (λ xs. xs ++ second.1) (sym h.in_front))

own-ready : {R N : Type 0} (item : Item R N) (results : ℕ) (rest : List (Item R N)) → is_next_ready results (item ∷ rest) ≡ false → ready_in results (item ∷ []) ≡ 0
own-ready (Done result weight) results rest is = refl
own-ready (Waits node operands) results rest is = ap (λ b. one_if b + 0) is ∙ omega arith

own-few : {R N : Type 0} (item : Item R N) (results : ℕ) → ready_in results (item ∷ []) ≤ 1
own-few (Done result weight) results = omega arith
own-few (Waits node operands) results = few (nat_le operands results)
  where
    few : (b : Bool) → one_if b + 0 ≤ 1
    few true = omega arith
    few false = omega arith

-- one item further on there are still no more than the number
still : (b : Bool) (n m number : ℕ) → n ≤ number → m ≤ 1 → (b ≡ false → m ≡ 0) → (b && nat_eq n number) ≡ false → n + m ≤ number
still false n m number few one none is = let e = none refl in omega (arith, few, e)
still true n m number few one none is = below (nat_eq n number) refl is
  where
    below : (c : Bool) → nat_eq n number ≡ c → c ≡ false → n + m ≤ number
    below true e f = absurd (cc)
    below false e f = let h : n ≡ number → ⊥ = λ same. differ (sym (eq-eqb n number same) ∙ e) in omega (arith, few, one, h)
      where
        differ : true ≡ false → ⊥
        differ d = cc

pub on-few : {R N : Type 0} (first second : Sides R N) (number : ℕ) → IsBehind first second → ready_in 0 first.0 ≤ number
    → (is_next_ready (results_after 0 first.0) first.1 && nat_eq (ready_in 0 first.0) number) ≡ false → ready_in 0 second.0 ≤ number
on-few first second number h few is =
    let whole = ap (ready_in 0) h.in_front ∙ ready-append 0 first.0 (h.item ∷ []) in
    let next = ap (is_next_ready (results_after 0 first.0)) h.behind in
    let less = still (is_next_ready (results_after 0 first.0) first.1) (ready_in 0 first.0) (ready_in (results_after 0 first.0) (h.item ∷ [])) number few
    (own-few h.item (results_after 0 first.0)) (λ e. own-ready h.item (results_after 0 first.0) second.1 (sym next ∙ e)) is in
    omega (arith, whole, less)

-- ---- the last item

-- behind a node stands no result
pub behind-node : {R N : Type 0} (xs : List (Item R N)) (node : N) (operands : ℕ) → results_after 0 (xs ++ Waits node operands ∷ []) ≡ 0
behind-node xs node operands = results-append 0 xs (Waits node operands ∷ [])
