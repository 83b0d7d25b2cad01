-- Lines for the numbers below a count.
use Rattle.std.proofs.Common.{◌≡◌, ℕ, zero, suc, ◌+◌, List, [], ◌∷◌, ◌++◌, sym, ap, ◌∙◌, arith, append_assoc}
use Rattle.std.proofs.lemmas.List.{append-nil}
use Rattle.std.proofs.lemmas.Grind.{flat_map-append}
use Rattle.std.specs.List.{flat_map, range_with_len}

-- one number more
range_with_len-more : (a n : ℕ) → range_with_len a (suc n) ≡ range_with_len a n ++ (a + n) ∷ []
range_with_len-more a zero = ap (λ (k : ℕ). k ∷ []) (omega arith)
range_with_len-more a (suc n) =
    let same : (a + 1) + n ≡ a + suc n = omega arith in
    ap (λ (others : List ℕ). a ∷ others) (range_with_len-more (a + 1) n ∙ ap (λ (k : ℕ). range_with_len (a + 1) n ++ k ∷ []) same)

-- one line more
pub flat_map-more : (line : ℕ → List ℕ) (text before next : List ℕ) (i : ℕ) → before ≡ text ++ flat_map line (range_with_len 0 i) → next ≡ before ++ line i → next ≡ text ++ flat_map line (range_with_len 0 (i + 1))
flat_map-more line text before next i so_far one =
    let next_number : i + 1 ≡ suc i = omega arith in
    let number : 0 + i ≡ i = omega arith in
    let numbers : range_with_len 0 (i + 1) ≡ range_with_len 0 i ++ i ∷ [] =
    ap (range_with_len 0) next_number ∙ (range_with_len-more 0 i ∙ ap (λ (k : ℕ). range_with_len 0 i ++ k ∷ []) number)
    in
    let lines : flat_map line (range_with_len 0 (i + 1)) ≡ flat_map line (range_with_len 0 i) ++ line i =
    ap (flat_map line) numbers ∙ (flat_map-append line (range_with_len 0 i) (i ∷ []) ∙ ap (λ (more : List ℕ). flat_map line (range_with_len 0 i) ++ more) (append-nil (line i)))
    in
    one ∙ (ap (λ (front : List ℕ). front ++ line i) so_far ∙ (append_assoc text (flat_map line (range_with_len 0 i)) (line i) ∙ ap (λ (more : List ℕ). text ++ more) (sym lines)))
