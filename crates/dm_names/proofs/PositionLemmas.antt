-- Positions of a list, item by item.
use Rattle.std.proofs.Common.{◌≡◌, ◌<◌, ◌+◌, ℕ, suc, List, ◌∷◌, length, drop, get_or, sym, ap, ◌∙◌, drop-cons, add-one}
use Rattle.std.specs.Prelude.{Option}
use Rattle.dm_names.specs.declared.identifier.Entered.{Entered}
use Rattle.dm_names.specs.declared.identifier.Identifier.{Identifier}
use Rattle.dm_names.specs.Positions.{noted, entered_noted, identifiers_noted}

pub cut : {A : Type 0} (xs : List A) (i : ℕ) (x : A) → i < length xs → x ≡ get_or xs i x → drop i xs ≡ x ∷ drop (i + 1) xs
cut xs i x inside is = rw (add-one, drop-cons xs i x inside) (ap (λ it. it ∷ drop (suc i) xs) (sym is))

pub one-noted : (before now : ℕ → Option ℕ) (k : ℕ) (all : List Entered) (i : ℕ) (x : Entered) (whole : ℕ → Option ℕ) → i < length all → x ≡ get_or all i x
    → now ≡ noted before x.number k → entered_noted before k (drop i all) ≡ whole → entered_noted now k (drop (i + 1) all) ≡ whole
one-noted before now k all i x whole inside is new so_far =
    ap (λ ps. entered_noted ps k (drop (i + 1) all)) new
    ∙ ap (entered_noted before k) (sym (cut all i x inside is))
    ∙ so_far

pub one-placed : (before now : ℕ → Option ℕ) (n m : ℕ) (all : List Identifier) (i : ℕ) (d : Identifier) (whole : ℕ → Option ℕ) → i < length all
    → now ≡ noted before (get_or all i d).at n → m ≡ n + 1 → identifiers_noted before n (drop i all) ≡ whole → identifiers_noted now m (drop (i + 1) all) ≡ whole
one-placed before now n m all i d whole inside new next so_far =
    let next_drop : drop i all ≡ get_or all i d ∷ drop (i + 1) all = rw (add-one) (drop-cons all i d inside) in
    ap (λ ps. identifiers_noted ps m (drop (i + 1) all)) new
    ∙ ap (λ k. identifiers_noted (noted before (get_or all i d).at n) k (drop (i + 1) all)) next
    ∙ ap (identifiers_noted before n) (sym next_drop)
    ∙ so_far
