-- How a list begins.
use Rattle.std.proofs.Common.{◌≡◌, ◌≤◌, List, [], ◌∷◌, ◌++◌, length, refl, sym, ◌∙◌, ap, arith, append_assoc, length-append}
use Rattle.std.proofs.lemmas.List.{append-nil}
use Rattle.dm_token.specs.Prefixes.{IsPrefix}

-- what begins with a longer list begins with the shorter one
pub IsPrefix-shorter : {A : Type 0} (xs ys whole : List A) → IsPrefix (xs ++ ys) whole → IsPrefix xs whole
IsPrefix-shorter xs ys whole (rest, e) = (ys ++ rest, e ∙ append_assoc xs ys rest)

-- of two beginnings of one list the shorter is a beginning of the longer
nested : {A : Type 0} (short long r s : List A) → short ++ r ≡ long ++ s → length short ≤ length long → IsPrefix short long
nested [] long r s e h = (long, refl)
nested (x ∷ xs) [] r s e h = absurd (omega arith)
nested (x ∷ xs) (y ∷ ys) r s e h =
    let same : x ≡ y = cc in
    let tails : xs ++ r ≡ ys ++ s = cc in
    let inner : IsPrefix xs ys = nested xs ys r s tails (omega arith) in
    let known : ys ≡ xs ++ inner.0 = inner.1 in
    (inner.0, cc)

pub IsPrefix-nested : {A : Type 0} (short long whole : List A) → IsPrefix short whole → IsPrefix long whole → length short ≤ length long → IsPrefix short long
IsPrefix-nested short long whole (r, e) (s, f) h = nested short long r s (sym e ∙ f) h

nothing_behind : {A : Type 0} (xs ys rest : List A) → ys ≡ xs ++ rest → length rest ≡ 0 → xs ≡ ys
nothing_behind xs ys [] e h = sym (e ∙ append-nil xs)
nothing_behind xs ys (z ∷ rest) e h = absurd (omega arith)

-- two beginnings of one length are the same
pub IsPrefix-same : {A : Type 0} (xs ys whole : List A) → IsPrefix xs whole → IsPrefix ys whole → length xs ≡ length ys → xs ≡ ys
IsPrefix-same xs ys whole p q h =
    let inner : IsPrefix xs ys = IsPrefix-nested xs ys whole p q (omega arith) in
    nothing_behind xs ys inner.0 inner.1 (omega (arith, length-append xs inner.0, ap length inner.1))

pub without_items : {A : Type 0} (xs : List A) → length xs ≡ 0 → xs ≡ []
without_items [] h = refl
without_items (x ∷ xs) h = absurd (omega arith)
