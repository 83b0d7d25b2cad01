-- The innermost scope is kept last.
use Rattle.std.proofs.Common.{◌≡◌, ℕ, suc, ◌+◌, ◌-◌, ◌<◌, List, [], ◌∷◌, ◌++◌, length, reverse, get_or, slice_set, refl, sym, ap, ◌∙◌, subst, arith, length-append}
use Rattle.std.proofs.lemmas.List.{reverse-append}
use Rattle.std.proofs.Math.Seq.{get_or-append_seam}
use Rattle.std.specs.FinMap as finite
use Rattle.dm_scope.specs.Scopes.{declared}
use Rattle.dm_name_map.specs.Numbers.{Numbers}

-- a list that isn't empty has a last item
snoc : {A : Type 0} (xs : List A) → 0 < length xs → (front : List A) × (last : A) × (xs ≡ front ++ last ∷ [])
snoc [] some = absurd (omega (arith, some))
snoc (x ∷ []) some = ([], x, refl)
snoc (x ∷ y ∷ ys) some = let rest = snoc (y ∷ ys) (omega arith) in (x ∷ rest.0, rest.1, ap (λ zs. x ∷ zs) rest.2)

set-last : {A : Type 0} (front : List A) (x y : A) → slice_set (front ++ x ∷ []) (length front) y ≡ front ++ y ∷ []
set-last [] x y = refl
set-last (z ∷ front) x y = ap (λ zs. z ∷ zs) (set-last front x y)

at-end : (front : List Numbers) (last inner : Numbers) (name : List ℕ) (number : ℕ) → inner ≡ get_or (front ++ last ∷ []) (length (front ++ last ∷ []) - 1) inner
    → reverse (slice_set (front ++ last ∷ []) (length (front ++ last ∷ []) - 1) (finite.insert inner name number)) ≡ declared (reverse (front ++ last ∷ [])) name number
at-end front last inner name number is =
    let n : length (front ++ last ∷ []) - 1 ≡ length front = let l = length-append front (last ∷ []) in omega (arith, l) in
    let same : inner ≡ last = is ∙ ap (λ k. get_or (front ++ last ∷ []) k inner) n ∙ get_or-append_seam front last [] inner in
    ap (λ k. reverse (slice_set (front ++ last ∷ []) k (finite.insert inner name number))) n
    ∙ ap reverse (set-last front last (finite.insert inner name number))
    ∙ reverse-append front (finite.insert inner name number ∷ [])
    ∙ ap (λ m. finite.insert m name number ∷ reverse front) same
    ∙ sym (ap (λ scopes. declared scopes name number) (reverse-append front (last ∷ [])))

-- a declaration in the last map is one in the innermost scope
pub declared-last : (maps : List Numbers) (inner : Numbers) (name : List ℕ) (number : ℕ) → 0 < length maps → inner ≡ get_or maps (length maps - 1) inner
    → reverse (slice_set maps (length maps - 1) (finite.insert inner name number)) ≡ declared (reverse maps) name number
declared-last maps inner name number some is =
    let parts = snoc maps some in
    subst (λ ms. inner ≡ get_or ms (length ms - 1) inner → reverse (slice_set ms (length ms - 1) (finite.insert inner name number)) ≡ declared (reverse ms) name number)
    (sym parts.2) (at-end parts.0 parts.1 inner name number) is
