-- The numbers that old declarations have among the new ones.
use Rattle.std.proofs.Common.{◌≡◌, ℕ, zero, suc, ◌+◌, nat_lt, if◌then◌else◌, List, [], ◌∷◌, ◌++◌, map, take, drop, Option, Some, None, option_map, slice_get, refl, ap, sym, ◌∙◌, arith}
use Rattle.std.proofs.lemmas.Bool.Decides.{nat_tests}
use Rattle.dm_tree.specs.Units.{Declaration}
use Rattle.dm_align.specs.Units.{Insertion, moved, without, other_entries, entry_of}

-- a number behind a part that is left out
abbrev behind : ℕ → ℕ → ℕ → ℕ
behind zero count d = d + count
behind (suc from) count zero = 0
behind (suc from) count (suc d) = suc (behind from count d)

behind-is : (from count d : ℕ) → behind from count d ≡ (if nat_lt d from then d else d + count)
behind-is zero count d = grind (arith, nat_tests)
behind-is (suc from) count zero = grind (arith, nat_tests)
behind-is (suc from) count (suc d) = let e = behind-is from count d in grind (arith, nat_tests)

drop-none : {A : Type 0} (n : ℕ) → drop {A = A} n [] ≡ []
drop-none zero = refl
drop-none (suc n) = refl

get-drop : {A : Type 0} (n d : ℕ) (items : List A) → slice_get items (d + n) ≡ slice_get (drop n items) d
get-drop zero d items = ap (slice_get items) (omega arith)
get-drop (suc n) d [] = refl
get-drop (suc n) d (x ∷ xs) = let e : d + suc n ≡ suc (d + n) = omega arith in ap (slice_get (x ∷ xs)) e ∙ get-drop n d xs

-- an element of a list without a part of it, by its number in the whole list
get-without : {A : Type 0} (from count d : ℕ) (items : List A) → slice_get items (behind from count d) ≡ slice_get (without from count items) d
get-without zero count d items = get-drop count d items ∙ ap (λ n. slice_get (drop n items) d) (omega arith)
get-without (suc from) count d [] = sym (ap (λ rest. slice_get rest d) (drop-none (suc from + count)))
get-without (suc from) count zero (x ∷ xs) = refl
get-without (suc from) count (suc d) (x ∷ xs) =
    let e : suc from + count ≡ suc (from + count) = omega arith in
    get-without from count d xs ∙ sym (ap (λ n. slice_get (take from xs ++ drop n (x ∷ xs)) d) e)

pub get-map : {A B : Type 0} (f : A → B) (items : List A) (d : ℕ) → slice_get (map f items) d ≡ option_map f (slice_get items d)
get-map f [] d = refl
get-map f (x ∷ xs) zero = refl
get-map f (x ∷ xs) (suc d) = get-map f xs d

-- an old declaration has its entry at its new number
pub entry-stays : (put : Option Insertion) (new old : List Declaration) → map entry_of (other_entries put new) ≡ map entry_of old
    → (d : ℕ) → option_map entry_of (slice_get new (moved put d)) ≡ option_map entry_of (slice_get old d)
entry-stays None new old same d = sym (get-map entry_of new d) ∙ (ap (λ entries. slice_get entries d) same ∙ get-map entry_of old d)
entry-stays (Some put) new old same d =
    ap (λ n. option_map entry_of (slice_get new n)) (sym (behind-is put.first put.count d))
    ∙ (ap (option_map entry_of) (get-without put.first put.count d new)
    ∙ (sym (get-map entry_of (without put.first put.count new) d) ∙ (ap (λ entries. slice_get entries d) same ∙ get-map entry_of old d)))
