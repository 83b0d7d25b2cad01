-- Changes of types that are undone.
use Rattle.std.specs.Prelude.{◌≡◌, ℕ, zero, suc, ◌<◌, ◌≤◌, List, [], ◌∷◌, ◌++◌, length, take, drop, slice_set, slice_index_or, refl}
use Rattle.std.proofs.Common.{sym, ap, ◌∙◌, arith}
use Rattle.dm_tree.specs.declared.unit.Declared.{Declared}
use Rattle.dm_estanding.specs.declared.standing.Retyped.{Retyped}
use Rattle.dm_estanding.specs.Undoing.{set_kind, undone}

-- an entry that is written anew
pub set-written : (number kind : ℕ) (entries : List Declared) (entry : Declared) → number < length entries → entry ≡ slice_index_or entries number entry
    → slice_set entries number (record entry { kind = kind }) ≡ set_kind number kind entries
set-written number kind [] entry below is = absurd (omega (arith, below))
set-written zero kind (first ∷ entries) entry below is = ap (λ (one : Declared). record one { kind = kind } ∷ entries) is
set-written (suc number) kind (first ∷ entries) entry below is = ap (λ es. first ∷ es) (set-written number kind entries entry (omega (arith, below)) is)

pub set-beyond : (number kind : ℕ) (entries : List Declared) → length entries ≤ number → set_kind number kind entries ≡ entries
set-beyond number kind [] beyond = refl
set-beyond zero kind (first ∷ entries) beyond = absurd (omega (arith, beyond))
set-beyond (suc number) kind (first ∷ entries) beyond = ap (λ es. first ∷ es) (set-beyond number kind entries (omega (arith, beyond)))

pub length-set : (number kind : ℕ) (entries : List Declared) → length (set_kind number kind entries) ≡ length entries
length-set number kind [] = refl
length-set zero kind (first ∷ entries) = refl
length-set (suc number) kind (first ∷ entries) = ap suc (length-set number kind entries)

-- ---- the first entries, and those behind them

take-set : (count number kind : ℕ) (entries : List Declared) → take count (set_kind number kind entries) ≡ set_kind number kind (take count entries)
take-set zero number kind entries = refl
take-set (suc count) number kind [] = refl
take-set (suc count) zero kind (first ∷ entries) = refl
take-set (suc count) (suc number) kind (first ∷ entries) = ap (λ es. first ∷ es) (take-set count number kind entries)

pub take-undone : (count : ℕ) (changes : List Retyped) (entries : List Declared) → take count (undone changes entries) ≡ undone changes (take count entries)
take-undone count [] entries = refl
take-undone count (change ∷ changes) entries =
    take-set count change.number change.kind (undone changes entries) ∙ ap (set_kind change.number change.kind) (take-undone count changes entries)

take-beyond : (count number kind : ℕ) (entries : List Declared) → count ≤ number → take count (set_kind number kind entries) ≡ take count entries
take-beyond zero number kind entries beyond = refl
take-beyond (suc count) number kind [] beyond = refl
take-beyond (suc count) zero kind (first ∷ entries) beyond = absurd (omega (arith, beyond))
take-beyond (suc count) (suc number) kind (first ∷ entries) beyond = ap (λ es. first ∷ es) (take-beyond count number kind entries (omega (arith, beyond)))

pub drop-set : (count number kind : ℕ) (entries : List Declared) → number < count → drop count (set_kind number kind entries) ≡ drop count entries
drop-set zero number kind entries below = absurd (omega (arith, below))
drop-set (suc count) number kind [] below = refl
drop-set (suc count) zero kind (first ∷ entries) below = refl
drop-set (suc count) (suc number) kind (first ∷ entries) below = drop-set count number kind entries (omega (arith, below))

-- ---- the last change

undone-last : (changes : List Retyped) (change : Retyped) (entries : List Declared)
    → undone (changes ++ change ∷ []) entries ≡ undone changes (set_kind change.number change.kind entries)
undone-last [] change entries = refl
undone-last (first ∷ changes) change entries = ap (set_kind first.number first.kind) (undone-last changes change entries)

-- it is one of the first entries
pub last-undone : (count : ℕ) (changes : List Retyped) (change : Retyped) (entries : List Declared)
    → take count (undone changes (set_kind change.number change.kind entries)) ≡ take count (undone (changes ++ change ∷ []) entries)
last-undone count changes change entries = ap (take count) (sym (undone-last changes change entries))

-- or it is none of them
pub last-beyond : (count : ℕ) (changes : List Retyped) (change : Retyped) (entries : List Declared) → count ≤ change.number
    → take count (undone changes entries) ≡ take count (undone (changes ++ change ∷ []) entries)
last-beyond count changes change entries beyond =
    take-undone count changes entries
    ∙ ap (undone changes) (sym (take-beyond count change.number change.kind entries beyond))
    ∙ sym (take-undone count changes (set_kind change.number change.kind entries))
    ∙ last-undone count changes change entries

-- ---- lists with one item more

pub drop-front : {A : Type 0} (n : ℕ) (xs : List A) (x : A) → n ≤ length xs → drop n (xs ++ x ∷ []) ≡ drop n xs ++ x ∷ []
drop-front zero xs x le = refl
drop-front (suc n) [] x le = absurd (omega (arith, le))
drop-front (suc n) (y ∷ xs) x le = drop-front n xs x (omega (arith, le))

pub take-front : {A : Type 0} (n : ℕ) (xs : List A) (x : A) → n ≤ length xs → take n (xs ++ x ∷ []) ≡ take n xs
take-front zero xs x le = refl
take-front (suc n) [] x le = absurd (omega (arith, le))
take-front (suc n) (y ∷ xs) x le = ap (λ ys. y ∷ ys) (take-front n xs x (omega (arith, le)))

pub drop-all : {A : Type 0} (n : ℕ) (xs : List A) → length xs ≤ n → drop n xs ≡ []
drop-all zero [] le = refl
drop-all (suc n) [] le = refl
drop-all zero (x ∷ xs) le = absurd (omega (arith, le))
drop-all (suc n) (x ∷ xs) le = drop-all n xs (omega (arith, le))

pub take-all : {A : Type 0} (n : ℕ) (xs : List A) → length xs ≤ n → take n xs ≡ xs
take-all zero [] le = refl
take-all (suc n) [] le = refl
take-all zero (x ∷ xs) le = absurd (omega (arith, le))
take-all (suc n) (x ∷ xs) le = ap (λ ys. x ∷ ys) (take-all n xs (omega (arith, le)))

pub both-parts : {A : Type 0} (n : ℕ) (xs : List A) → take n xs ++ drop n xs ≡ xs
both-parts zero xs = refl
both-parts (suc n) [] = refl
both-parts (suc n) (x ∷ xs) = ap (λ ys. x ∷ ys) (both-parts n xs)
