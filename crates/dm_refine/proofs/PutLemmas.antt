-- Lists of external declarations, one of which is put in.
--     parts_of_list      an element of a list, with what stands before it and behind it
--     zipped_typed      a relation of two lists, for elements that have a property
--     all_passing, all_there      lists of which each element passes a test, or has a property
use Rattle.std.specs.Prelude.{◌≡◌, ℕ, zero, suc, ◌+◌, Bool, true, IsTrue, All, List, [], ◌∷◌, ◌++◌, take, drop, Some, slice_get}
use Rattle.std.specs.List.{list_all}
use Rattle.std.proofs.Common.{ap, sym, ◌∙◌, subst, arith}
use Rattle.std.proofs.lemmas.List.Elements.{All-head, All-tail, All-nil, All-cons, All-append, All-take, All-drop}
use Rattle.dm_meaning.proofs.OptionLemmas.{none_is_some, some_is_some, and_left, and_right}
use Rattle.dm_meaning.specs.Replaced.{Zipped}
use Rattle.dm_align.specs.Units.{without}

pub parts_of_list : {A : Type 0} (n : ℕ) (items : List A) (one : A) → slice_get items n ≡ Some one → items ≡ take n items ++ one ∷ drop (n + 1) items
parts_of_list n [] one e = absurd (none_is_some one e)
parts_of_list zero (x ∷ xs) one e = ap (λ y. y ∷ xs) (some_is_some x one e)
parts_of_list (suc n) (x ∷ xs) one e =
    let same : suc n + 1 ≡ suc (n + 1) = omega arith in
    ap (λ ys. x ∷ ys) (parts_of_list n xs one e) ∙ sym (ap (λ m. x ∷ take n xs ++ one ∷ drop m (x ∷ xs)) same)

pub all_without : {A : Type 0} (P : A → Type 0) (n : ℕ) (items : List A) → All P items → All P (without n 1 items)
all_without P n items h = All-append P (take n items) (drop (n + 1) items) (All-take P n items h) (All-drop P (n + 1) items h)

pub zipped_typed : {A B : Type 0} (P : A → Type 0) (Q : B → Type 0) (R S : A → B → Type 0) → ((x : A) (y : B) → P x → Q y → R x y → S x y)
    → (xs : List A) (ys : List B) → All P xs → All Q ys → Zipped R xs ys → Zipped S xs ys
zipped_typed P Q R S f [] [] p q h = tt
zipped_typed P Q R S f [] (y ∷ ys) p q h = absurd h
zipped_typed P Q R S f (x ∷ xs) [] p q h = absurd h
zipped_typed P Q R S f (x ∷ xs) (y ∷ ys) p q h =
    (f x y (All-head P x xs p) (All-head Q y ys q) h.0, zipped_typed P Q R S f xs ys (All-tail P x xs p) (All-tail Q y ys q) h.1)

-- each element of a list passes a test
pub all_passing : {A : Type 0} (test : A → Bool) (items : List A) → list_all test items ≡ true → All (λ x. IsTrue (test x)) items
all_passing test [] h = All-nil (λ x. IsTrue (test x))
all_passing test (x ∷ xs) h = All-cons (λ y. IsTrue (test y)) x xs (and_left (test x) (list_all test xs) h) (all_passing test xs (and_right (test x) (list_all test xs) h))

-- an element of a list each of which has a property
pub all_there : {A : Type 0} (P : A → Type 0) (items : List A) → All P items → (n : ℕ) (x : A) → slice_get items n ≡ Some x → P x
all_there P [] h n x e = absurd (none_is_some x e)
all_there P (first ∷ rest) h zero x e = subst P (some_is_some first x e) (All-head P first rest h)
all_there P (first ∷ rest) h (suc n) x e = all_there P rest (All-tail P first rest h) n x e
