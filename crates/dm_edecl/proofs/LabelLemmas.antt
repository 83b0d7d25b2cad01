-- The labels of a switch differ.
use Rattle.std.specs.Prelude.{◌≡◌, ℤ, Bool, true, false, ◌||◌, int_le, List, [], ◌∷◌, ◌++◌, Option, Some, None, refl}
use Rattle.std.specs.List.{IsDistinct, AllByRecursion}
use Rattle.std.proofs.Common.{sym, ap, subst, arith}
use Rattle.dm_typing.proofs.TypeLemmas.{both-hold, both-true}
use Rattle.dm_tree.specs.Typing.{is_same_label}
use Rattle.dm_edecl.specs.Statements.{is_label_among}

integers-same : (a b : ℤ) → int_le a b ≡ true → int_le b a ≡ true → a ≡ b
integers-same a b h g = grind arith

integer-itself : (a : ℤ) → int_le a a ≡ true
integer-itself a = grind arith

labels-same : (one other : Option ℤ) → is_same_label one other ≡ true → one ≡ other
labels-same None None h = refl
labels-same (Some a) (Some b) h = let parts = both-hold (int_le a b) (int_le b a) h in ap Some (integers-same a b parts.0 parts.1)
labels-same (Some a) None h = absurd (cc)
labels-same None (Some b) h = absurd (cc)

same-itself : (one : Option ℤ) → is_same_label one one ≡ true
same-itself None = refl
same-itself (Some a) = both-true (int_le a a) (int_le a a) (integer-itself a) (integer-itself a)

-- these labels weren't among the old ones, differ, and are among the new ones; and the old ones still are
pub Adds : List (Option ℤ) → List (Option ℤ) → List (Option ℤ) → Type 0
Adds old new found =
    AllByRecursion (λ one. is_label_among one old ≡ false) found × AllByRecursion (λ one. is_label_among one new ≡ true) found
    × IsDistinct is_same_label found × ((one : Option ℤ) → is_label_among one old ≡ true → is_label_among one new ≡ true)

not-before : (a b : Bool) → (a ≡ true → b ≡ true) → b ≡ false → a ≡ false
not-before false b f h = refl
not-before true b f h = let t = f refl in absurd (cc)

none-before : (old new found : List (Option ℤ)) → ((one : Option ℤ) → is_label_among one old ≡ true → is_label_among one new ≡ true)
    → AllByRecursion (λ one. is_label_among one new ≡ false) found → AllByRecursion (λ one. is_label_among one old ≡ false) found
none-before old new [] grows none = tt
none-before old new (one ∷ others) grows none =
    (not-before (is_label_among one old) (is_label_among one new) (grows one) none.0, none-before old new others grows none.1)

all-after : (old new found : List (Option ℤ)) → ((one : Option ℤ) → is_label_among one old ≡ true → is_label_among one new ≡ true)
    → AllByRecursion (λ one. is_label_among one old ≡ true) found → AllByRecursion (λ one. is_label_among one new ≡ true) found
all-after old new [] grows all = tt
all-after old new (one ∷ others) grows all = (grows one all.0, all-after old new others grows all.1)

all-append : (P : Option ℤ → Type 0) (found others : List (Option ℤ)) → AllByRecursion P found → AllByRecursion P others → AllByRecursion P (found ++ others)
all-append P [] others a b = b
all-append P (one ∷ found) others a b = (a.0, all-append P found others a.1 b)

differ : (labels : List (Option ℤ)) (one other : Option ℤ) → is_label_among one labels ≡ true → is_label_among other labels ≡ false → is_same_label one other ≡ false
differ labels one other a b = by-test (is_same_label one other) refl
  where
    by-test : (test : Bool) → is_same_label one other ≡ test → is_same_label one other ≡ false
    by-test false e = e
    by-test true e =
        let t : is_label_among other labels ≡ true = subst (λ it. is_label_among it labels ≡ true) (labels-same one other e) a in absurd (cc)

all-differ : (labels : List (Option ℤ)) (one : Option ℤ) (found : List (Option ℤ)) → is_label_among one labels ≡ true → AllByRecursion (λ it. is_label_among it labels ≡ false) found
    → AllByRecursion (λ it. is_same_label one it ≡ false) found
all-differ labels one [] a none = tt
all-differ labels one (other ∷ others) a none = (differ labels one other a none.0, all-differ labels one others a none.1)

distinct-append : (labels found others : List (Option ℤ)) → AllByRecursion (λ one. is_label_among one labels ≡ true) found
    → AllByRecursion (λ one. is_label_among one labels ≡ false) others → IsDistinct is_same_label found → IsDistinct is_same_label others
    → IsDistinct is_same_label (found ++ others)
unfolding IsDistinct
distinct-append labels [] others all none a b = b
distinct-append labels (one ∷ found) others all none a b =
    (all-append (λ it. is_same_label one it ≡ false) found others a.0 (all-differ labels one others all.0 none), distinct-append labels found others all.1 none a.1 b)

pub adds-nothing : (labels : List (Option ℤ)) → Adds labels labels []
unfolding Adds IsDistinct
adds-nothing labels = (tt, tt, tt, (λ one h. h))

pub adds-both : (old middle new found others : List (Option ℤ)) → Adds old middle found → Adds middle new others → Adds old new (found ++ others)
unfolding Adds
adds-both old middle new found others a b = (
  all-append (λ one. is_label_among one old ≡ false) found others a.0 (none-before old middle others a.3 b.0),
  all-append (λ one. is_label_among one new ≡ true) found others (all-after middle new found b.3 a.1) b.1,
  distinct-append middle found others a.1 b.0 a.2 b.2,
  (λ one h. b.3 one (a.3 one h)),
)

among-first : (one : Option ℤ) (labels : List (Option ℤ)) → (is_same_label one one || is_label_among one labels) ≡ true
among-first one labels = subst (λ test. (test || is_label_among one labels) ≡ true) (sym (same-itself one)) refl

among-later : (test rest : Bool) → rest ≡ true → (test || rest) ≡ true
among-later true rest h = refl
among-later false rest h = h

-- one label that isn't among the old ones
pub adds-one : (one : Option ℤ) (labels : List (Option ℤ)) → is_label_among one labels ≡ false → Adds labels (one ∷ labels) (one ∷ [])
unfolding Adds IsDistinct
adds-one one labels h = ((h, tt), (among-first one labels, tt), (tt, tt), (λ other a. among-later (is_same_label other one) (is_label_among other labels) a))

pub adds-distinct : (old new found : List (Option ℤ)) → Adds old new found → IsDistinct is_same_label found
unfolding Adds
adds-distinct old new found a = a.2
