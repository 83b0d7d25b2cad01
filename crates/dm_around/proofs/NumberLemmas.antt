-- Which of the numbers of what passes in a list lie between two bounds.
use Rattle.std.proofs.Common.{◌≡◌, ℕ, zero, suc, ◌-◌, ◌<◌, ◌≤◌, Bool, true, false, cond, ◌&&◌, ◌||◌, nat_le, nat_lt, List, [], ◌∷◌, length, take, drop, get_or, slice_get, refl, sym, ap, ap₂, ◌∙◌, arith}
use Rattle.std.specs.List.{list_any}
use Rattle.std.specs.List.Sorted.{IsNonDecreasingBy}
use Rattle.std.proofs.lemmas.Bool.{ltb-true, ltb-false, leb-true, lt-ltb, le-leb, le-ltb, lt-leb}
use Rattle.dm_around.specs.Writes.{numbers_of, is_below, is_between}

-- ---- tests of numbers

same-test : (p q : Bool) → (p ≡ true → q ≡ true) → (q ≡ true → p ≡ true) → p ≡ q
same-test true q h k = sym (h refl)
same-test false true h k = k refl
same-test false false h k = refl

le-lower : (a b : ℕ) → nat_le (suc a) (suc b) ≡ nat_le a b
le-lower a b =
    same-test (nat_le (suc a) (suc b)) (nat_le a b)
    (λ h. let le = leb-true (suc a) (suc b) h in le-leb a b (omega (arith, le)))
    (λ h. let le = leb-true a b h in le-leb (suc a) (suc b) (omega (arith, le)))

lt-lower : (a b : ℕ) → nat_lt (suc a) (suc b) ≡ nat_lt a b
lt-lower a b =
    same-test (nat_lt (suc a) (suc b)) (nat_lt a b)
    (λ h. let lt = ltb-true (suc a) (suc b) h in lt-ltb a b (omega (arith, lt)))
    (λ h. let lt = ltb-true a b h in lt-ltb (suc a) (suc b) (omega (arith, lt)))

and-false : (b : Bool) → (b && false) ≡ false
and-false true = refl
and-false false = refl

never-between : (from n : ℕ) → is_between from 0 n ≡ false
never-between from n = ap (λ (b : Bool). nat_le from n && b) (le-ltb n 0 (omega arith)) ∙ and-false (nat_le from n)

first-between : (to : ℕ) → is_between 0 (suc to) 0 ≡ true
first-between to = ap₂ (λ (a b : Bool). a && b) (le-leb 0 0 (omega arith)) (lt-ltb 0 (suc to) (omega arith))

not-between : (from to : ℕ) → is_between (suc from) to 0 ≡ false
not-between from to = ap (λ (b : Bool). b && nat_lt 0 to) (lt-leb (suc from) 0 (omega arith))

lower-between : (from to n : ℕ) → is_between (suc from) (suc to) (suc n) ≡ is_between from to n
lower-between from to n = ap₂ (λ (a b : Bool). a && b) (le-lower from n) (lt-lower n to)

lower-below : (to n : ℕ) → is_between 0 (suc to) (suc n) ≡ is_between 0 to n
lower-below to n =
    ap₂ (λ (a b : Bool). a && b) (le-leb 0 (suc n) (omega arith) ∙ sym (le-leb 0 n (omega arith))) (lt-lower n to)

-- ---- in a list

never : (p : ℕ → Bool) → ((n : ℕ) → p n ≡ false) → (ns : List ℕ) → list_any p ns ≡ false
never p none [] = refl
never p none (n ∷ ns) = ap (λ (b : Bool). b || list_any p ns) (none n) ∙ never p none ns

module _ {A : Type 0} where
  drop-none : (n : ℕ) → drop {A = A} n [] ≡ []
  drop-none zero = refl
  drop-none (suc n) = refl

  take-none : (n : ℕ) → take {A = A} n [] ≡ []
  take-none zero = refl
  take-none (suc n) = refl

  module _ (test : A → Bool) where
    shifted-by : (p q : ℕ → Bool) (n : ℕ) (xs : List A) → p (suc n) ≡ q n → list_any p (numbers_of test (suc (suc n)) xs) ≡ list_any q (numbers_of test (suc n) xs) → (b : Bool)
        → list_any p (cond b (suc n ∷ numbers_of test (suc (suc n)) xs) (numbers_of test (suc (suc n)) xs)) ≡ list_any q (cond b (n ∷ numbers_of test (suc n) xs) (numbers_of test (suc n) xs))
    shifted-by p q n xs here rest true = ap₂ (λ (a b : Bool). a || b) here rest
    shifted-by p q n xs here rest false = rest

    shifted : (p q : ℕ → Bool) → ((n : ℕ) → p (suc n) ≡ q n) → (n : ℕ) (xs : List A) → list_any p (numbers_of test (suc n) xs) ≡ list_any q (numbers_of test n xs)
    shifted p q same n [] = refl
    shifted p q same n (x ∷ xs) = shifted-by p q n xs (same n) (shifted p q same (suc n) xs) (test x)

    -- the first item, and the others
    led : (p : ℕ → Bool) (x : A) (xs : List A) → list_any p (numbers_of test 0 (x ∷ xs)) ≡ ((test x && p 0) || list_any p (numbers_of test 1 xs))
    led p x xs = by (test x)
      where
        by : (b : Bool) → list_any p (cond b (0 ∷ numbers_of test 1 xs) (numbers_of test 1 xs)) ≡ ((b && p 0) || list_any p (numbers_of test 1 xs))
        by true = refl
        by false = refl

    pub between : (from to : ℕ) (xs : List A) → list_any (is_between from to) (numbers_of test 0 xs) ≡ list_any test (take (to - from) (drop from xs))
    between from zero xs =
        let none : 0 - from ≡ 0 = omega arith in
        never (is_between from 0) (never-between from) (numbers_of test 0 xs) ∙ sym (ap (λ (n : ℕ). list_any test (take n (drop from xs))) none)
    between from (suc to) [] = sym (ap (λ (them : List A). list_any test (take (suc to - from) them)) (drop-none from) ∙ ap (list_any test) (take-none (suc to - from)))
    between zero (suc to) (x ∷ xs) =
        let whole : suc to - 0 ≡ suc to = omega arith in
        let rest : to ≡ to - 0 = omega arith in
        led (is_between 0 (suc to)) x xs
        ∙ (ap₂ (λ (a b : Bool). a || b)
        (ap (λ (b : Bool). test x && b) (first-between to) ∙ and-true (test x))
        (shifted (is_between 0 (suc to)) (is_between 0 to) (lower-below to) 0 xs ∙ (between zero to xs ∙ ap (λ (n : ℕ). list_any test (take n xs)) (sym rest)))
        ∙ sym (ap (λ (n : ℕ). list_any test (take n (x ∷ xs))) whole))
      where
        and-true : (b : Bool) → (b && true) ≡ b
        and-true true = refl
        and-true false = refl
    between (suc from) (suc to) (x ∷ xs) =
        let lower : to - from ≡ suc to - suc from = omega arith in
        led (is_between (suc from) (suc to)) x xs
        ∙ (ap₂ (λ (a b : Bool). a || b)
        (ap (λ (b : Bool). test x && b) (not-between from (suc to)) ∙ and-false (test x))
        (shifted (is_between (suc from) (suc to)) (is_between from to) (lower-between from to) 0 xs ∙ between from to xs)
        ∙ ap (λ (n : ℕ). list_any test (take n (drop from xs))) lower)

-- ---- they ascend

-- with one more number in front, or without
abbrev with_first : Bool → ℕ → List ℕ → List ℕ
with_first b n ns = cond b (n ∷ ns) ns

least-by : (n : ℕ) (ns : List ℕ) (d : ℕ) → ((i : ℕ) → i < length ns → suc n ≤ get_or ns i d) → (b : Bool) (i : ℕ) → i < length (with_first b n ns) → n ≤ get_or (with_first b n ns) i d
least-by n ns d more true zero less = omega arith
least-by n ns d more true (suc i) less =
    let low = more i (omega (arith, less)) in omega (arith, low)
least-by n ns d more false i less =
    let low = more i less in omega (arith, low)

rising-by : (n : ℕ) (ns : List ℕ) (d : ℕ) → ((i : ℕ) → i < length ns → suc n ≤ get_or ns i d) → ((i j : ℕ) → i ≤ j → j < length ns → get_or ns i d ≤ get_or ns j d)
    → (b : Bool) (i j : ℕ) → i ≤ j → j < length (with_first b n ns) → get_or (with_first b n ns) i d ≤ get_or (with_first b n ns) j d
rising-by n ns d more rest true zero zero le less = omega arith
rising-by n ns d more rest true zero (suc j) le less =
    let low = more j (omega (arith, less)) in omega (arith, low)
rising-by n ns d more rest true (suc i) zero le less = absurd (omega (arith, le))
rising-by n ns d more rest true (suc i) (suc j) le less = rest i j (omega (arith, le)) (omega (arith, less))
rising-by n ns d more rest false i j le less = rest i j le less

module _ {A : Type 0} (test : A → Bool) where
  at-least : (n : ℕ) (xs : List A) (d i : ℕ) → i < length (numbers_of test n xs) → n ≤ get_or (numbers_of test n xs) i d
  at-least n [] d i less = absurd (omega (arith, less))
  at-least n (x ∷ xs) d i less = least-by n (numbers_of test (suc n) xs) d (at-least (suc n) xs d) (test x) i less

  rising : (n : ℕ) (xs : List A) (d i j : ℕ) → i ≤ j → j < length (numbers_of test n xs) → get_or (numbers_of test n xs) i d ≤ get_or (numbers_of test n xs) j d
  rising n [] d i j le less = absurd (omega (arith, less))
  rising n (x ∷ xs) d i j le less = rising-by n (numbers_of test (suc n) xs) d (at-least (suc n) xs d) (rising (suc n) xs d) (test x) i j le less

  pub ascending : (xs : List A) → IsNonDecreasingBy (λ (n : ℕ). n) (numbers_of test 0 xs)
  ascending xs = λ i j d le less. rising 0 xs d i j le less

-- ---- the first one that isn't below the lower bound tells

module _ (from to : ℕ) where
  all-behind : (ns : List ℕ) → ((i d : ℕ) → i < length ns → to ≤ get_or ns i d) → list_any (is_between from to) ns ≡ false
  all-behind [] h = refl
  all-behind (n ∷ ns) h =
      ap (λ (b : Bool). (nat_le from n && b) || list_any (is_between from to) ns) (le-ltb n to (h 0 0 (omega arith)))
      ∙ (ap (λ (b : Bool). b || list_any (is_between from to) ns) (and-false (nat_le from n)) ∙ all-behind ns (λ i d less. h (suc i) d (omega (arith, less))))

  pub told-by-first : (k : ℕ) (ns : List ℕ) → IsNonDecreasingBy (λ (n : ℕ). n) ns → ((i d : ℕ) → i < k → nat_lt (get_or ns i d) from ≡ true)
      → ((i d : ℕ) → k ≤ i → i < length ns → nat_lt (get_or ns i d) from ≡ false) → k ≤ length ns → is_below to (slice_get ns k) ≡ list_any (is_between from to) ns
  told-by-first zero [] rise low high within = refl
  told-by-first (suc k) [] rise low high within = refl
  told-by-first zero (n ∷ ns) rise low high within = by (nat_lt n to) refl
    where
      up : from ≤ n
      up = let not_below = high 0 0 (omega arith) (omega arith) in ltb-false n from not_below

      by : (b : Bool) → nat_lt n to ≡ b → nat_lt n to ≡ list_any (is_between from to) (n ∷ ns)
      by true is = is ∙ sym (ap₂ (λ (a b : Bool). (a && b) || list_any (is_between from to) ns) (le-leb from n up) is)
      by false is =
          let past = ltb-false n to is in
          is ∙ sym (all-behind (n ∷ ns) (λ i d less. let more = rise 0 i d (omega arith) less in omega (arith, past, more)))
  told-by-first (suc k) (n ∷ ns) rise low high within =
      let below = ltb-true n from (low 0 0 (omega arith)) in
      told-by-first k ns (λ i j d le less. rise (suc i) (suc j) d (omega (arith, le)) (omega (arith, less))) (λ i d less. low (suc i) d (omega (arith, less)))
      (λ i d le less. high (suc i) d (omega (arith, le)) (omega (arith, less))) (omega (arith, within))
      ∙ sym (ap (λ (b : Bool). (b && nat_lt n to) || list_any (is_between from to) ns) (lt-leb from n below))
