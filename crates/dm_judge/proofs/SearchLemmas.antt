-- What searches and tests of lists say of one another.
use Rattle.std.proofs.Common.{◌≡◌, Bool, true, false, List, [], ◌∷◌, ◌++◌, refl, ap, sym, ◌∙◌, cond}
use Rattle.std.specs.Prelude.{Some, None, find, filter, not, ◌||◌}
use Rattle.std.specs.List.{list_any, list_all}
use Rattle.std.proofs.lemmas.Bool.{and_parts, true≢false}

-- by an answer of a test
pub by_test : {P : Type 0} (b : Bool) → (b ≡ true → P) → (b ≡ false → P) → P
by_test true holds fails = holds refl
by_test false holds fails = fails refl

module _ {A : Type 0} where
  -- where none is found, each fails
  pub none-first : (test : A → Bool) (x : A) (xs : List A) → find test (x ∷ xs) ≡ None → test x ≡ false
  none-first test x xs h =
      by_test (test x) (λ e. absurd (cc (sym (ap (λ b. cond b (Some x) (find test xs)) e), h))) (λ e. e)

  -- where one passes, one is found
  pub found-one : (test : A → Bool) (xs : List A) → list_any test xs ≡ true → (x : A) × (find test xs ≡ Some x)
  found-one test [] h = absurd (true≢false (sym h))
  found-one test (x ∷ xs) h =
      by_test (test x) (λ e. (x, ap (λ b. cond b (Some x) (find test xs)) e))
      (λ e. go e (found-one test xs (sym (ap (λ b. b || list_any test xs) e) ∙ h)))
    where
      go : test x ≡ false → (y : A) × (find test xs ≡ Some y) → (y : A) × (find test (x ∷ xs) ≡ Some y)
      go e (y, p) = (y, ap (λ b. cond b (Some x) (find test xs)) e ∙ p)

  -- one that is found, and that all keep, keeps it
  pub found-keeps : (test keeps : A → Bool) (xs : List A) (x : A) → find test xs ≡ Some x → list_all keeps xs ≡ true → keeps x ≡ true
  found-keeps test keeps [] x h all = absurd (cc h)
  found-keeps test keeps (y ∷ ys) x h all =
      by_test (test y)
      (λ e. cc (sym (ap (λ b. cond b (Some y) (find test ys)) e), h, (and_parts (keeps y) (list_all keeps ys) all).0))
      (λ e. found-keeps test keeps ys x (sym (ap (λ b. cond b (Some y) (find test ys)) e) ∙ h) (and_parts (keeps y) (list_all keeps ys) all).1)

  -- one that is found keeps what each does but those that fail
  pub found-not-failing : (test keeps : A → Bool) (xs : List A) (x : A) → find test xs ≡ Some x
      → list_any test (filter (λ y. not (keeps y)) xs) ≡ false → keeps x ≡ true
  found-not-failing test keeps [] x h none = absurd (cc h)
  found-not-failing test keeps (y ∷ ys) x h none =
      by_test (keeps y)
      (λ kept. by_test (test y)
      (λ e. cc (sym (ap (λ b. cond b (Some y) (find test ys)) e), h, kept))
      (λ e. found-not-failing test keeps ys x (sym (ap (λ b. cond b (Some y) (find test ys)) e) ∙ h) (sym (rest kept) ∙ none)))
      (λ fails. by_test (test y)
      (λ e. absurd (true≢false (sym (ap (λ b. b || list_any test (filter (λ z. not (keeps z)) ys)) e) ∙ sym (with fails) ∙ none)))
      (λ e. found-not-failing test keeps ys x (sym (ap (λ b. cond b (Some y) (find test ys)) e) ∙ h)
      (sym (ap (λ b. b || list_any test (filter (λ z. not (keeps z)) ys)) e) ∙ sym (with fails) ∙ none)))
    where
      rest : keeps y ≡ true → list_any test (filter (λ z. not (keeps z)) (y ∷ ys)) ≡ list_any test (filter (λ z. not (keeps z)) ys)
      rest kept = ap (λ b. list_any test (cond (not b) (y ∷ filter (λ z. not (keeps z)) ys) (filter (λ z. not (keeps z)) ys))) kept

      with : keeps y ≡ false → list_any test (filter (λ z. not (keeps z)) (y ∷ ys)) ≡ (test y || list_any test (filter (λ z. not (keeps z)) ys))
      with fails = ap (λ b. list_any test (cond (not b) (y ∷ filter (λ z. not (keeps z)) ys) (filter (λ z. not (keeps z)) ys))) fails

  -- a search goes through a list and then through the next
  pub found-front : (test : A → Bool) (xs ys : List A) (x : A) → find test xs ≡ Some x → find test (xs ++ ys) ≡ Some x
  found-front test [] ys x h = absurd (cc h)
  found-front test (y ∷ xs) ys x h =
      by_test (test y)
      (λ e. ap (λ b. cond b (Some y) (find test (xs ++ ys))) e ∙ sym (ap (λ b. cond b (Some y) (find test xs)) e) ∙ h)
      (λ e. ap (λ b. cond b (Some y) (find test (xs ++ ys))) e ∙ found-front test xs ys x (sym (ap (λ b. cond b (Some y) (find test xs)) e) ∙ h))

  pub found-behind : (test : A → Bool) (xs ys : List A) → find test xs ≡ None → find test (xs ++ ys) ≡ find test ys
  found-behind test [] ys h = refl
  found-behind test (y ∷ xs) ys h =
      by_test (test y)
      (λ e. absurd (cc (sym (ap (λ b. cond b (Some y) (find test xs)) e), h)))
      (λ e. ap (λ b. cond b (Some y) (find test (xs ++ ys))) e ∙ found-behind test xs ys (sym (ap (λ b. cond b (Some y) (find test xs)) e) ∙ h))
