-- The first element of a list that passes a test, and lists of which each element has a property.
use Rattle.std.specs.Prelude.{◌≡◌, refl, Bool, true, false, List, [], ◌∷◌, ◌++◌, find, Some, None, if◌then◌else◌}
use Rattle.std.specs.List.{AllByRecursion}
use Rattle.std.proofs.Common.{ap, sym, ◌∙◌, subst}
use Rattle.std.proofs.lemmas.Bool.{false≢true}

module _ {A : Type 0} (P : A → Type 0) where
  pub all_append : (front back : List A) → AllByRecursion P front → AllByRecursion P back → AllByRecursion P (front ++ back)
  all_append [] back h k = k
  all_append (x ∷ front) back h k = (h.0, all_append front back h.1 k)

  pub all_of : ((x : A) → P x) → (items : List A) → AllByRecursion P items
  all_of f [] = tt
  all_of f (x ∷ items) = (f x, all_of f items)

pub all_weaker : {A : Type 0} (P Q : A → Type 0) → ((x : A) → P x → Q x) → (items : List A) → AllByRecursion P items → AllByRecursion Q items
all_weaker P Q f [] h = tt
all_weaker P Q f (x ∷ items) h = (f x h.0, all_weaker P Q f items h.1)

pub all_both : {A : Type 0} (P Q : A → Type 0) (items : List A) → AllByRecursion P items → AllByRecursion Q items → AllByRecursion (λ x. P x × Q x) items
all_both P Q [] h k = tt
all_both P Q (x ∷ items) h k = ((h.0, k.0), all_both P Q items h.1 k.1)

pub all_swapped : {A I : Type 0} (P : I → A → Type 0) (items : List A) → ((i : I) → AllByRecursion (P i) items) → AllByRecursion (λ x. (i : I) → P i x) items
all_swapped P [] h = tt
all_swapped P (x ∷ items) h = ((λ i. (h i).0), all_swapped P items (λ i. (h i).1))

none_is_some : {A : Type 0} (x : A) → None ≡ Some x → ⊥
none_is_some x e = cc

some_is_none : {A : Type 0} (x : A) → Some x ≡ None → ⊥
some_is_none x e = cc

some_is_some : {A : Type 0} (x y : A) → Some x ≡ Some y → x ≡ y
some_is_some x y e = cc

module _ {A : Type 0} (test : A → Bool) where
  pub none_passes : (xs : List A) → find test xs ≡ None → AllByRecursion (λ x. test x ≡ true → ⊥) xs
  none_passes [] e = tt
  none_passes (x ∷ xs) e = by_test (test x) refl e (none_passes xs)
    where
      by_test : (b : Bool) → test x ≡ b → (if b then Some x else find test xs) ≡ None → (find test xs ≡ None → AllByRecursion (λ y. test y ≡ true → ⊥) xs)
          → AllByRecursion (λ y. test y ≡ true → ⊥) (x ∷ xs)
      by_test true is f rest = absurd (some_is_none x f)
      by_test false is f rest = ((λ no. false≢true (sym is ∙ no)), rest f)

  pub found_has : (P : A → Type 0) (xs : List A) (x : A) → AllByRecursion P xs → find test xs ≡ Some x → P x × (test x ≡ true)
  found_has P [] x h e = absurd (none_is_some x e)
  found_has P (y ∷ xs) x h e = by_test (test y) refl e (found_has P xs x h.1)
    where
      by_test : (b : Bool) → test y ≡ b → (if b then Some y else find test xs) ≡ Some x → (find test xs ≡ Some x → P x × (test x ≡ true)) → P x × (test x ≡ true)
      by_test true is f rest = let same = some_is_some y x f in (subst P same h.0, ap test (sym same) ∙ is)
      by_test false is f rest = rest f

  pub found_in_front : (front back : List A) (x : A) → find test front ≡ Some x → find test (front ++ back) ≡ Some x
  found_in_front [] back x e = absurd (none_is_some x e)
  found_in_front (y ∷ front) back x e = by_test (test y) e (found_in_front front back x)
    where
      by_test : (b : Bool) → (if b then Some y else find test front) ≡ Some x → (find test front ≡ Some x → find test (front ++ back) ≡ Some x)
          → (if b then Some y else find test (front ++ back)) ≡ Some x
      by_test true f rest = f
      by_test false f rest = rest f

  pub found_behind : (front back : List A) → find test front ≡ None → find test (front ++ back) ≡ find test back
  found_behind [] back e = refl
  found_behind (y ∷ front) back e = by_test (test y) e (found_behind front back)
    where
      by_test : (b : Bool) → (if b then Some y else find test front) ≡ None → (find test front ≡ None → find test (front ++ back) ≡ find test back)
          → (if b then Some y else find test (front ++ back)) ≡ find test back
      by_test true f rest = absurd (some_is_none y f)
      by_test false f rest = rest f
