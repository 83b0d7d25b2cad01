-- The tokens of a replacement list that name parameters: no two name the same parameter with the same number.
--     Each items P, Pairs items R      all of some items have a property, and any two
--     named_apart      so it is
use Rattle.std.specs.Prelude.{◌≡◌, refl, ℕ, ◌+◌, ◌≤◌, List, [], ◌∷◌, ◌++◌, Option, Some, None, if◌then◌else◌}
use Rattle.std.specs.List.{AllByRecursion}
use Rattle.std.proofs.Common.{ap, sym, ◌∙◌, arith}
use Rattle.std.proofs.lemmas.List.Sums.{fold_push}
use Rattle.dm_token.specs.declared.token.PpToken.{PpToken}
use Rattle.dm_token.specs.declared.expansion.Definition.{Definition}
use Rattle.dm_macro.specs.Bodies.{parameters_of, parameter_of, places_of, is_at}
use Rattle.dm_runs.specs.Names.{named_at, named_behind, named_in}

abbrev pub Each : {A : Type 0} → List A → (A → Type 0) → Type 0
Each items P = AllByRecursion P items

abbrev pub Pairs : {A : Type 0} → List A → (A → A → Type 0) → Type 0
Pairs [] R = Unit {0}
Pairs (one ∷ others) R = AllByRecursion (R one) others × Pairs others R

each_weaker : {A : Type 0} (P Q : A → Type 0) → ((x : A) → P x → Q x) → (items : List A) → AllByRecursion P items → AllByRecursion Q items
each_weaker P Q f [] h = tt
each_weaker P Q f (x ∷ items) h = (f x h.0, each_weaker P Q f items h.1)

places_push : (names : List (List ℕ)) (n : ℕ) (before : List PpToken) (token : PpToken)
    → places_of names n (before ++ token ∷ []) ≡ places_of names n before + (if is_at n (parameter_of names token) then 1 else 0)
unfolding places_of
places_push names n before token = fold_push (λ count (one : PpToken). count + (if is_at n (parameter_of names one) then 1 else 0)) 0 before token

same_at : (n m : ℕ) → m ≡ n → ◌≡◌ {A = ℕ} (if is_at n (Some m) then 1 else 0) 1
unfolding is_at
same_at n m e = grind (arith, e)

module _ (names : List (List ℕ)) where
  more : (before : List PpToken) (token : PpToken) (n : ℕ) → places_of names n before ≤ places_of names n (before ++ token ∷ [])
  more before token n = let e = places_push names n before token in omega (arith, e)

  own_place : (before : List PpToken) (token : PpToken) (n : ℕ) → parameter_of names token ≡ Some n → places_of names n (before ++ token ∷ []) ≡ places_of names n before + 1
  own_place before token n is =
      places_push names n before token ∙ ap (λ (o : Option ℕ). places_of names n before + (if is_at n o then 1 else 0)) is ∙ ap (λ k. places_of names n before + k) (same_at n n refl)

  -- behind some tokens the parameters have further numbers
  behind : (before tokens : List PpToken) → Each (named_behind names before tokens) (λ one. places_of names one.parameter before ≤ one.occurrence)
      × Pairs (named_behind names before tokens) (λ one other. one.parameter ≡ other.parameter → one.occurrence ≡ other.occurrence → ⊥)
  behind before [] = (tt, tt)
  behind before (token ∷ tokens) = by_name (parameter_of names token) refl (behind (before ++ token ∷ []) tokens)
    where
      by_name : (o : Option ℕ) → parameter_of names token ≡ o
          → Each (named_behind names (before ++ token ∷ []) tokens) (λ one. places_of names one.parameter (before ++ token ∷ []) ≤ one.occurrence)
          × Pairs (named_behind names (before ++ token ∷ []) tokens) (λ one other. one.parameter ≡ other.parameter → one.occurrence ≡ other.occurrence → ⊥)
          → Each (named_at names before o ++ named_behind names (before ++ token ∷ []) tokens) (λ one. places_of names one.parameter before ≤ one.occurrence)
          × Pairs (named_at names before o ++ named_behind names (before ++ token ∷ []) tokens) (λ one other. one.parameter ≡ other.parameter → one.occurrence ≡ other.occurrence → ⊥)
      by_name None is rest =
          (each_weaker _ _ (λ one k. let e = more before token one.parameter in omega (arith, k, e)) (named_behind names (before ++ token ∷ []) tokens) rest.0, rest.1)
      by_name (Some n) is rest = (
        (omega arith, each_weaker _ _ (λ one k. let e = more before token one.parameter in omega (arith, k, e)) (named_behind names (before ++ token ∷ []) tokens) rest.0),
        (
          each_weaker _ _ (λ other further same number.
              let count = own_place before token n is in
              let at : places_of names other.parameter (before ++ token ∷ []) ≡ places_of names n (before ++ token ∷ []) = ap (λ m. places_of names m (before ++ token ∷ [])) (sym same) in
              omega (arith, further, count, at, number)) (named_behind names (before ++ token ∷ []) tokens) rest.0,
          rest.1,
        ),
      )

pub named_apart : (definition : Definition) → Pairs (named_in definition) (λ one other. one.parameter ≡ other.parameter → one.occurrence ≡ other.occurrence → ⊥)
named_apart definition = (behind (parameters_of definition) [] definition.body).1
