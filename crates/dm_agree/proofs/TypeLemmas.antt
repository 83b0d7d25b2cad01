-- The test of types decides whether they are equal.
use Rattle.std.proofs.Common.{◌≡◌, ◌↔◌, ℕ, suc, Bool, true, false, ◌&&◌, ◌==◌, List, [], ◌∷◌, length, map, Option, Some, None, refl, ap, ◌∙◌, subst}
use Rattle.std.proofs.lemmas.Bool.{and_parts, and_from, eqb-true, eq-eqb, false≢true}
use Rattle.dm_int.specs.declared.Kind.{Kind}
use Rattle.dm_int.specs.declared.Kind.TheVariants.{Bool as BoolKind, Char, SChar, UChar, Short, UShort, Int, UInt, Long, ULong, LLong, ULLong}
use Rattle.dm_int.specs.Kinds.{number_of}
use Rattle.dm_type.specs.CTypes.{CType, CTypes, void, integer, pointer, array, struct, function, const, no_types, more_types, all_of}
use Rattle.dm_agree.specs.SameTypes.{same_length, same_type, same_types, same_listed}

-- ---- lists

pub listed-same : (types others : List CType) → same_types (all_of types) (all_of others) ≡ same_listed types others
listed-same [] [] = refl
listed-same [] (other ∷ others) = refl
listed-same (type ∷ types) [] = refl
listed-same (type ∷ types) (other ∷ others) = ap (λ b. same_type type other && b) (listed-same types others)

pub and-never : (b : Bool) → (b && false) ≡ false
and-never true = refl
and-never false = refl

-- lists of different lengths aren't the same
pub listed-lengths : {A B : Type 0} (f : A → CType) (g : B → CType) (these : List A) (those : List B) → (length these ≡ length those → ⊥)
    → same_listed (map f these) (map g those) ≡ false
listed-lengths f g [] [] differ = absurd (differ refl)
listed-lengths f g [] (b ∷ those) differ = refl
listed-lengths f g (a ∷ these) [] differ = refl
listed-lengths f g (a ∷ these) (b ∷ those) differ =
    ap (λ r. same_type (f a) (g b) && r) (listed-lengths f g these those (λ e. differ (ap suc e))) ∙ and-never (same_type (f a) (g b))

-- ---- equality

kind-same : (a b : Kind) → (number_of a == number_of b) ≡ true → a ≡ b
kind-same BoolKind BoolKind e = refl
kind-same Char Char e = refl
kind-same SChar SChar e = refl
kind-same UChar UChar e = refl
kind-same Short Short e = refl
kind-same UShort UShort e = refl
kind-same Int Int e = refl
kind-same UInt UInt e = refl
kind-same Long Long e = refl
kind-same ULong ULong e = refl
kind-same LLong LLong e = refl
kind-same ULLong ULLong e = refl
kind-same a b e = absurd (false≢true e)

length-same : (m n : Option ℕ) → same_length m n ≡ true → m ≡ n
length-same None None e = refl
length-same (Some m) (Some n) e = ap Some (eqb-true m n e)
length-same None (Some n) e = absurd (false≢true e)
length-same (Some m) None e = absurd (false≢true e)

length-itself : (m : Option ℕ) → same_length m m ≡ true
length-itself None = refl
length-itself (Some m) = eq-eqb m m refl

mutual
  type-same : (a b : CType) → same_type a b ≡ true → a ≡ b
  type-same void void e = refl
  type-same (integer kind) (integer other) e = ap integer (kind-same kind other e)
  type-same (pointer a) (pointer b) e = ap pointer (type-same a b e)
  type-same (array a m) (array b n) e =
      let both = and_parts (same_length m n) (same_type a b) e in
      ap (λ x. array x m) (type-same a b both.1) ∙ ap (array b) (length-same m n both.0)
  type-same (struct m) (struct n) e = ap struct (eqb-true m n e)
  type-same (function a types) (function b others) e =
      let both = and_parts (same_type a b) (same_types types others) e in
      ap (λ x. function x types) (type-same a b both.0) ∙ ap (function b) (types-same types others both.1)
  type-same (const a) (const b) e = ap const (type-same a b e)
  type-same a b e = absurd (false≢true e)

  types-same : (types others : CTypes) → same_types types others ≡ true → types ≡ others
  types-same no_types no_types e = refl
  types-same (more_types a types) (more_types b others) e =
      let both = and_parts (same_type a b) (same_types types others) e in
      ap (λ x. more_types x types) (type-same a b both.0) ∙ ap (more_types b) (types-same types others both.1)
  types-same types others e = absurd (false≢true e)

mutual
  type-itself : (a : CType) → same_type a a ≡ true
  type-itself void = refl
  type-itself (integer kind) = eq-eqb (number_of kind) (number_of kind) refl
  type-itself (pointer a) = type-itself a
  type-itself (array a m) = and_from (same_length m m) (same_type a a) (length-itself m) (type-itself a)
  type-itself (struct m) = eq-eqb m m refl
  type-itself (function a types) = and_from (same_type a a) (same_types types types) (type-itself a) (types-itself types)
  type-itself (const a) = type-itself a

  types-itself : (types : CTypes) → same_types types types ≡ true
  types-itself no_types = refl
  types-itself (more_types a types) = and_from (same_type a a) (same_types types types) (type-itself a) (types-itself types)

pub same_type-decides : (a b : CType) → (same_type a b ≡ true) ↔ (a ≡ b)
same_type-decides a b = (type-same a b, λ e. subst (λ x. same_type a x ≡ true) e (type-itself a))
