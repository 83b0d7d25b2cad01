-- `==` on shapes is equality.
use Rattle.std.proofs.Common.{◌≡◌, ℕ, Bool as Truth, true, List, Option, Some, None, refl, ap}
use Rattle.std.proofs.lemmas.Bool.{and_parts, and_from, eqb-true, eq-eqb, false≢true}
use Rattle.std.specs.Bool.{◌==◌}
use Rattle.std.specs.Cmp.Lexicographic.{pointwise, pointwise_decides}
use Rattle.std.specs.Option.{option_eq}
use Rattle.dm_int.specs.declared.Kind.{Kind}
use Rattle.dm_int.specs.declared.Kind.TheVariants.{Bool, Char, SChar, UChar, Short, UShort, Int, UInt, Long, ULong, LLong, ULLong}
use Rattle.dm_int.specs.contracts.KindPartialEq.TheImpl as kind_eq
use Rattle.dm_type.specs.declared.shape.Shape.{Shape}
use Rattle.dm_type.specs.declared.shape.Shape.TheVariants.{Void, Integer, Pointer, Array, Struct, Function, Const}
use Rattle.dm_type.specs.contracts.shape.ShapePartialEq.TheImpl as shape_eq

abbrev pub equal : Shape → Shape → Truth
equal = (shape_eq.ghosts).eq

kind-same : (a b : Kind) → (kind_eq.ghosts).eq a b ≡ true → a ≡ b
kind-same Bool Bool e = refl
kind-same Char Char e = refl
kind-same SChar SChar e = refl
kind-same UChar UChar e = refl
kind-same Short Short e = refl
kind-same UShort UShort e = refl
kind-same Int Int e = refl
kind-same UInt UInt e = refl
kind-same Long Long e = refl
kind-same ULong ULong e = refl
kind-same LLong LLong e = refl
kind-same ULLong ULLong e = refl
kind-same a b e = absurd (false≢true e)

kind-itself : (a : Kind) → (kind_eq.ghosts).eq a a ≡ true
kind-itself Bool = refl
kind-itself a = refl

length-same : (m n : Option ℕ) → option_eq (λ a b. a == b) m n ≡ true → m ≡ n
length-same None None e = refl
length-same None (Some n) e = absurd (false≢true e)
length-same (Some m) None e = absurd (false≢true e)
length-same (Some m) (Some n) e = ap Some (eqb-true m n e)

length-itself : (m : Option ℕ) → option_eq (λ a b. a == b) m m ≡ true
length-itself None = refl
length-itself (Some m) = eq-eqb m m refl

ids-same : (these those : List ℕ) → pointwise (λ a b. a == b) these those ≡ true → these ≡ those
ids-same these those = (pointwise_decides (λ a b. (eqb-true a b, eq-eqb a b)) these those).0

ids-itself : (these : List ℕ) → pointwise (λ a b. a == b) these these ≡ true
ids-itself these = (pointwise_decides (λ a b. (eqb-true a b, eq-eqb a b)) these these).1 refl

-- what is equal is the same
pub same : (a b : Shape) → equal a b ≡ true → a ≡ b
same Void Void e = refl
same (Integer kind) (Integer other) e = ap Integer (kind-same kind other e)
same (Pointer a) (Pointer b) e = ap Pointer (eqb-true a b e)
same (Array a m) (Array b n) e =
    let both = and_parts (a == b) (option_eq (λ x y. x == y) m n) e in
    let elements : a ≡ b = eqb-true a b both.0 in
    let lengths : m ≡ n = length-same m n both.1 in
    cc
same (Struct m) (Struct n) e = ap Struct (eqb-true m n e)
same (Function a these) (Function b those) e =
    let both = and_parts (a == b) (pointwise (λ x y. x == y) these those) e in
    let results : a ≡ b = eqb-true a b both.0 in
    let parameters : these ≡ those = ids-same these those both.1 in
    cc
same (Const a) (Const b) e = ap Const (eqb-true a b e)
same a b e = absurd (false≢true e)

-- and is equal to itself
pub itself : (a : Shape) → equal a a ≡ true
itself Void = refl
itself (Integer kind) = kind-itself kind
itself (Pointer a) = eq-eqb a a refl
itself (Array a length) = and_from (a == a) (option_eq (λ x y. x == y) length length) (eq-eqb a a refl) (length-itself length)
itself (Struct number) = eq-eqb number number refl
itself (Function a parameters) = and_from (a == a) (pointwise (λ x y. x == y) parameters parameters) (eq-eqb a a refl) (ids-itself parameters)
itself (Const a) = eq-eqb a a refl
