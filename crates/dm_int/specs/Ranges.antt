-- Laws of the kinds' ranges and of conversion, for whoever reasons on values
use Rattle.std.specs.Prelude.{ℕ, zero, suc, ◌^◌, ◌<◌, Bool as Truth, true, false, if◌then◌else◌, int_lt, ℤ, pos, negsuc, ◌+ℤ◌, ◌-ℤ◌, ◌*ℤ◌, ◌≡◌, refl, slice_get, Some}
use Rattle.std.proofs.Common.{arith, sym, ◌∙◌}
use Rattle.std.proofs.lemmas.Int.{ints}
use lib.IntN.{suc_ℤ, suc_ℤ-*ℤ}
use Rattle.std.specs.Int.{int_div_euclid}
use Rattle.dm_int.specs.declared.Kind.{Kind}
use Rattle.dm_int.specs.declared.Kind.TheVariants.{Bool, Char, SChar, UChar, Short, UShort, Int, UInt, Long, ULong, LLong, ULLong}
use Rattle.dm_int.specs.Kinds.{kinds, number_of, width, greatest, InRange, IsValue, IsConverted, bits_of, value_of, to_bool, convert, promote, common}

-- a kind stands at its number
pub kinds-number_of : (k : Kind) → slice_get kinds (number_of k) ≡ Some k
kinds-number_of Bool = refl
kinds-number_of Char = refl
kinds-number_of SChar = refl
kinds-number_of UChar = refl
kinds-number_of Short = refl
kinds-number_of UShort = refl
kinds-number_of Int = refl
kinds-number_of UInt = refl
kinds-number_of Long = refl
kinds-number_of ULong = refl
kinds-number_of LLong = refl
kinds-number_of ULLong = refl

-- 0 is a value of each kind
pub zero-in_range : (k : Kind) → InRange k (pos 0)
zero-in_range k = grind (arith, ints)

-- a value of a kind is a value of some kind
pub value-in_range : (k : Kind) (z : ℤ) → InRange k z → IsValue z
value-in_range k z h = grind (arith, ints)

-- converting a value of the kind gives it back
pub convert-in_range : (k : Kind) (z : ℤ) → InRange k z → convert k z ≡ z
convert-in_range k z h = grind (arith, ints)

-- what is converted is a value of the kind
pub in_range-convert : (k : Kind) (z : ℤ) → InRange k (convert k z)
in_range-convert k z = grind (arith, ints)

-- what the integer promotions give stays under them
pub promote-promote : (k : Kind) → promote (promote k) ≡ promote k
promote-promote k = grind arith

-- a common kind is a promoted one
pub promote-common : (k j : Kind) → promote (common k j) ≡ common k j
promote-common k j = grind arith

-- what n bits make is a value of the kind
pub in_range-value_of : (k : Kind) (n : ℕ) → n < 2 ^ width k → InRange k (value_of k n)
in_range-value_of k n h = grind (arith, ints)

-- z is its bits and a multiple of 2 to the width
bits_of_is : (k : Kind) (z : ℤ) → z ≡ pos (bits_of k z) +ℤ int_div_euclid z (pos (2 ^ width k)) *ℤ pos (2 ^ width k)
bits_of_is k z = grind (arith, ints)

-- the multiple of 2 to the width by which z is above what it is converted to
abbrev turns : Kind → ℤ → ℤ
turns k z = if int_lt (greatest k) (pos (bits_of k z)) then suc_ℤ (int_div_euclid z (pos (2 ^ width k))) else int_div_euclid z (pos (2 ^ width k))

-- to take one turn off the bits adds one to the multiple
turned : (over : Truth) (z q m : ℤ) (n : ℕ) → z ≡ pos n +ℤ q *ℤ m → z ≡ (if over then pos n -ℤ m else pos n) +ℤ (if over then suc_ℤ q else q) *ℤ m
turned true z q m n h = rw suc_ℤ-*ℤ (omega (arith, ints))
turned false z q m n h = h

-- z is the value of its bits, and the turns
turns_is : (k : Kind) (z : ℤ) → z ≡ value_of k (bits_of k z) +ℤ turns k z *ℤ pos (2 ^ width k)
turns_is k z = turned (int_lt (greatest k) (pos (bits_of k z))) z (int_div_euclid z (pos (2 ^ width k))) (pos (2 ^ width k)) (bits_of k z) (bits_of_is k z)

-- `convert` gives a conversion
pub IsConverted-convert : (k : Kind) (z : ℤ) → IsConverted k z (convert k z)
IsConverted-convert Bool z = ((λ e. grind (arith, ints)), (λ e. grind (arith, ints)))
IsConverted-convert Char z = (in_range-convert Char z, (turns Char z, turns_is Char z))
IsConverted-convert SChar z = (in_range-convert SChar z, (turns SChar z, turns_is SChar z))
IsConverted-convert UChar z = (in_range-convert UChar z, (turns UChar z, turns_is UChar z))
IsConverted-convert Short z = (in_range-convert Short z, (turns Short z, turns_is Short z))
IsConverted-convert UShort z = (in_range-convert UShort z, (turns UShort z, turns_is UShort z))
IsConverted-convert Int z = (in_range-convert Int z, (turns Int z, turns_is Int z))
IsConverted-convert UInt z = (in_range-convert UInt z, (turns UInt z, turns_is UInt z))
IsConverted-convert Long z = (in_range-convert Long z, (turns Long z, turns_is Long z))
IsConverted-convert ULong z = (in_range-convert ULong z, (turns ULong z, turns_is ULong z))
IsConverted-convert LLong z = (in_range-convert LLong z, (turns LLong z, turns_is LLong z))
IsConverted-convert ULLong z = (in_range-convert ULLong z, (turns ULLong z, turns_is ULLong z))

-- two values of a kind that differ by a multiple of 2 to the width are one
same_value : (k : Kind) (r s m n : ℤ) → InRange k r → InRange k s → r +ℤ m *ℤ pos (2 ^ width k) ≡ s +ℤ n *ℤ pos (2 ^ width k) → r ≡ s
same_value Bool r s m n p q e = omega (arith, ints)
same_value Char r s m n p q e = omega (arith, ints)
same_value SChar r s m n p q e = omega (arith, ints)
same_value UChar r s m n p q e = omega (arith, ints)
same_value Short r s m n p q e = omega (arith, ints)
same_value UShort r s m n p q e = omega (arith, ints)
same_value Int r s m n p q e = omega (arith, ints)
same_value UInt r s m n p q e = omega (arith, ints)
same_value Long r s m n p q e = omega (arith, ints)
same_value ULong r s m n p q e = omega (arith, ints)
same_value LLong r s m n p q e = omega (arith, ints)
same_value ULLong r s m n p q e = omega (arith, ints)

-- the one conversion to _Bool
unique_bool : (z r : ℤ) → IsConverted Bool z r → r ≡ to_bool z
unique_bool (pos zero) r h = h.0 refl
unique_bool (pos (suc n)) r h = h.1 (λ e. cc)
unique_bool (negsuc n) r h = h.1 (λ e. cc)

-- a conversion is what `convert` gives: there is only one
pub convert-unique : (k : Kind) (z r : ℤ) → IsConverted k z r → r ≡ convert k z
convert-unique Bool z r h = unique_bool z r h
convert-unique Char z r h = same_value Char r (convert Char z) h.1.0 (turns Char z) h.0 (in_range-convert Char z) (sym h.1.1 ∙ turns_is Char z)
convert-unique SChar z r h = same_value SChar r (convert SChar z) h.1.0 (turns SChar z) h.0 (in_range-convert SChar z) (sym h.1.1 ∙ turns_is SChar z)
convert-unique UChar z r h = same_value UChar r (convert UChar z) h.1.0 (turns UChar z) h.0 (in_range-convert UChar z) (sym h.1.1 ∙ turns_is UChar z)
convert-unique Short z r h = same_value Short r (convert Short z) h.1.0 (turns Short z) h.0 (in_range-convert Short z) (sym h.1.1 ∙ turns_is Short z)
convert-unique UShort z r h = same_value UShort r (convert UShort z) h.1.0 (turns UShort z) h.0 (in_range-convert UShort z) (sym h.1.1 ∙ turns_is UShort z)
convert-unique Int z r h = same_value Int r (convert Int z) h.1.0 (turns Int z) h.0 (in_range-convert Int z) (sym h.1.1 ∙ turns_is Int z)
convert-unique UInt z r h = same_value UInt r (convert UInt z) h.1.0 (turns UInt z) h.0 (in_range-convert UInt z) (sym h.1.1 ∙ turns_is UInt z)
convert-unique Long z r h = same_value Long r (convert Long z) h.1.0 (turns Long z) h.0 (in_range-convert Long z) (sym h.1.1 ∙ turns_is Long z)
convert-unique ULong z r h = same_value ULong r (convert ULong z) h.1.0 (turns ULong z) h.0 (in_range-convert ULong z) (sym h.1.1 ∙ turns_is ULong z)
convert-unique LLong z r h = same_value LLong r (convert LLong z) h.1.0 (turns LLong z) h.0 (in_range-convert LLong z) (sym h.1.1 ∙ turns_is LLong z)
convert-unique ULLong z r h = same_value ULLong r (convert ULLong z) h.1.0 (turns ULLong z) h.0 (in_range-convert ULLong z) (sym h.1.1 ∙ turns_is ULLong z)
