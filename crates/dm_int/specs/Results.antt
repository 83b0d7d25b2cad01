-- What an operator gives on values of a kind is a value of the kind
use Rattle.std.specs.Prelude.{ℕ, suc, ◌%◌, ◌/◌, ◌^◌, ◌<◌, Bool as Truth, true, false, if◌then◌else◌, Result, Ok, Err, ◌≡◌, refl, ◌+ℤ◌, ◌-ℤ◌, ◌*ℤ◌, int_div, ℤ, pos, negsuc, neg_ℤ, ◌≤ℤ◌, int_rem, unsigned_abs, bit_and, IfOk}
use Rattle.std.specs.Int.{int_div_euclid}
use Rattle.std.proofs.Common.{arith, sym, ap, ◌∙◌}
use Rattle.std.proofs.lemmas.Int.{ints, quot-rem}
use Rattle.std.proofs.lemmas.Nat.{and_le_l, or_lt, xor_lt}
use native.Mathlib.Nat.{mod-le, div-le_self}
use Rattle.dm_int.specs.declared.Kind.{Kind}
use Rattle.dm_int.specs.declared.Op.{Op}
use Rattle.dm_int.specs.declared.Op.TheVariants.{Add, Sub, Mul, Div, Rem, Shl, Shr, Less, Greater, LessEq, GreaterEq, Equal, NotEqual, And, Xor, Or}
use Rattle.dm_int.specs.declared.Fault.{Fault}
use Rattle.dm_int.specs.declared.Fault.TheVariants.{Overflow, Zero}
use Rattle.dm_int.specs.Kinds.{is_signed, is_in_range, convert, width, InRange, bits_of}
use Rattle.dm_int.specs.Operators.{int_eq, fit, truth, divide, remainder, shift_left, shift_right, binary, IsRight, negate, complement}
use Rattle.dm_int.specs.Ranges.{zero-in_range, in_range-convert, in_range-value_of}

-- what lies between two values of a kind is one
between : (k : Kind) (x y z : ℤ) → InRange k x → InRange k y → x ≤ℤ z → z ≤ℤ y → InRange k z
between k x y z p q l u = (omega (arith, ints), omega (arith, ints))

-- a value has no more bits than the width
pub bits_of_below : (k : Kind) (z : ℤ) → bits_of k z < 2 ^ width k
bits_of_below k z = grind (arith, ints)

-- the answer for an exact result is a value of the kind
pub in_range-fit : (k : Kind) (f : Fault) (z : ℤ) → IfOk (fit k f z) (InRange k)
in_range-fit k f z = grind (arith, ints, in_range-convert)

-- so are 0 and 1
pub in_range-truth : (k : Kind) (b : Truth) → InRange k (truth b)
in_range-truth k b = grind (arith, ints)

-- a remainder is not farther from 0 than the dividend
pub in_range-int_rem : (k : Kind) (a b : ℤ) → InRange k a → InRange k (int_rem a b)
in_range-int_rem k (pos a) b h = between k (pos 0) (pos a) (pos (a % unsigned_abs b)) (zero-in_range k) h (omega (arith, ints)) (omega (arith, ints, mod-le a (unsigned_abs b)))
in_range-int_rem k (negsuc a) b h = between k (negsuc a) (pos 0) (neg_ℤ (pos (suc a % unsigned_abs b))) h (zero-in_range k) (omega (arith, ints, mod-le (suc a) (unsigned_abs b))) (omega (arith, ints))

-- nor is a quotient that is rounded down
pub in_range-shr : (k : Kind) (a : ℤ) (d : ℕ) → InRange k a → InRange k (int_div_euclid a (pos d))
in_range-shr k (pos a) d h = between k (pos 0) (pos a) (pos (a / d)) (zero-in_range k) h (omega (arith, ints)) (omega (arith, ints, div-le_self a d))
in_range-shr k (negsuc a) d h = between k (negsuc a) (pos 0) (negsuc (a / d)) h (zero-in_range k) (omega (arith, ints, div-le_self a d)) (omega (arith, ints))

-- the table's remainder
in_range-remainder : (k : Kind) (a b : ℤ) → InRange k a → IfOk (remainder k a b) (InRange k)
in_range-remainder k a b h = grind (arith, ints, in_range-int_rem k a b h)

-- the table's quotient
in_range-divide : (k : Kind) (a b : ℤ) → IfOk (divide k a b) (InRange k)
in_range-divide k a b = grind (arith, in_range-fit)

-- the table's left shift
in_range-shift_left : (k : Kind) (a b : ℤ) → IfOk (shift_left k a b) (InRange k)
in_range-shift_left k a b = grind (arith, in_range-fit)

-- the table's right shift
in_range-shift_right : (k : Kind) (a b : ℤ) → InRange k a → IfOk (shift_right k a b) (InRange k)
in_range-shift_right k a b h = grind (arith, in_range-shr k a (2 ^ unsigned_abs b) h)

-- `&` sets no bit above the width
and_below : (w a b : ℕ) → a < 2 ^ w → bit_and a b < 2 ^ w
and_below w a b h = omega (arith, and_le_l a b)

-- each entry of the table
pub in_range-binary : (o : Op) (k : Kind) (a b : ℤ) → InRange k a → IfOk (binary o k a b) (InRange k)
in_range-binary Add k a b p = in_range-fit k Overflow _
in_range-binary Sub k a b p = in_range-fit k Overflow _
in_range-binary Mul k a b p = in_range-fit k Overflow _
in_range-binary Div k a b p = in_range-divide k a b
in_range-binary Rem k a b p = in_range-remainder k a b p
in_range-binary Shl k a b p = in_range-shift_left k a b
in_range-binary Shr k a b p = in_range-shift_right k a b p
in_range-binary Less k a b p = in_range-truth k _
in_range-binary Greater k a b p = in_range-truth k _
in_range-binary LessEq k a b p = in_range-truth k _
in_range-binary GreaterEq k a b p = in_range-truth k _
in_range-binary Equal k a b p = in_range-truth k _
in_range-binary NotEqual k a b p = in_range-truth k _
in_range-binary And k a b p = in_range-value_of k _ (and_below (width k) _ (bits_of k b) (bits_of_below k a))
in_range-binary Xor k a b p = in_range-value_of k _ (xor_lt (width k) _ _ (bits_of_below k a) (bits_of_below k b))
in_range-binary Or k a b p = in_range-value_of k _ (or_lt (width k) _ _ (bits_of_below k a) (bits_of_below k b))

-- a value of the kind may be the right operand of each operator
pub right-in_range : (o : Op) (k : Kind) (b : ℤ) → InRange k b → IsRight o k b
right-in_range Add k b h = h
right-in_range Sub k b h = h
right-in_range Mul k b h = h
right-in_range Div k b h = h
right-in_range Rem k b h = h
right-in_range Shl k b h = tt
right-in_range Shr k b h = tt
right-in_range Less k b h = h
right-in_range Greater k b h = h
right-in_range LessEq k b h = h
right-in_range GreaterEq k b h = h
right-in_range Equal k b h = h
right-in_range NotEqual k b h = h
right-in_range And k b h = h
right-in_range Xor k b h = h
right-in_range Or k b h = h

-- what `negate` gives is a value of the kind
pub in_range-negate : (k : Kind) (a : ℤ) → IfOk (negate k a) (InRange k)
in_range-negate k a = in_range-fit k Overflow (neg_ℤ a)

-- what `complement` gives is a value of the kind
pub in_range-complement : (k : Kind) (a : ℤ) → InRange k (complement k a)
in_range-complement k a = in_range-convert k (negsuc 0 -ℤ a)

-- a remainder's cases: it is the answer only where both tests are passed
parts : (z i : Truth) (m r : ℤ) → (if z then Err Zero else if i then Ok m else Err Overflow) ≡ Ok r → (z ≡ false) × (i ≡ true) × (m ≡ r)
parts true i m r h = absurd (cc)
parts false true m r h = (refl, refl, cc)
parts false false m r h = absurd (cc)

-- a quotient's cases: where it is representable it is the answer
part : (z i : Truth) (m q : ℤ) (other : Result ℤ Fault) → z ≡ false → i ≡ true → (if z then Err Zero else if i then Ok m else other) ≡ Ok q → m ≡ q
part true i m q other e f h = absurd (cc)
part false true m q other e f h = cc
part false false m q other e f h = absurd (cc)

-- a remainder stands only beside a quotient that the kind represents
remainder_parts : (k : Kind) (a b r : ℤ) → remainder k a b ≡ Ok r → (int_eq b (pos 0) ≡ false) × (is_in_range k (int_div a b) ≡ true) × (int_rem a b ≡ r)
remainder_parts k a b r h = parts (int_eq b (pos 0)) (is_in_range k (int_div a b)) (int_rem a b) r h

-- an answer of `/` is the quotient, where that is representable
divide_part : (k : Kind) (a b q : ℤ) → int_eq b (pos 0) ≡ false → is_in_range k (int_div a b) ≡ true → divide k a b ≡ Ok q → int_div a b ≡ q
divide_part k a b q z i h = part (int_eq b (pos 0)) (is_in_range k (int_div a b)) (int_div a b) q (if is_signed k then Err Overflow else Ok (convert k (int_div a b))) z i h

-- the quotient and the remainder make the dividend again (6.5.5p6)
pub divided : (k : Kind) (a b q r : ℤ) → divide k a b ≡ Ok q → remainder k a b ≡ Ok r → q *ℤ b +ℤ r ≡ a
divided k a b q r d e =
    let p = remainder_parts k a b r e in
    ap (λ x. x *ℤ b +ℤ r) (sym (divide_part k a b q p.0 p.1 d)) ∙ ap (λ y. int_div a b *ℤ b +ℤ y) (sym p.2) ∙ quot-rem a b
