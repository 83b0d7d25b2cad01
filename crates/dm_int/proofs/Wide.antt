-- What the code computes at 128 bits on values of a kind is the mathematical result
use Rattle.std.specs.Prelude.{ℕ, zero, suc, ◌-◌, ◌*◌, ◌/◌, ◌%◌, ◌^◌, ◌<◌, ◌≤◌, true, false, if◌then◌else◌, ℤ, pos, negsuc, neg_ℤ, ◌+ℤ◌, ◌-ℤ◌, ◌*ℤ◌, ◌≤ℤ◌, ◌<ℤ◌, FitsSigned, int_div, int_rem, int_lt, int_le, unsigned_abs, Ok, Err, ◌≡◌, ◌≢◌, refl}
use Rattle.std.specs.Int.{w128, int_div_euclid}
use Rattle.std.proofs.Common.{arith, ap, ◌∙◌, to_z, of_z}
use Rattle.std.proofs.lemmas.Int.{ints, to_z-of_z, to_z_pos, fits_signed_mul, quot_is, rem_is}
use Rattle.std.proofs.lemmas.Nat.{mul-le}
use native.Mathlib.Nat.{div-le_self, mod-eq_of_lt, pow-le-pow_right, div-lt_self}
use lib.Signed.{shr_z}
use Rattle.dm_int.specs.declared.Kind.{Kind}
use Rattle.dm_int.specs.declared.Kind.TheVariants.{Bool, UChar, UShort, UInt, ULong, ULLong}
use Rattle.dm_int.specs.declared.Fault.{Fault}
use Rattle.dm_int.specs.declared.Fault.TheVariants.{Overflow, Zero, Shift}
use Rattle.dm_int.specs.Kinds.{is_signed, width, is_in_range, InRange, IsValue, convert, value_of}
use Rattle.dm_int.specs.Operators.{int_eq, fit, divide, remainder, shift_left}
use Rattle.dm_int.specs.Ranges.{value-in_range, convert-in_range}

-- a number as 128 bits give it back
abbrev pub wide : ℤ → ℤ
wide z = to_z w128 (of_z w128 z)

-- a fact on what a function gives, at an equal argument
pub along : {A : Type 0} (f : ℤ → A) (y z : ℤ) (r : A) → y ≡ z → r ≡ f y → r ≡ f z
along f y z r e h = h ∙ ap f e

-- 128 bits hold a value
pub wide_is : (z : ℤ) → IsValue z → wide z ≡ z
wide_is z h = omega (arith, ints)

-- the same, as the fact that it fits
pub wide-fits : (z : ℤ) → IsValue z → FitsSigned w128 z
wide-fits z h = grind (arith, ints)

-- what the code computes for `-a`
pub wide_neg : (a : ℤ) → IsValue a → wide (pos 0 -ℤ wide a) ≡ neg_ℤ a
wide_neg a p = omega (arith, ints)

-- for `-1 - a`
pub wide_complement : (a : ℤ) → IsValue a → wide (negsuc 0 -ℤ wide a) ≡ negsuc 0 -ℤ a
wide_complement a p = omega (arith, ints)

-- for `a + b`
pub wide_add : (a b : ℤ) → IsValue a → IsValue b → wide (wide a +ℤ wide b) ≡ a +ℤ b
wide_add a b p q = omega (arith, ints)

-- for `a - b`
pub wide_sub : (a b : ℤ) → IsValue a → IsValue b → wide (wide a -ℤ wide b) ≡ a -ℤ b
wide_sub a b p q = omega (arith, ints)

-- a value of a signed kind is at most 2 to the 63rd from 0
abs_bound : (k : Kind) (a : ℤ) → is_signed k ≡ true → InRange k a → unsigned_abs a ≤ 2 ^ 63
abs_bound k a s p = grind (arith, ints)

-- so a product of two fits 128 bits
mul_fits : (k : Kind) (a b : ℤ) → is_signed k ≡ true → InRange k a → InRange k b → FitsSigned w128 (a *ℤ b)
mul_fits k a b s p q = fits_signed_mul w128 a b (2 ^ 63) (2 ^ 63) (abs_bound k a s p) (abs_bound k b s q) (omega arith)

-- the product of two values of a signed kind
pub wide_mul : (k : Kind) (a b : ℤ) → is_signed k ≡ true → InRange k a → InRange k b → wide (wide a *ℤ wide b) ≡ a *ℤ b
wide_mul k a b s p q =
    let e : wide a ≡ a = wide_is a (value-in_range k a p) in
    let f : wide b ≡ b = wide_is b (value-in_range k b q) in
    ap (λ x. wide (x *ℤ wide b)) e ∙ ap (λ y. wide (a *ℤ y)) f ∙ to_z-of_z w128 (a *ℤ b) (mul_fits k a b s p q)

-- a quotient is not farther from 0 than the dividend
quot_bound : (a b : ℤ) → unsigned_abs (int_div a b) ≤ unsigned_abs a
quot_bound (pos a) (pos b) = div-le_self a b
quot_bound (pos a) (negsuc b) = grind (arith, ints, div-le_self a (suc b))
quot_bound (negsuc a) (pos b) = grind (arith, ints, div-le_self (suc a) b)
quot_bound (negsuc a) (negsuc b) = div-le_self (suc a) (suc b)

-- a value is less than 2 to the 64th from 0
value_bound : (a : ℤ) → IsValue a → unsigned_abs a < 2 ^ 64
value_bound a p = grind (arith, ints)

-- and what is so near fits 128 bits
fits_below : (z : ℤ) → unsigned_abs z < 2 ^ 64 → FitsSigned w128 z
fits_below z h = grind (arith, ints)

-- a quotient of a value fits
quot_fits : (a b : ℤ) → IsValue a → FitsSigned w128 (int_div a b)
quot_fits a b p = fits_below (int_div a b) (omega (arith, quot_bound a b, value_bound a p))

-- for `a / b`
pub wide_div : (a b : ℤ) → IsValue a → IsValue b → wide (int_div (wide a) (wide b)) ≡ int_div a b
wide_div a b p q = quot_is w128 a b (wide-fits a p) (wide-fits b q) (quot_fits a b p)

-- for `a % b`
pub wide_rem : (a b : ℤ) → IsValue a → IsValue b → wide (int_rem (wide a) (wide b)) ≡ int_rem a b
wide_rem a b p q = rem_is w128 a b (wide-fits a p) (wide-fits b q)

-- the shift that the code computes is the quotient rounded down
pub wide_shr : (a : ℤ) (n : ℕ) → IsValue a → wide (shr_z (wide a) n) ≡ int_div_euclid a (pos n)
wide_shr (pos a) n p = grind (arith, ints, div-le_self a n)
wide_shr (negsuc a) n p = grind (arith, ints, div-le_self a n)

-- a remainder by a greater number
mod_same : (n m : ℕ) → n < m → n % m ≡ n
mod_same n m h = mod-eq_of_lt h

-- `a << c` loses nothing, where a is a value that is not negative and c is below 64
shl_bound : (n m : ℕ) → n < 2 ^ 64 → m < 64 → n * 2 ^ m < 2 ^ 127
shl_bound n m p q = let h : n * 2 ^ m ≤ (2 ^ 64 - 1) * 2 ^ 63 = mul-le n (2 ^ m) (2 ^ 64 - 1) (2 ^ 63) (omega arith) (pow-le-pow_right {n = 2} (omega arith) {i = m} {j = 63} (omega arith)) in omega arith

-- so the shifted number is exact at 128 bits
shl_is : (n m : ℕ) → n < 2 ^ 64 → m < 64 → to_z w128 (n * 2 ^ m % 2 ^ 128) ≡ pos (n * 2 ^ m)
shl_is n m p q = let h : n * 2 ^ m < 2 ^ 127 = shl_bound n m p q in ap (to_z w128) (mod_same (n * 2 ^ m) (2 ^ 128) (omega arith)) ∙ to_z_pos w128 (n * 2 ^ m) h

-- for `a << c`
pub wide_shl : (a c : ℤ) → IsValue a → pos 0 ≤ℤ a → pos 0 ≤ℤ c → c <ℤ pos 64 → to_z w128 (of_z w128 a * 2 ^ unsigned_abs (wide c) % 2 ^ 128) ≡ a *ℤ pos (2 ^ unsigned_abs c)
wide_shl (pos n) (pos m) p s t u = rw (wide_is (pos m) (omega (arith, ints), omega (arith, ints))) (shl_is n m (omega (arith, ints)) (omega (arith, ints)))
wide_shl (pos n) (negsuc m) p s t u = absurd (omega (arith, ints))
wide_shl (negsuc n) c p s t u = absurd (omega (arith, ints))

-- an unsigned kind has no fault
pub fit_unsigned : (k : Kind) (f : Fault) (z : ℤ) → is_signed k ≡ false → fit k f z ≡ Ok (convert k z)
fit_unsigned k f z s = grind (arith, ints, convert-in_range k z)

-- the low 64 bits of a product of small numbers are the product
small : (g x y : ℕ) → x ≤ g → y ≤ g → g * g < 2 ^ 64 → x * y % 2 ^ 64 ≡ x * y
small g x y p q h = let e : x * y ≤ g * g = mul-le x y g g p q in mod_same (x * y) (2 ^ 64) (omega arith)

-- the low 64 bits of the low 64 bits
mod_twice : (n : ℕ) → n % 2 ^ 64 % 2 ^ 64 ≡ n % 2 ^ 64
mod_twice n = omega arith

-- of a product of two values of an unsigned kind the low 64 bits decide what it is converted to
low_product : (k : Kind) (x y : ℕ) → is_signed k ≡ false → InRange k (pos x) → InRange k (pos y) → convert k (pos (x * y % 2 ^ 64)) ≡ convert k (pos (x * y))
low_product Bool x y s p q = ap (λ n. convert Bool (pos n)) (small 1 x y (omega (arith, ints)) (omega (arith, ints)) (omega arith))
low_product UChar x y s p q = ap (λ n. convert UChar (pos n)) (small (2 ^ 8 - 1) x y (omega (arith, ints)) (omega (arith, ints)) (omega arith))
low_product UShort x y s p q = ap (λ n. convert UShort (pos n)) (small (2 ^ 16 - 1) x y (omega (arith, ints)) (omega (arith, ints)) (omega arith))
low_product UInt x y s p q = ap (λ n. convert UInt (pos n)) (small (2 ^ 32 - 1) x y (omega (arith, ints)) (omega (arith, ints)) (omega arith))
low_product ULong x y s p q = ap (value_of ULong) (mod_twice (x * y))
low_product ULLong x y s p q = ap (value_of ULLong) (mod_twice (x * y))
low_product k x y s p q = absurd (cc)

-- for the wrapped product of 64 bits
pub wide_low_product : (k : Kind) (a b : ℤ) → is_signed k ≡ false → InRange k a → InRange k b → convert k (to_z w128 (unsigned_abs (wide a) * unsigned_abs (wide b) % 2 ^ 64)) ≡ convert k (a *ℤ b)
wide_low_product k (pos x) (pos y) s p q =
    rw (wide_is (pos x) (value-in_range k (pos x) p), wide_is (pos y) (value-in_range k (pos y) q), to_z_pos w128 (x * y % 2 ^ 64) (omega arith)) (low_product k x y s p q)
wide_low_product k (negsuc x) b s p q = absurd (grind (arith, ints))
wide_low_product k (pos x) (negsuc y) s p q = absurd (grind (arith, ints))

-- a division by 2 or more makes a number smaller
div_smaller : (a b : ℕ) → suc a / suc (suc b) ≤ a
div_smaller a b = let h : suc a / suc (suc b) < suc a = div-lt_self (omega arith) (omega arith) in omega arith

-- the quotient of two values of a kind is one, but for the least by -1
pub in_range-int_div : (k : Kind) (a b : ℤ) → InRange k a → InRange k b → b ≢ negsuc 0 → is_in_range k (int_div a b) ≡ true
in_range-int_div k (pos a) (pos b) p q h = grind (arith, ints, div-le_self a b)
in_range-int_div k (pos a) (negsuc b) p q h = grind (arith, ints, div-le_self a (suc b))
in_range-int_div k (negsuc a) (pos b) p q h = grind (arith, ints, div-le_self (suc a) b)
in_range-int_div k (negsuc a) (negsuc zero) p q h = absurd (h refl)
in_range-int_div k (negsuc a) (negsuc (suc b)) p q h = grind (arith, ints, div_smaller a b)

-- the test for 0 fails elsewhere
not_zero : (b : ℤ) → b ≢ pos 0 → int_eq b (pos 0) ≡ false
not_zero b h = grind (arith, ints)

-- the table's entry for `/`, where the divisor is not 0
pub divide_is : (k : Kind) (a b : ℤ) → b ≢ pos 0 → divide k a b ≡ fit k Overflow (int_div a b)
divide_is k a b h = ap (λ t. if t then Err Zero else fit k Overflow (int_div a b)) (not_zero b h)

-- `%`, where the divisor is neither 0 nor -1
pub remainder_is : (k : Kind) (a b : ℤ) → InRange k a → InRange k b → b ≢ pos 0 → b ≢ negsuc 0 → remainder k a b ≡ Ok (int_rem a b)
remainder_is k a b p q h g =
    ap (λ t. if t then Err Zero else if is_in_range k (int_div a b) then Ok (int_rem a b) else Err Overflow) (not_zero b h)
    ∙ ap (λ t. if t then Ok (int_rem a b) else Err Overflow) (in_range-int_div k a b p q g)

-- `<<`, where the count and the left side are in order
pub shift_left_is : (k : Kind) (a c : ℤ) → int_le (pos 0) c ≡ true → int_lt c (pos (width k)) ≡ true → int_le (pos 0) a ≡ true → shift_left k a c ≡ fit k Shift (a *ℤ pos (2 ^ unsigned_abs c))
shift_left_is k a c p q r = grind arith

-- a count below the width is below 64
pub count_below : (k : Kind) (c : ℤ) → int_lt c (pos (width k)) ≡ true → c <ℤ pos 64
count_below k c h = grind (arith, ints)
