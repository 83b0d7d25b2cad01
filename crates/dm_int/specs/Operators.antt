-- What C's operators on integers give (6.5.3.3, 6.5.5 to 6.5.12), over the numbers of ℤ: one table
use Rattle.std.specs.Prelude.{ℕ, ◌^◌, Bool as Truth, true, false, ◌&&◌, not, if◌then◌else◌, ℤ, pos, negsuc, ◌+ℤ◌, ◌-ℤ◌, ◌*ℤ◌, neg_ℤ, int_le, int_lt, int_div, int_rem, unsigned_abs, bit_and, bit_or, bit_xor, Result, Ok, Err}
use Rattle.std.specs.Int.{int_div_euclid}
use Rattle.dm_int.specs.declared.Kind.{Kind}
use Rattle.dm_int.specs.declared.Op.{Op}
use Rattle.dm_int.specs.declared.Op.TheVariants.{Add, Sub, Mul, Div, Rem, Shl, Shr, Less, Greater, LessEq, GreaterEq, Equal, NotEqual, And, Xor, Or}
use Rattle.dm_int.specs.declared.Fault.{Fault}
use Rattle.dm_int.specs.declared.Fault.TheVariants.{Overflow, Zero, Shift}
use Rattle.dm_int.specs.Kinds.{is_signed, width, is_in_range, InRange, convert, bits_of, value_of}

-- The answer where z is the mathematical result: z itself where the kind represents it. Else a signed kind has the fault (6.5p5), and an
-- unsigned one what is left modulo 2 to the width (6.2.5p9)
abbrev pub fit : Kind → Fault → ℤ → Result ℤ Fault
fit k f z = if is_in_range k z then Ok z else if is_signed k then Err f else Ok (convert k z)

-- 1 where a relation or equality holds, else 0 (6.5.8p6, 6.5.9p3)
abbrev pub truth : Truth → ℤ
truth true = pos 1
truth false = pos 0

-- two numbers are equal, as a test
abbrev pub int_eq : ℤ → ℤ → Truth
int_eq a b = int_le a b && int_le b a

-- the quotient, rounded toward 0 (6.5.5p6); not by 0 (6.5.5p5)
abbrev pub divide : Kind → ℤ → ℤ → Result ℤ Fault
divide k a b = if int_eq b (pos 0) then Err Zero else fit k Overflow (int_div a b)

-- the remainder, where the quotient is representable; not by 0 (6.5.5p5, p6)
abbrev pub remainder : Kind → ℤ → ℤ → Result ℤ Fault
remainder k a b = if int_eq b (pos 0) then Err Zero else if is_in_range k (int_div a b) then Ok (int_rem a b) else Err Overflow

-- b may be the count of a shift: it is not negative, and less than the width (6.5.7p3)
abbrev pub is_count : Kind → ℤ → Truth
is_count k b = int_le (pos 0) b && int_lt b (pos (width k))

-- a times 2 to the count, for an a that is not negative (6.5.7p4)
abbrev pub shift_left : Kind → ℤ → ℤ → Result ℤ Fault
shift_left k a b = if is_count k b && int_le (pos 0) a then fit k Shift (a *ℤ pos (2 ^ unsigned_abs b)) else Err Shift

-- a divided by 2 to the count and rounded down (6.5.7p5)
abbrev pub shift_right : Kind → ℤ → ℤ → Result ℤ Fault
shift_right k a b = if is_count k b then Ok (int_div_euclid a (pos (2 ^ unsigned_abs b))) else Err Shift

-- the value whose bits a bitwise operator makes of those of its operands (6.5.10 to 6.5.12)
abbrev pub bitwise : Kind → (ℕ → ℕ → ℕ) → ℤ → ℤ → Result ℤ Fault
bitwise k f a b = Ok (value_of k (f (bits_of k a) (bits_of k b)))

-- the table of binary operators: operands and result are of the kind, except the count of a shift
abbrev pub binary : Op → Kind → ℤ → ℤ → Result ℤ Fault
binary Add k a b = fit k Overflow (a +ℤ b)
binary Sub k a b = fit k Overflow (a -ℤ b)
binary Mul k a b = fit k Overflow (a *ℤ b)
binary Div k a b = divide k a b
binary Rem k a b = remainder k a b
binary Shl k a b = shift_left k a b
binary Shr k a b = shift_right k a b
binary Less k a b = Ok (truth (int_lt a b))
binary Greater k a b = Ok (truth (int_lt b a))
binary LessEq k a b = Ok (truth (int_le a b))
binary GreaterEq k a b = Ok (truth (int_le b a))
binary Equal k a b = Ok (truth (int_eq a b))
binary NotEqual k a b = Ok (truth (not (int_eq a b)))
binary And k a b = bitwise k bit_and a b
binary Xor k a b = bitwise k bit_xor a b
binary Or k a b = bitwise k bit_or a b

-- the right operand is a value of the kind, but the count of a shift any number
abbrev pub IsRight : Op → Kind → ℤ → Type 0
IsRight Shl k b = Unit {0}
IsRight Shr k b = Unit {0}
IsRight o k b = InRange k b

-- the negative of a value (6.5.3.3p3)
abbrev pub negate : Kind → ℤ → Result ℤ Fault
negate k a = fit k Overflow (neg_ℤ a)

-- the bitwise complement: -1 - a, converted (6.5.3.3p4)
abbrev pub complement : Kind → ℤ → ℤ
complement k a = convert k (negsuc 0 -ℤ a)
