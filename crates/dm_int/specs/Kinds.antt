-- C's integer kinds: their values (6.2.5, 6.2.6), the conversions between them (6.3.1.2, 6.3.1.3), the integer promotions (6.3.1.1) and
-- the usual arithmetic conversions (6.3.1.8). A value is a number of ℤ.
use Rattle.std.specs.Prelude.{ℕ, zero, suc, ◌-◌, ◌^◌, Bool as Truth, true, false, ◌&&◌, if◌then◌else◌, nat_le, ℤ, pos, negsuc, ◌+ℤ◌, ◌-ℤ◌, ◌*ℤ◌, neg_ℤ, ◌≤ℤ◌, int_le, int_lt, unsigned_abs, ◌≡◌, ◌≢◌, List, [], ◌∷◌}
use Rattle.std.specs.Int.{int_rem_euclid}
use Rattle.dm_int.specs.declared.Kind.{Kind}
use Rattle.dm_int.specs.declared.Kind.TheVariants.{Bool, Char, SChar, UChar, Short, UShort, Int, UInt, Long, ULong, LLong, ULLong}

-- the twelve kinds in the order of their numbers
abbrev pub kinds : List Kind
kinds = Bool ∷ Char ∷ SChar ∷ UChar ∷ Short ∷ UShort ∷ Int ∷ UInt ∷ Long ∷ ULong ∷ LLong ∷ ULLong ∷ []

-- the number of a kind, as `kind as u8` gives it
abbrev pub number_of : Kind → ℕ
number_of Bool = 0
number_of Char = 1
number_of SChar = 2
number_of UChar = 3
number_of Short = 4
number_of UShort = 5
number_of Int = 6
number_of UInt = 7
number_of Long = 8
number_of ULong = 9
number_of LLong = 10
number_of ULLong = 11

-- the signed kinds (6.2.5p4), and plain char, which is signed here (6.2.5p15)
abbrev pub is_signed : Kind → Truth
is_signed Bool = false
is_signed Char = true
is_signed SChar = true
is_signed UChar = false
is_signed Short = true
is_signed UShort = false
is_signed Int = true
is_signed UInt = false
is_signed Long = true
is_signed ULong = false
is_signed LLong = true
is_signed ULLong = false

-- the bytes of an object of the kind (6.5.3.4)
abbrev pub size : Kind → ℕ
size Bool = 1
size Char = 1
size SChar = 1
size UChar = 1
size Short = 2
size UShort = 2
size Int = 4
size UInt = 4
size Long = 8
size ULong = 8
size LLong = 8
size ULLong = 8

-- the bits of a value, the sign bit among them (6.2.6.2p6)
abbrev pub width : Kind → ℕ
width Bool = 1
width Char = 8
width SChar = 8
width UChar = 8
width Short = 16
width UShort = 16
width Int = 32
width UInt = 32
width Long = 64
width ULong = 64
width LLong = 64
width ULLong = 64

-- the least value: a signed kind is in two's complement (6.2.6.2p2)
abbrev pub least : Kind → ℤ
least k = if is_signed k then neg_ℤ (pos (2 ^ (width k - 1))) else pos 0

-- the greatest value
abbrev pub greatest : Kind → ℤ
greatest k = if is_signed k then pos (2 ^ (width k - 1) - 1) else pos (2 ^ width k - 1)

-- z is a value of the kind: the test
abbrev pub is_in_range : Kind → ℤ → Truth
is_in_range k z = int_le (least k) z && int_le z (greatest k)

-- z is a value of the kind: the fact
abbrev pub InRange : Kind → ℤ → Type 0
InRange k z = (least k ≤ℤ z) × (z ≤ℤ greatest k)

-- z may be a value of some kind: they reach from the least signed to the greatest unsigned number of 64 bits
abbrev pub IsValue : ℤ → Type 0
IsValue z = (neg_ℤ (pos (2 ^ 63)) ≤ℤ z) × (z ≤ℤ pos (2 ^ 64 - 1))

-- ---- conversions

-- r is z converted to the kind. To _Bool: 0 where z equals 0, else 1 (6.3.1.2). To another kind: the value of the kind that is z, or
-- differs from it by a multiple of 2 to the width (6.3.1.3; where the kind is signed too)
abbrev pub IsConverted : Kind → ℤ → ℤ → Type 0
IsConverted Bool z r = (z ≡ pos 0 → r ≡ pos 0) × (z ≢ pos 0 → r ≡ pos 1)
IsConverted k z r = InRange k r × ((m : ℤ) × (z ≡ r +ℤ m *ℤ pos (2 ^ width k)))

-- the bits of z at the kind's width, read as a number in pure binary (6.2.6.2)
abbrev pub bits_of : Kind → ℤ → ℕ
bits_of k z = unsigned_abs (int_rem_euclid z (pos (2 ^ width k)))

-- the value of the kind whose bits are those of n, which has no more of them
abbrev pub value_of : Kind → ℕ → ℤ
value_of k n = if int_lt (greatest k) (pos n) then pos n -ℤ pos (2 ^ width k) else pos n

-- 0 stays, any other number becomes 1
abbrev pub to_bool : ℤ → ℤ
to_bool (pos zero) = pos 0
to_bool (pos (suc n)) = pos 1
to_bool (negsuc n) = pos 1

-- z converted to the kind, computed: the one r of `IsConverted`
abbrev pub convert : Kind → ℤ → ℤ
convert Bool z = to_bool z
convert k z = value_of k (bits_of k z)

-- ---- promotions

-- the conversion rank (6.3.1.1p1)
abbrev pub rank : Kind → ℕ
rank Bool = 0
rank Char = 1
rank SChar = 1
rank UChar = 1
rank Short = 2
rank UShort = 2
rank Int = 3
rank UInt = 3
rank Long = 4
rank ULong = 4
rank LLong = 5
rank ULLong = 5

-- the first kind can represent all values of the second
abbrev pub represents_all : Kind → Kind → Truth
represents_all k j = int_le (least k) (least j) && int_le (greatest j) (greatest k)

-- the integer promotions (6.3.1.1p2)
abbrev pub promote : Kind → Kind
promote k = if nat_le (rank k) (rank Int) then (if represents_all Int k then Int else UInt) else k

-- the unsigned kind that corresponds to a signed one (6.2.5p6)
abbrev pub unsigned_of : Kind → Kind
unsigned_of Char = UChar
unsigned_of SChar = UChar
unsigned_of Short = UShort
unsigned_of Int = UInt
unsigned_of Long = ULong
unsigned_of LLong = ULLong
unsigned_of k = k

-- of two kinds of one signedness, the one of greater rank
abbrev pub greater_rank : Kind → Kind → Kind
greater_rank k j = if nat_le (rank j) (rank k) then k else j

-- of a signed and an unsigned kind: the unsigned one where its rank is not less; else the signed one where it represents all values of the
-- unsigned one; else the unsigned kind that corresponds to the signed one
abbrev pub mixed : Kind → Kind → Kind
mixed s u = if nat_le (rank s) (rank u) then u else if represents_all s u then s else unsigned_of s

-- the common kind of two promoted operands
abbrev pub balance : Kind → Kind → Kind
balance k j = if is_signed k then (if is_signed j then greater_rank k j else mixed k j) else (if is_signed j then mixed j k else greater_rank k j)

-- the usual arithmetic conversions (6.3.1.8)
abbrev pub common : Kind → Kind → Kind
common k j = balance (promote k) (promote j)
