-- Integer constants (6.4.4.1).
--     constant_of spelling      the value and the form of the integer constant that a spelling is
--     kinds_for is_decimal suffix      the list of types of 6.4.4.1p5
--     integer_of spelling      the value and the kind of the integer constant that a spelling is
use Rattle.std.specs.Prelude.{ℕ, Bool, true, false, ◌&&◌, ◌||◌, ◌==◌, ◌^◌, nat_lt, List, [], ◌∷◌, take, drop, find, Option, Some, None, option_map, option_and_then, pos, if◌then◌else◌}
use Rattle.dm_int.specs.declared.Kind.{Kind}
use Rattle.dm_int.specs.declared.Kind.TheVariants.{Int, UInt, Long as KLong, ULong, LLong, ULLong}
use Rattle.dm_int.specs.Kinds.{is_in_range}
use Rattle.dm_ctok.specs.declared.integer.Suffix.{Suffix}
use Rattle.dm_ctok.specs.declared.integer.Suffix.TheVariants.{Plain, Unsigned, Long, UnsignedLong, LongLong, UnsignedLongLong}
use Rattle.dm_ctok.specs.declared.integer.Constant.{Constant}
use Rattle.dm_ctok.specs.Digits.{digits_len, value_of}

-- ---- the form of a constant

-- unsigned-suffix: `u` or `U`
abbrev pub is_u : ℕ → Bool
is_u byte = (byte == 117) || (byte == 85)

-- long-suffix: `l` or `L`
abbrev pub is_l : ℕ → Bool
is_l byte = (byte == 108) || (byte == 76)

-- long-long-suffix: `ll` or `LL`
abbrev pub is_ll : ℕ → ℕ → Bool
is_ll a b = is_l a && (a == b)

-- integer-suffix: an unsigned-suffix, a long-suffix or a long-long-suffix, or the first and one of the others in either order
unfoldable pub suffix_of : List ℕ → Option Suffix
suffix_of [] = Some Plain
suffix_of (a ∷ []) = if is_u a then Some Unsigned else if is_l a then Some Long else None
suffix_of (a ∷ b ∷ []) = if (is_u a && is_l b) || (is_l a && is_u b) then Some UnsignedLong else if is_ll a b then Some LongLong else None
suffix_of (a ∷ b ∷ c ∷ []) = if (is_u a && is_ll b c) || (is_ll a b && is_u c) then Some UnsignedLongLong else None
suffix_of (a ∷ b ∷ c ∷ d ∷ bytes) = None

-- digits to the base, at least one, and behind them a suffix or nothing
unfoldable pub written : Bool → ℕ → List ℕ → Option Constant
written is_decimal base bytes =
    let count = digits_len base bytes in
    if count == 0 then None
    else option_map (λ suffix. record { value = value_of base (take count bytes); is_decimal = is_decimal; suffix = suffix }) (suffix_of (drop count bytes))

-- hexadecimal-prefix: `0x` or `0X`
unfoldable pub is_hexadecimal : List ℕ → Bool
is_hexadecimal (a ∷ b ∷ bytes) = (a == 48) && ((b == 120) || (b == 88))
is_hexadecimal bytes = false

-- an octal constant begins with `0`
unfoldable pub is_octal : List ℕ → Bool
is_octal (a ∷ bytes) = a == 48
is_octal [] = false

-- the value and the form of the integer constant that a spelling is
unfoldable pub constant_of : List ℕ → Option Constant
constant_of spelling =
    if is_hexadecimal spelling then written false 16 (drop 2 spelling)
    else if is_octal spelling then written false 8 spelling
    else written true 10 spelling

-- ---- its kind

-- the list of types of 6.4.4.1p5
abbrev pub kinds_for : Bool → Suffix → List Kind
kinds_for true Plain = Int ∷ KLong ∷ LLong ∷ []
kinds_for false Plain = Int ∷ UInt ∷ KLong ∷ ULong ∷ LLong ∷ ULLong ∷ []
kinds_for is_decimal Unsigned = UInt ∷ ULong ∷ ULLong ∷ []
kinds_for true Long = KLong ∷ LLong ∷ []
kinds_for false Long = KLong ∷ ULong ∷ LLong ∷ ULLong ∷ []
kinds_for is_decimal UnsignedLong = ULong ∷ ULLong ∷ []
kinds_for true LongLong = LLong ∷ []
kinds_for false LongLong = LLong ∷ ULLong ∷ []
kinds_for is_decimal UnsignedLongLong = ULLong ∷ []

-- the first in a list in which the value fits
abbrev pub first_fit : ℕ → List Kind → Option Kind
first_fit value kinds = find (λ kind. is_in_range kind (pos value)) kinds

-- the kind of a constant, if it has one
unfoldable pub kind_of : Constant → Option Kind
kind_of constant = first_fit constant.value (kinds_for constant.is_decimal constant.suffix)

-- the value and the kind of the integer constant that a spelling is
unfoldable pub integer_of : List ℕ → Option (ℕ × Kind)
integer_of spelling = option_and_then (λ constant. option_map (λ kind. (constant.value, kind)) (kind_of constant)) (constant_of spelling)

-- a constant whose value fits 64 bits
abbrev pub if_small : Option Constant → Option Constant
if_small None = None
if_small (Some constant) = if nat_lt constant.value (2 ^ 64) then Some constant else None
