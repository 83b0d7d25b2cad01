-- Digits of the integer constants and of the escape sequences (6.4.4.1, 6.4.4.4).
--     is_digit base byte      the byte is a digit to the base
--     value_of base digits      the number that digits write
--     digits_len base bytes      how many digits stand at the front of bytes
use Rattle.std.specs.Prelude.{ℕ, ◌+◌, ◌-◌, ◌*◌, Bool, ◌&&◌, List, fold, nat_le, nat_lt, Option, Some, None, if◌then◌else◌}
use Rattle.std.specs.List.{prefix_len}

-- the value of a digit: `0` to `9`, then `a` to `f` or `A` to `F`; of any other byte 16, which no digit has
unfoldable pub digit_value : ℕ → ℕ
digit_value byte =
    if nat_le 48 byte && nat_le byte 57 then byte - 48
    else if nat_le 97 byte && nat_le byte 102 then byte - 87
    else if nat_le 65 byte && nat_le byte 70 then byte - 55
    else 16

-- the byte is a digit to the base, which is at most 16
abbrev pub is_digit : ℕ → ℕ → Bool
is_digit base byte = nat_lt (digit_value byte) base

-- the number that digits write: each counts beside the base times what the digits before it write
unfoldable pub value_of : ℕ → List ℕ → ℕ
value_of base digits = fold (λ value digit. base * value + digit_value digit) 0 digits

-- how many digits stand at the front of bytes
unfoldable pub digits_len : ℕ → List ℕ → ℕ
digits_len base bytes = prefix_len (is_digit base) bytes

-- a number up to this one
abbrev pub up_to : ℕ → ℕ → Option ℕ
up_to most value = if nat_le value most then Some value else None
