-- Which texts name a file or a folder.
use Rattle.std.specs.Prelude.{ℕ, Bool, true, false, ◌&&◌, ◌||◌, not, ◌==◌, nat_le, List, [], ◌∷◌, length}
use Rattle.std.specs.List.{list_all, slice_split}
use Rattle.dm_token.specs.Bytes.{is_digit, slash, full_stop}

-- between two bytes, both included
abbrev pub is_between : ℕ → ℕ → ℕ → Bool
is_between least greatest byte = nat_le least byte && nat_le byte greatest

-- an ASCII letter, a digit, or one of `_ - + .`
unfoldable pub is_name_byte : ℕ → Bool
is_name_byte byte = is_between 97 122 byte || is_between 65 90 byte || is_digit byte || byte == 95 || byte == 45 || byte == 43 || byte == full_stop

-- no part is empty, `.` or `..`
unfoldable pub is_plain_part : List ℕ → Bool
is_plain_part [] = false
is_plain_part (a ∷ []) = not (a == full_stop)
is_plain_part (a ∷ b ∷ []) = not (a == full_stop && b == full_stop)
is_plain_part (a ∷ b ∷ c ∷ rest) = true

-- a part of a name
unfoldable pub is_part : List ℕ → Bool
is_part part = is_plain_part part && list_all is_name_byte part

-- 1 to 255 bytes that are parts joined by `/`
abbrev pub is_normal_name : List ℕ → Bool
is_normal_name name = nat_le 1 (length name) && nat_le (length name) 255 && list_all is_part (slice_split (λ byte. byte == slash) name)
