-- Bytes of source text that have a name.
use Rattle.std.specs.Prelude.{ℕ, Bool, ◌&&◌, nat_le, List, [], ◌∷◌, Option, None, Some, ◌==◌, if◌then◌else◌}

abbrev pub newline : ℕ
newline = 10

abbrev pub carriage_return : ℕ
carriage_return = 13

abbrev pub quotation_mark : ℕ
quotation_mark = 34

abbrev pub apostrophe : ℕ
apostrophe = 39

abbrev pub asterisk : ℕ
asterisk = 42

abbrev pub full_stop : ℕ
full_stop = 46

abbrev pub slash : ℕ
slash = 47

abbrev pub less : ℕ
less = 60

abbrev pub greater : ℕ
greater = 62

abbrev pub question_mark : ℕ
question_mark = 63

abbrev pub backslash : ℕ
backslash = 92

-- a digit, 0 to 9 (6.4.2.1)
unfoldable pub is_digit : ℕ → Bool
is_digit byte = nat_le 48 byte && nat_le byte 57

-- the byte that stands in a second list where this byte stands first in the first
abbrev pub partner : ℕ → List ℕ → List ℕ → Option ℕ
partner byte (x ∷ xs) (y ∷ ys) = if byte == x then Some y else partner byte xs ys
partner byte _ _ = None
