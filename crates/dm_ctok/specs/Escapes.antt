-- What stands between the quotes of a character constant or a string literal (6.4.4.4, 6.4.5).
--     element bytes      the value of the character or escape sequence at the front of bytes, and what stands behind it
--     elements bytes      the values of all of them
--     character_of inner      the value of the character constant with this between its quotes
use Rattle.std.specs.Prelude.{ℕ, zero, suc, ◌&&◌, ◌==◌, nat_le, nat_lt, ℤ, pos, List, [], ◌∷◌, length, take, drop, Option, Some, None, option_map, option_and_then, codes, ◌-◌, ◌++◌, if◌then◌else◌}
use Rattle.dm_token.specs.Bytes.{backslash, partner}
use Rattle.dm_int.specs.declared.Kind.TheVariants.{Char}
use Rattle.dm_int.specs.Kinds.{convert}
use Rattle.dm_ctok.specs.Digits.{digits_len, is_digit, value_of}

-- simple-escape-sequence: what stands behind its backslash, and its value (5.2.2)
unfoldable pub simple_escape : ℕ → Option ℕ
simple_escape byte = partner byte (codes "'\"?\\abfnrtv") (39 ∷ 34 ∷ 63 ∷ 92 ∷ 7 ∷ 8 ∷ 12 ∷ 10 ∷ 13 ∷ 9 ∷ 11 ∷ [])

-- so many digits to the base at the front of bytes as a value, which is one where they are some and it fits a byte (6.4.4.4p9)
unfoldable pub numeric : ℕ → ℕ → List ℕ → Option (ℕ × List ℕ)
numeric base count bytes =
    let value = value_of base (take count bytes) in
    if nat_lt 0 count && nat_le value 255 then Some (value, drop count bytes) else None

-- octal-escape-sequence: the longest with one to three digits (6.4.4.4p7)
unfoldable pub octal_escape : List ℕ → Option (ℕ × List ℕ)
octal_escape bytes = numeric 8 (digits_len 8 (take 3 bytes)) bytes

-- hexadecimal-escape-sequence behind its `x`: the longest (6.4.4.4p7)
unfoldable pub hexadecimal_escape : List ℕ → Option (ℕ × List ℕ)
hexadecimal_escape bytes = numeric 16 (digits_len 16 bytes) bytes

-- escape-sequence behind its backslash
unfoldable pub escape : List ℕ → Option (ℕ × List ℕ)
escape [] = None
escape (byte ∷ bytes) =
    if is_digit 8 byte then octal_escape (byte ∷ bytes)
    else if byte == 120 then hexadecimal_escape bytes
    else option_map (λ value. (value, bytes)) (simple_escape byte)

-- c-char or s-char: a byte that is no backslash stands for itself
unfoldable pub element : List ℕ → Option (ℕ × List ℕ)
element [] = None
element (byte ∷ bytes) = if byte == backslash then escape bytes else Some (byte, bytes)

-- the values of at most so many elements that bytes consist of
unfoldable pub at_most : ℕ → List ℕ → Option (List ℕ)
at_most count [] = Some []
at_most zero (byte ∷ bytes) = None
at_most (suc count) (byte ∷ bytes) = option_and_then (λ first. option_map (λ values. first.0 ∷ values) (at_most count first.1)) (element (byte ∷ bytes))

-- the values of the elements that bytes consist of; each has at least one byte
unfoldable pub elements : List ℕ → Option (List ℕ)
elements bytes = at_most (length bytes) bytes

-- what stands between the quotes of a spelling
unfoldable pub between_quotes : List ℕ → List ℕ
between_quotes spelling = take (length spelling - 2) (drop 1 spelling)

-- the one element of a list
abbrev pub single : List ℕ → Option ℕ
single [] = None
single (x ∷ []) = Some x
single (x ∷ y ∷ xs) = None

-- the value of a character constant without a prefix: that of its one element as `char`, converted to `int` (6.4.4.4p10)
unfoldable pub character_of : List ℕ → Option ℤ
character_of spelling = option_map (λ value. convert Char (pos value)) (option_and_then single (elements (between_quotes spelling)))

-- values put behind others, where there are any
abbrev pub put_behind : List ℕ → Option (List ℕ) → Option (List ℕ)
put_behind before values = option_map (λ more. before ++ more) values
