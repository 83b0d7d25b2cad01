-- The lexical classes of preprocessing tokens (6.4), each as a test on the bytes of a spelling.
--     is_identifier, is_number, is_character, is_literal, is_header, is_punctuator      6.4.2.1, 6.4.8, 6.4.4.4, 6.4.5, 6.4.7 and 6.4.6
--     kind_of header spelling      the kind of token that a spelling is; a header name only where `header` is true
use Rattle.std.specs.Prelude.{ℕ, Bool, true, false, ◌&&◌, ◌||◌, not, ◌==◌, nat_le, List, [], ◌∷◌, length, Option, Some, None, position, bytes_eq, if◌then◌else◌}
use Rattle.std.specs.List.{list_all}
use Rattle.dm_spell.specs.Tables.{punctuator_rows}
use Rattle.dm_token.specs.declared.token.PpKind.{PpKind}
use Rattle.dm_token.specs.declared.token.PpKind.TheVariants.{Identifier, Number, Character, Literal, Punctuator, Header, Stray}
unfoldable pub use Rattle.dm_token.specs.Bytes.{is_digit}
pub use Rattle.dm_token.specs.Bytes.{newline, quotation_mark, apostrophe, asterisk, full_stop, slash, less, greater, backslash}

-- a letter or the underscore (6.4.2.1)
unfoldable pub is_nondigit : ℕ → Bool
is_nondigit byte = (nat_le 97 byte && nat_le byte 122) || (nat_le 65 byte && nat_le byte 90) || (byte == 95)

-- a byte of an identifier
unfoldable pub is_word : ℕ → Bool
is_word byte = is_nondigit byte || is_digit byte

-- a byte that passes the first test, and behind it bytes that pass the second
unfoldable pub behind : (ℕ → Bool) → (List ℕ → Bool) → List ℕ → Bool
behind first test [] = false
behind first test (byte ∷ others) = first byte && test others

-- bytes that pass the test and don't begin with that byte
unfoldable pub filled : ℕ → (List ℕ → Bool) → List ℕ → Bool
filled close test [] = false
filled close test (byte ∷ others) = not (byte == close) && test (byte ∷ others)

-- identifier (6.4.2.1): a nondigit, then nondigits and digits
unfoldable pub is_identifier : List ℕ → Bool
is_identifier = behind is_nondigit (list_all is_word)

-- one of `e E p P`
unfoldable pub is_exponent : ℕ → Bool
is_exponent byte = (byte == 101) || (byte == 69) || (byte == 112) || (byte == 80)

-- a plus or a minus sign
unfoldable pub is_sign : ℕ → Bool
is_sign byte = (byte == 43) || (byte == 45)

-- what follows the first digit of a number: digits, nondigits, full stops, and signs directly behind `e E p P`
unfoldable pub continues_number : Bool → List ℕ → Bool
continues_number behind_exponent [] = true
continues_number behind_exponent (byte ∷ others) =
    (is_word byte || (byte == full_stop) || (behind_exponent && is_sign byte)) && continues_number (is_exponent byte) others

-- preprocessing number (6.4.8)
unfoldable pub is_number : List ℕ → Bool
is_number spelling =
    behind is_digit (continues_number false) spelling
    || behind (λ byte. byte == full_stop) (behind is_digit (continues_number false)) spelling

-- Whether bytes run up to the quote that closes a literal, on one line. A backslash and the byte behind it belong
-- together (6.4.4.4, 6.4.5).
unfoldable pub closes : ℕ → Bool → List ℕ → Bool
closes quote behind_backslash [] = false
closes quote behind_backslash (byte ∷ others) =
    if byte == newline then false
    else if not behind_backslash && (byte == quote) then length others == 0
    else closes quote (not behind_backslash && (byte == backslash)) others

-- an encoding prefix of one letter: `L`, `u` or `U`
unfoldable pub is_prefix : ℕ → Bool
is_prefix byte = (byte == 76) || (byte == 117) || (byte == 85)

-- character constant without a prefix: at least one character between apostrophes
unfoldable pub is_plain_character : List ℕ → Bool
is_plain_character = behind (λ byte. byte == apostrophe) (filled apostrophe (closes apostrophe false))

-- character constant (6.4.4.4)
unfoldable pub is_character : List ℕ → Bool
is_character spelling = is_plain_character spelling || behind is_prefix is_plain_character spelling

-- string literal without a prefix
unfoldable pub is_plain_literal : List ℕ → Bool
is_plain_literal = behind (λ byte. byte == quotation_mark) (closes quotation_mark false)

-- string literal (6.4.5)
unfoldable pub is_literal : List ℕ → Bool
is_literal spelling =
    is_plain_literal spelling
    || behind is_prefix is_plain_literal spelling
    || behind (λ byte. byte == 117) (behind (λ byte. byte == 56) is_plain_literal) spelling

-- Whether bytes run up to the byte that closes a header name, on one line.
unfoldable pub closes_name : ℕ → List ℕ → Bool
closes_name close [] = false
closes_name close (byte ∷ others) =
    if byte == newline then false else if byte == close then length others == 0 else closes_name close others

-- header name (6.4.7)
unfoldable pub is_header : List ℕ → Bool
is_header spelling =
    behind (λ byte. byte == less) (filled greater (closes_name greater)) spelling
    || behind (λ byte. byte == quotation_mark) (filled quotation_mark (closes_name quotation_mark)) spelling

-- the row of a punctuator (6.4.6)
unfoldable pub punctuator_of : List ℕ → Option ℕ
punctuator_of spelling = position (bytes_eq spelling) punctuator_rows

-- a kind where a test is passed, and else another
abbrev pub kind_if : Bool → PpKind → Option PpKind → Option PpKind
kind_if passed kind other = if passed then Some kind else other

-- a punctuator's kind, and else another
abbrev pub punctuator_or : Option ℕ → Option PpKind → Option PpKind
punctuator_or None other = other
punctuator_or (Some row) other = Some (Punctuator row)

-- The kind of a spelling that is a token of C, header names apart (6.4p1).
unfoldable pub class_of : List ℕ → Option PpKind
class_of spelling =
    kind_if (is_identifier spelling) Identifier
    (kind_if (is_number spelling) Number
    (kind_if (is_character spelling) Character
    (kind_if (is_literal spelling) Literal
    (punctuator_or (punctuator_of spelling) None))))

-- The kind of a spelling that may be a token: where a header name may stand that kind comes first, and a single
-- character that is nothing else is a stray.
unfoldable pub kind_of : Bool → List ℕ → Option PpKind
kind_of header spelling =
    kind_if (header && is_header spelling) Header
    (kind_if (is_identifier spelling) Identifier
    (kind_if (is_number spelling) Number
    (kind_if (is_character spelling) Character
    (kind_if (is_literal spelling) Literal
    (punctuator_or (punctuator_of spelling)
    (kind_if (length spelling == 1) Stray None))))))

-- a kind, unless it is a stray
unfoldable pub without_stray : Option PpKind → Option PpKind
without_stray None = None
without_stray (Some Identifier) = Some Identifier
without_stray (Some Number) = Some Number
without_stray (Some Character) = Some Character
without_stray (Some Literal) = Some Literal
without_stray (Some (Punctuator row)) = Some (Punctuator row)
without_stray (Some Header) = Some Header
without_stray (Some Stray) = None
