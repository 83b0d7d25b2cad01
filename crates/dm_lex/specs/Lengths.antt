-- How long the longest token of each class at the front of a text is, 0 where none stands there.
use Rattle.std.specs.Prelude.{ℕ, suc, Bool, false, not, ◌&&◌, max, nat_le, List, [], ◌∷◌, ◌==◌, if◌then◌else◌}
use Rattle.dm_lex.specs.Classes.{is_word, is_digit, is_nondigit, is_prefix, full_stop, apostrophe, quotation_mark, less, greater}
use Rattle.dm_token.specs.declared.token.PpKind.{PpKind}
use Rattle.dm_token.specs.declared.token.PpKind.TheVariants.{Identifier, Number, Character, Literal, Header}
use Rattle.dm_lex.specs.declared.scan.Found.{Found}
use Rattle.dm_lex.specs.Reach.{beyond, closing, closing_name, run, number_run}

-- behind a first byte that passes a test
unfoldable pub prefixed : (ℕ → Bool) → (List ℕ → ℕ) → List ℕ → ℕ
prefixed first far [] = 0
prefixed first far (byte ∷ others) = if first byte then beyond 1 (far others) else 0

-- the same where nothing has to follow
unfoldable pub led : (ℕ → Bool) → (List ℕ → ℕ) → List ℕ → ℕ
led first far [] = 0
led first far (byte ∷ others) = if first byte then suc (far others) else 0

-- unless the text begins with that byte
unfoldable pub unless_closed : ℕ → (List ℕ → ℕ) → List ℕ → ℕ
unless_closed close far [] = 0
unless_closed close far (byte ∷ others) = if byte == close then 0 else far (byte ∷ others)

-- identifier
unfoldable pub identifier_length : List ℕ → ℕ
identifier_length = led is_nondigit (run is_word)

-- number that begins with a digit
unfoldable pub digits_length : List ℕ → ℕ
digits_length = led is_digit (number_run false)

-- number
unfoldable pub number_length : List ℕ → ℕ
number_length text = max (digits_length text) (prefixed (λ byte. byte == full_stop) digits_length text)

-- character constant without a prefix
unfoldable pub plain_character_length : List ℕ → ℕ
plain_character_length = prefixed (λ byte. byte == apostrophe) (unless_closed apostrophe (closing apostrophe false))

-- character constant
unfoldable pub character_length : List ℕ → ℕ
character_length text = max (plain_character_length text) (prefixed is_prefix plain_character_length text)

-- string literal without a prefix
unfoldable pub plain_literal_length : List ℕ → ℕ
plain_literal_length = prefixed (λ byte. byte == quotation_mark) (closing quotation_mark false)

-- string literal
unfoldable pub literal_length : List ℕ → ℕ
literal_length text =
    max (max (plain_literal_length text) (prefixed is_prefix plain_literal_length text))
    (prefixed (λ byte. byte == 117) (prefixed (λ byte. byte == 56) plain_literal_length) text)

-- header name between these bytes
unfoldable pub name_length : ℕ → ℕ → List ℕ → ℕ
name_length first close = prefixed (λ byte. byte == first) (unless_closed close (closing_name close))

-- header name
unfoldable pub header_length : List ℕ → ℕ
header_length text = max (name_length less greater text) (name_length quotation_mark quotation_mark text)

-- a token of some kind and length
abbrev pub make_found : PpKind → ℕ → Found
make_found kind far = record { kind = kind; length = far }

-- the longest token so far, or a longer or equally long one of another kind
unfoldable pub or_longer : Found → PpKind → ℕ → Found
or_longer found kind far = if nat_le found.length far then make_found kind far else found

-- the longest token at the front of a text, where `found` is the longest among strays and punctuators
unfoldable pub best_of : Bool → List ℕ → Found → Found
best_of header text found =
    or_longer (or_longer (or_longer (or_longer (or_longer found Literal (literal_length text)) Character (character_length text))
    Number (number_length text)) Identifier (identifier_length text)) Header (if header then header_length text else 0)

-- a byte that begins an identifier and nothing else
unfoldable pub is_letter : ℕ → Bool
is_letter byte = is_nondigit byte && not (is_prefix byte)

-- a byte that begins a punctuator or nothing
unfoldable pub is_mark : ℕ → Bool
is_mark byte =
    not (is_word byte) && not (byte == quotation_mark) && not (byte == apostrophe) && not (byte == full_stop) && not (byte == less)
