-- Tokens of translation phase 7 (6.4): what each preprocessing token becomes, and a list of them.
use Rattle.std.specs.Prelude.{ℕ, ◌∷◌, [], List, Bool, false, ◌||◌, ◌==◌, nat_lt, bytes_eq, position, Option, Some, None, option_map, Result, Ok, Err, ℤ, pos, if◌then◌else◌}
use Rattle.dm_token.specs.declared.stop.Refusal.{Refusal}
use Rattle.dm_token.specs.declared.token.PpKind.{PpKind}
use Rattle.dm_token.specs.declared.token.PpKind.TheVariants.{Identifier, Number, Character, Literal, Punctuator, Header, Stray}
use Rattle.dm_token.specs.declared.token.Token.{Token}
use Rattle.dm_token.specs.declared.token.CToken.{CToken}
use Rattle.dm_token.specs.declared.token.Class.{Class}
use Rattle.dm_token.specs.declared.token.Class.TheVariants.{Keyword, Punctuator as CPunctuator, Identifier as CIdentifier, Integer, Literal as CLiteral}
use Rattle.dm_token.specs.Bytes.{apostrophe, quotation_mark}
use Rattle.dm_token.specs.Refusals as refusals
use Rattle.dm_spell.specs.Tables.{keyword_rows}
use Rattle.dm_spell.specs.Keywords.{auto_word}
use Rattle.dm_spell.specs.Punctuators as rows
use Rattle.dm_int.specs.declared.Kind.{Kind}
use Rattle.dm_int.specs.declared.Kind.TheVariants.{Int}
use Rattle.dm_int.specs.Kinds.{number_of}
use Rattle.dm_ctok.specs.Integers.{integer_of}
use Rattle.dm_ctok.specs.Escapes.{elements, between_quotes, character_of}
use Rattle.dm_ctok.specs.Joins.{joins}

-- a token that stands where the preprocessing token stands
abbrev pub placed : Token → Class → List ℕ → ℤ → ℕ → CToken
placed token class spelling value kind =
    record { class = class; spelling = spelling; value = value; kind = kind; place = token.pp.place; trail = token.trail }

-- one without a value, spelled as before
abbrev pub plain : Token → Class → CToken
plain token class = placed token class token.pp.spelling (pos 0) 0

-- the refusal of this number at the token
abbrev pub refused : Token → ℕ → Refusal
refused token number = record { number = number; detail = 0; place = token.pp.place }

-- the keywords of this row and of those behind it are left out of the language
abbrev pub first_left_out : ℕ
first_left_out = auto_word

-- an identifier with its row in the table of keywords (6.4.1), if it is one
unfoldable pub word : Token → Option ℕ → Result CToken Refusal
word token None = Ok (plain token CIdentifier)
word token (Some row) = if nat_lt row first_left_out then Ok (plain token (Keyword row)) else Err (refused token refusals.out_of_subset)

-- the row of the punctuator as which one behaves (6.4.6p3): `<: :> <% %> %: %:%:` as `[ ] { } # ##`
unfoldable pub behaving : ℕ → ℕ
behaving row =
    if row == rows.left_bracket_digraph then rows.left_bracket
    else if row == rows.right_bracket_digraph then rows.right_bracket
    else if row == rows.left_brace_digraph then rows.left_brace
    else if row == rows.right_brace_digraph then rows.right_brace
    else if row == rows.hash_digraph then rows.hash
    else if row == rows.hash_hash_digraph then rows.hash_hash
    else row

-- a constant, spelled as before: it shall have a value that its type can represent (6.4.4p2)
unfoldable pub valued : Token → Option (ℤ × Kind) → Result CToken Refusal
valued token None = Err (refused token refusals.constant)
valued token (Some constant) = Ok (placed token Integer token.pp.spelling constant.0 (number_of constant.1))

-- a preprocessing number becomes an integer constant (6.4.8p4)
unfoldable pub number : Token → Result CToken Refusal
number token = valued token (option_map (λ integer. (pos integer.0, integer.1)) (integer_of token.pp.spelling))

-- an encoding prefix: the spelling begins with `L`, `u` or `U` (6.4.4.4, 6.4.5)
unfoldable pub is_prefixed : List ℕ → Bool
is_prefixed [] = false
is_prefixed (byte ∷ bytes) = (byte == 76) || (byte == 117) || (byte == 85)

-- a character constant has the type int (6.4.4.4p10)
unfoldable pub character : Token → Result CToken Refusal
character token =
    if is_prefixed token.pp.spelling then Err (refused token refusals.out_of_subset)
    else valued token (option_map (λ value. (value, Int)) (character_of token.pp.spelling))

-- the string literal of these bytes
abbrev pub literal_of : Token → List ℕ → CToken
literal_of token bytes = placed token CLiteral bytes (pos 0) 0

-- a string literal, if its elements have values
unfoldable pub of_values : Token → Option (List ℕ) → Result CToken Refusal
of_values token None = Err (refused token refusals.constant)
of_values token (Some bytes) = Ok (literal_of token bytes)

-- a string literal (6.4.5)
unfoldable pub literal : Token → Result CToken Refusal
literal token = if is_prefixed token.pp.spelling then Err (refused token refusals.out_of_subset) else of_values token (elements (between_quotes token.pp.spelling))

-- one quote alone
unfoldable pub is_quote : List ℕ → Bool
is_quote spelling = bytes_eq spelling (apostrophe ∷ []) || bytes_eq spelling (quotation_mark ∷ [])

-- the number of the refusal of what is no token
abbrev pub stray_number : List ℕ → ℕ
stray_number spelling = if is_quote spelling then refusals.literal else refusals.byte

-- what a preprocessing token of a kind becomes, or its refusal
unfoldable pub of_kind : Token → PpKind → Result CToken Refusal
of_kind token Identifier = word token (position (bytes_eq token.pp.spelling) keyword_rows)
of_kind token Number = number token
of_kind token Character = character token
of_kind token Literal = literal token
of_kind token (Punctuator row) = Ok (plain token (CPunctuator (behaving row)))
of_kind token Header = Err (refused token refusals.byte)
of_kind token Stray = Err (refused token (stray_number token.pp.spelling))

-- what a preprocessing token becomes, or its refusal
unfoldable pub token_of : Token → Result CToken Refusal
token_of token = of_kind token token.pp.kind

-- a token before what others become
abbrev pub before : CToken → Result (List CToken) Refusal → Result (List CToken) Refusal
before first (Ok tokens) = Ok (first ∷ tokens)
before first (Err refusal) = Err refusal

-- a list, of which the first refusal counts
abbrev pub behind_first : Result CToken Refusal → Result (List CToken) Refusal → Result (List CToken) Refusal
behind_first (Ok first) others = before first others
behind_first (Err refusal) others = Err refusal

-- what each of some preprocessing tokens becomes, or the first refusal
unfoldable pub each : List Token → Result (List CToken) Refusal
each [] = Ok []
each (token ∷ tokens) = behind_first (token_of token) (each tokens)

-- adjacent literals joined, where nothing is refused
abbrev pub joined_unless_refused : Result (List CToken) Refusal → Result (List CToken) Refusal
joined_unless_refused (Ok tokens) = Ok (joins tokens)
joined_unless_refused (Err refusal) = Err refusal

-- the tokens of translation phase 7, or the first refusal
unfoldable pub ctokens_of : List Token → Result (List CToken) Refusal
ctokens_of tokens = joined_unless_refused (each tokens)
