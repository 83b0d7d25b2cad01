-- The cut of a text into preprocessing tokens, blanks and comments (5.1.1.2p1 phase 3, 6.4).
use Rattle.std.specs.Prelude.{◌≡◌, ℕ, Bool, true, false, ◌≤◌, ◌&&◌, ◌||◌, not, ◌==◌, List, [], ◌∷◌, ◌++◌, map, length, take, codes, bytes_eq, Some, is_some, if◌then◌else◌}
use Rattle.std.specs.List.{list_all}
use Rattle.dm_token.specs.declared.token.PpKind.{PpKind}
use Rattle.dm_token.specs.Places.{newline}
use Rattle.dm_phase.specs.declared.Character.{Character}
use Rattle.dm_lex.specs.declared.state.Line.{Line}
use Rattle.dm_lex.specs.declared.state.Line.TheVariants.{Start, Hash, Include, Other}
use Rattle.dm_lex.specs.declared.state.State.{State}
use Rattle.dm_lex.specs.Classes.{slash, asterisk, behind, kind_of}

-- a piece of a text: a token of some kind, one blank, or a comment
pub data Piece : Type 0 where
  token : PpKind → List Character → Piece
  blank : Character → Piece
  comment : List Character → Piece

-- the characters of a piece
abbrev pub characters_of : Piece → List Character
characters_of (token kind spelling) = spelling
characters_of (blank character) = character ∷ []
characters_of (comment text) = text

-- the bytes of characters
abbrev pub bytes_of : List Character → List ℕ
bytes_of text = map (λ character. character.byte) text

-- white space (6.4p3): space, tab, vertical tab, form feed and newline
unfoldable pub is_blank : ℕ → Bool
is_blank byte = (byte == 32) || (byte == 9) || (byte == 11) || (byte == 12) || (byte == newline)

-- a byte that ends no line
unfoldable pub is_within_line : ℕ → Bool
is_within_line byte = not (byte == newline)

-- whether bytes run through the first `*/` in them, counted from behind `/*`
unfoldable pub ends_comment : Bool → List ℕ → Bool
ends_comment behind_asterisk [] = false
ends_comment behind_asterisk (byte ∷ others) =
    if behind_asterisk && (byte == slash) then length others == 0 else ends_comment (byte == asterisk) others

-- a comment from `/*` through `*/` (6.4.9p1)
unfoldable pub is_block_comment : List ℕ → Bool
is_block_comment = behind (λ byte. byte == slash) (behind (λ byte. byte == asterisk) (ends_comment false))

-- a comment from `//` on, within a line (6.4.9p2)
unfoldable pub is_line_comment : List ℕ → Bool
is_line_comment = behind (λ byte. byte == slash) (behind (λ byte. byte == slash) (list_all is_within_line))

-- whether a line ends at the front of a text
unfoldable pub is_line_end : List ℕ → Bool
is_line_end [] = true
is_line_end (byte ∷ others) = byte == newline

-- a comment, with what follows it: a line comment runs up to the line's end
unfoldable pub is_comment : List ℕ → List ℕ → Bool
is_comment text rest = is_block_comment text || (is_line_comment text && is_line_end rest)

-- whether a text begins with `/*`
unfoldable pub opens_block : List ℕ → Bool
opens_block = behind (λ byte. byte == slash) (behind (λ byte. byte == asterisk) (λ others. true))

-- whether a text begins with `//`
unfoldable pub opens_line : List ℕ → Bool
opens_line = behind (λ byte. byte == slash) (behind (λ byte. byte == slash) (λ others. true))

-- whether a text begins with a blank
unfoldable pub opens_blank : List ℕ → Bool
opens_blank = behind is_blank (λ others. true)

-- A token at the front of a text: it has that kind, no longer front of the text is of any kind, and neither a blank
-- nor a comment begins there.
pub record IsToken (header : Bool) (kind : PpKind) (spelling rest : List ℕ) : Type 0 where
  pub kind_is : kind_of header spelling ≡ Some kind
  pub longest : (n : ℕ) → n ≤ length (spelling ++ rest) → is_some (kind_of header (take n (spelling ++ rest))) ≡ true → n ≤ length spelling
  pub no_blank : opens_blank (spelling ++ rest) ≡ false
  pub no_block : opens_block (spelling ++ rest) ≡ false
  pub no_line : opens_line (spelling ++ rest) ≡ false

-- a piece at the front of a text, with what follows it
abbrev pub IsPiece : Bool → Piece → List Character → Type 0
IsPiece header (token kind spelling) rest = IsToken header kind (bytes_of spelling) (bytes_of rest)
IsPiece header (blank character) rest = is_blank character.byte ≡ true
IsPiece header (comment text) rest = is_comment (bytes_of text) (bytes_of rest) ≡ true

-- whether a header name may stand next: directly behind `#include`
abbrev pub allows_header : State → Bool
allows_header state = is_include state.line
  where
    is_include : Line → Bool
    is_include Include = true
    is_include Start = false
    is_include Hash = false
    is_include Other = false

-- how far a line has come behind a token: the first may be `#` or `%:`, and the next `include`
unfoldable pub line_behind : Line → List ℕ → Line
line_behind Start spelling = if bytes_eq spelling (codes "#") || bytes_eq spelling (codes "%:") then Hash else Other
line_behind Hash spelling = if bytes_eq spelling (codes "include") then Include else Other
line_behind Include spelling = Other
line_behind Other spelling = Other

-- the state behind a piece: a newline outside comments begins a line
unfoldable pub state_behind : State → Piece → State
state_behind state (token kind spelling) = record { line = line_behind state.line (bytes_of spelling); blank = false }
state_behind state (blank character) = record { line = if character.byte == newline then Start else state.line; blank = true }
state_behind state (comment text) = record { line = state.line; blank = true }

-- the state at the beginning of a file
abbrev pub first_state : State
first_state = record { line = Start; blank = true }

-- the pieces cut a text up to what is left of it
unfoldable pub CutsTo : State → List Piece → List Character → List Character → Type 0
CutsTo state [] text left = text ≡ left
CutsTo state (piece ∷ pieces) text left =
    (rest : List Character) × (text ≡ characters_of piece ++ rest) × IsPiece (allows_header state) piece rest × CutsTo (state_behind state piece) pieces rest left

-- The pieces cut a whole text.
abbrev pub Cuts : State → List Piece → List Character → Type 0
Cuts state pieces text = CutsTo state pieces text []

-- A block comment begins at the front of a text and doesn't end.
abbrev pub IsOpen : List ℕ → Type 0
IsOpen text = (opens_block text ≡ true) × ((n : ℕ) → n ≤ length text → is_block_comment (take n text) ≡ false)

-- Behind these pieces a block comment is open, and this is what is left of the text from there on.
abbrev pub OpensAt : State → List Piece → List Character → List Character → Type 0
OpensAt state pieces text left = CutsTo state pieces text left × IsOpen (bytes_of left)
