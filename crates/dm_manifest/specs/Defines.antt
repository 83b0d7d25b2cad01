-- The form of a define: `NAME`, or `NAME=BODY`.
use Rattle.std.specs.Prelude.{◌≡◌, ℕ, Bool, true, false, ◌+◌, ◌&&◌, ◌||◌, not, ◌==◌, nat_eq, nat_lt, nat_le, List, [], ◌∷◌, ◌++◌, length, take, drop, Option, Some, None, Result, Ok, Err, ◌⊎◌, codes, bytes_eq, is_some, if◌then◌else◌}
use Rattle.std.specs.List.{list_all, starts_with, ends_with, position_or_len}
use Rattle.std.proofs.Common.{inl, inr}
use Rattle.dm_token.specs.declared.token.PpKind.{PpKind}
use Rattle.dm_token.specs.declared.token.PpKind.TheVariants.{Identifier, Number, Character as Constant, Literal, Punctuator, Header, Stray}
use Rattle.dm_phase.specs.declared.Character.{Character}
use Rattle.dm_token.specs.Bytes.{question_mark}
use Rattle.dm_token.specs.Limits.{source_length_limit}
use Rattle.dm_phase.specs.Phases.{flat_text, replacement}
use Rattle.dm_lex.specs.Classes.{is_identifier}
use Rattle.dm_lex.specs.Cuts.{Piece, token, blank, comment, bytes_of, first_state, Cuts, OpensAt}
use Rattle.dm_lex.proofs.ExistLemmas.{cut_exists}

-- the byte between the name and the body
abbrev pub is_equals_sign : ℕ → Bool
is_equals_sign byte = byte == 61

-- the offset of the first `=`, or the length where there is none
abbrev pub name_length : List ℕ → ℕ
name_length define = position_or_len is_equals_sign define

-- the name: the bytes before the first `=`
abbrev pub name_of : List ℕ → List ℕ
name_of define = take (name_length define) define

-- the body, if there is one: the bytes behind the first `=`
abbrev pub body_of : List ℕ → Option (List ℕ)
body_of define = if nat_lt (name_length define) (length define) then Some (drop (name_length define + 1) define) else None

-- a blank or a visible ASCII character
abbrev pub is_printable : ℕ → Bool
is_printable byte = nat_le 32 byte && nat_le byte 126

-- whether a test is passed by what begins somewhere in bytes
unfoldable pub somewhere : (List ℕ → Bool) → List ℕ → Bool
somewhere test [] = false
somewhere test (byte ∷ bytes) = test (byte ∷ bytes) || somewhere test bytes

-- whether bytes begin with a trigraph (5.2.1.1)
abbrev pub opens_trigraph : List ℕ → Bool
opens_trigraph (first ∷ second ∷ third ∷ bytes) = (first == question_mark) && (second == question_mark) && is_some (replacement third)
opens_trigraph bytes = false

-- whether bytes begin with what may stand nowhere in a body: `##`, in either spelling (6.4.6p3), or a trigraph
unfoldable pub opens_forbidden : List ℕ → Bool
opens_forbidden bytes = starts_with nat_eq bytes (codes "##") || starts_with nat_eq bytes (codes "%:%:") || opens_trigraph bytes

-- the bytes of a body: printable ones, without what is forbidden, and no backslash at the end
unfoldable pub is_plain : List ℕ → Bool
is_plain body = list_all is_printable body && not (somewhere opens_forbidden body) && not (ends_with nat_eq body (codes "\\"))

-- the line in which a body is cut into tokens; any name would do in the place of N (6.10.3p9)
abbrev pub line_of : List ℕ → List ℕ
line_of body = codes "#define N " ++ body

-- whether bytes are a quote
abbrev pub is_quote : List ℕ → Bool
is_quote spelling = bytes_eq spelling (codes "'") || bytes_eq spelling (codes "\"")

-- whether a token may stand in a define: a quote that doesn't close and `__VA_ARGS__` may not
abbrev pub may_stand : PpKind → List ℕ → Bool
may_stand Stray spelling = not (is_quote spelling)
may_stand Identifier spelling = not (bytes_eq spelling (codes "__VA_ARGS__"))
may_stand Number spelling = true
may_stand Constant spelling = true
may_stand Literal spelling = true
may_stand (Punctuator row) spelling = true
may_stand Header spelling = true

-- whether a piece of a text may
abbrev pub piece_may_stand : Piece → Bool
piece_may_stand (token kind spelling) = may_stand kind (bytes_of spelling)
piece_may_stand (blank character) = true
piece_may_stand (comment text) = true

-- a cut of a text
abbrev pub HasCut : List Character → Type 0
HasCut text = (pieces : List Piece) × Cuts first_state pieces text

-- a comment that is open in a text
abbrev pub HasOpenComment : List Character → Type 0
HasOpenComment text = (pieces : List Piece) × (left : List Character) × OpensAt first_state pieces text left

-- Whether the cut of a text has only such pieces. Where a comment is open there is no cut.
abbrev pub cut_may_stand : (text : List Character) → HasCut text ⊎ HasOpenComment text → Bool
cut_may_stand text (inl cut) = list_all piece_may_stand cut.0
cut_may_stand text (inr open') = false

-- the same of a text after translation phases 1 and 2, if there is one
abbrev pub flat_may_stand : {E : Type 0} → Result (List Character) E → Bool
flat_may_stand (Ok text) = cut_may_stand text (cut_exists first_state text)
flat_may_stand (Err refused) = false

-- Whether a line has no comment that is open, no quote that doesn't close, and no `__VA_ARGS__`.
unfoldable pub line_may_stand : List ℕ → Bool
line_may_stand line = flat_may_stand (flat_text line)

-- What that says, in the words of the cut: the line has a text after phases 1 and 2, and a cut of such pieces alone.
abbrev pub HasGoodCut : List ℕ → Type 0
HasGoodCut line =
    (text : List Character) × (pieces : List Piece) × (flat_text line ≡ Ok text) × Cuts first_state pieces text × (list_all piece_may_stand pieces ≡ true)

-- a body, with a bound on its length that no manifest of a file's length reaches
unfoldable pub is_body : List ℕ → Bool
is_body body = is_plain body && nat_le (length (line_of body)) source_length_limit && line_may_stand (line_of body)

-- a body, or none
abbrev pub may_follow : Option (List ℕ) → Bool
may_follow None = true
may_follow (Some body) = is_body body

-- a define: an identifier, alone or with `=` and a body, with a bound on its length that no manifest of a file's length
-- reaches
unfoldable pub is_define : List ℕ → Bool
is_define define = nat_le (length define) source_length_limit && is_identifier (name_of define) && may_follow (body_of define)
