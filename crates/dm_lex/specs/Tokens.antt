-- The tokens that a cut gives: their places in the file, and what stands before them.
use Rattle.std.specs.Prelude.{◌≡◌, ◌≢◌, ℕ, Bool, true, false, ◌+◌, List, [], ◌∷◌}
use Rattle.dm_token.specs.declared.token.PpKind.{PpKind}
use Rattle.dm_token.specs.declared.token.PpKind.TheVariants.{Stray}
use Rattle.dm_token.specs.declared.token.PpToken.{PpToken}
use Rattle.dm_token.specs.declared.stop.Refusal.{Refusal}
use Rattle.dm_token.specs.declared.stop.Stop.{Stop}
use Rattle.dm_token.specs.declared.stop.Stop.TheVariants.{Memory, Refused, Limit, ReadFault}
use Rattle.dm_token.specs.Places.{place_of}
use Rattle.dm_token.specs.Refusals as refusals
use Rattle.dm_phase.specs.declared.Character.{Character}
use Rattle.dm_lex.specs.declared.state.Line.{Line}
use Rattle.dm_lex.specs.declared.state.Line.TheVariants.{Start, Hash, Include, Other}
use Rattle.dm_lex.specs.declared.state.State.{State}
use Rattle.dm_lex.specs.Cuts.{Piece, token, blank, comment, bytes_of, state_behind, first_state, Cuts, OpensAt}

-- the offset of the first character
unfoldable pub start_of : List Character → ℕ
start_of [] = 0
start_of (character ∷ others) = character.at

-- the offset after the last character
unfoldable pub end_of : List Character → ℕ
end_of [] = 0
end_of (character ∷ []) = character.at + character.width
end_of (character ∷ next ∷ others) = end_of (next ∷ others)

-- whether no token stands on the line yet
abbrev pub is_start : Line → Bool
is_start Start = true
is_start Hash = false
is_start Include = false
is_start Other = false

-- the token of a kind that these characters spell, in the file of this number
abbrev pub token_from : ℕ → List ℕ → State → PpKind → List Character → PpToken
token_from file bytes state kind spelling =
    record {
      kind = kind;
      spelling = bytes_of spelling;
      place = place_of file bytes (start_of spelling);
      end = end_of spelling;
      blank_before = state.blank;
      line_first = is_start state.line;
    }

-- the tokens among pieces, from a state on
unfoldable pub tokens_of : ℕ → List ℕ → State → List Piece → List PpToken
tokens_of file bytes state [] = []
tokens_of file bytes state (token kind spelling ∷ pieces) =
    token_from file bytes state kind spelling ∷ tokens_of file bytes (state_behind state (token kind spelling)) pieces
tokens_of file bytes state (blank character ∷ pieces) = tokens_of file bytes (state_behind state (blank character)) pieces
tokens_of file bytes state (comment text ∷ pieces) = tokens_of file bytes (state_behind state (comment text)) pieces

-- the refusal of a comment that begins here and doesn't end
abbrev pub refusal_at : ℕ → List ℕ → List Character → Refusal
refusal_at file bytes left = record { number = refusals.comment; detail = 0; place = place_of file bytes (start_of left) }

-- These are the tokens of the one cut of a text.
abbrev pub AreTokens : ℕ → List ℕ → List Character → List PpToken → Type 0
AreTokens file bytes text tokens = (pieces : List Piece) × Cuts first_state pieces text × (tokens ≡ tokens_of file bytes first_state pieces)

-- A comment is open in the text, and this is its refusal.
abbrev pub IsOpenComment : ℕ → List ℕ → List Character → Refusal → Type 0
IsOpenComment file bytes text refusal =
    (pieces : List Piece) × (left : List Character) × OpensAt first_state pieces text left × (refusal ≡ refusal_at file bytes left)

-- A stop while a text is cut: want of memory, or the refusal of an open comment.
abbrev pub StopsAt : ℕ → List ℕ → List Character → Stop → Type 0
StopsAt file bytes text Memory = Unit {0}
StopsAt file bytes text (Refused refusal) = IsOpenComment file bytes text refusal
StopsAt file bytes text (Limit limit) = ⊥
StopsAt file bytes text (ReadFault number) = ⊥

-- The text is one token of this kind, alone, and no stray; no header name can stand there.
abbrev pub IsOneToken : List Character → PpKind → Type 0
IsOneToken text kind = Cuts first_state (token kind text ∷ []) text × (kind ≢ Stray)
