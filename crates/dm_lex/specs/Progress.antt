-- How far a text is cut, and what is known of it.
use Rattle.std.specs.Prelude.{◌≡◌, ℕ, ◌<◌, ◌≤◌, List, [], ◌∷◌, length, drop, slice_index_or}
use Rattle.dm_token.specs.declared.place.Place.{Place}
use Rattle.dm_token.specs.declared.token.PpToken.{PpToken}
use Rattle.dm_token.specs.Limits.{source_length_limit}
use Rattle.dm_token.specs.Places.{place_of}
use Rattle.dm_phase.specs.declared.Character.{Character}
use Rattle.dm_phase.specs.declared.cursor.Cursor.{Cursor}
use Rattle.dm_phase.specs.Positions.{InOrder}
use Rattle.dm_phase.specs.Walking.{ahead, IsSound}
use Rattle.dm_lex.specs.declared.state.State.{State}
use Rattle.dm_lex.specs.declared.lexer.Source.{Source}
use Rattle.dm_lex.specs.declared.lexer.Lexer.{Lexer}
use Rattle.dm_lex.specs.Classes.{apostrophe, quotation_mark}
use Rattle.dm_lex.specs.Cuts.{Piece, bytes_of, state_behind, first_state, CutsTo}
use Rattle.dm_lex.specs.Reach.{StaysOpen}
use Rattle.dm_lex.specs.Tokens.{tokens_of}

-- a character that stands for none
abbrev pub no_character : Character
no_character = record { byte = 0; at = 0; width = 0 }

-- the offset of the character with this number
abbrev pub offset_of : List Character → ℕ → ℕ
offset_of text k = (slice_index_or text k no_character).at

-- the text is that of the file
pub record IsSource (source : Source) : Type 0 where
  pub text : source.text.now ≡ bytes_of source.flat.now.characters
  pub in_order : InOrder 0 (length source.bytes.now) source.flat.now.characters
  pub short : length source.bytes.now ≤ source_length_limit

-- the state behind pieces
unfoldable pub state_after : State → List Piece → State
state_after state [] = state
state_after state (piece ∷ pieces) = state_after (state_behind state piece) pieces

-- the pieces cut the first `at` characters, leave the state, and give the tokens
pub record HasCut (file : ℕ) (bytes : List ℕ) (text : List Character) (at : ℕ) (state : State) (tokens : List PpToken) (pieces : List Piece) : Type 0 where
  pub cut : CutsTo first_state pieces text (drop at text)
  pub state_is : state_after first_state pieces ≡ state
  pub tokens_are : tokens_of file bytes first_state pieces ≡ tokens

-- the place is one of the file, and not behind a character that is left
pub record IsHere (file : ℕ) (bytes : List ℕ) (text : List Character) (at : ℕ) (here : Place) : Type 0 where
  pub is : here ≡ place_of file bytes here.byte
  pub before : (k : ℕ) → at ≤ k → k < length text → here.byte ≤ offset_of text k

-- the first characters are cut, and these are the tokens among them
pub record IsProgress (source : Source) (lexer : Lexer) : Type 0 where
  pub inside : lexer.at ≤ length source.flat.now.characters
  pub pieces : (pieces : List Piece) × HasCut source.file source.bytes.now source.flat.now.characters lexer.at lexer.state lexer.tokens.items pieces
  pub single : StaysOpen apostrophe source.text.now lexer.at lexer.single
  pub double : StaysOpen quotation_mark source.text.now lexer.at lexer.double
  pub here : IsHere source.file source.bytes.now source.flat.now.characters lexer.at lexer.here

-- the cursor has the characters from its number on, which isn't above `at`
pub record IsBefore (text : List Character) (at : ℕ) (cursor : Cursor) : Type 0 where
  pub sound : IsSound cursor
  pub left : ahead cursor ≡ drop cursor.index text
  pub before : cursor.index ≤ at
