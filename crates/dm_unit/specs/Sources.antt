-- The tokens of a file (5.1.1.2p1, phases 1 to 3).
--     reading_of file bytes      the tokens of the file of this number with these bytes, or their refusal as 8 or 2
--     bytes_in, tokens_in      those of a file by its number
use Rattle.std.specs.Prelude.{ℕ, ◌⊎◌, List, [], Result, Ok, Err, unwrap_or, slice_index_or}
use Rattle.std.specs.Result.{result_unwrap_or}
use Rattle.std.proofs.Common.{inl, inr}
use Rattle.dm_token.specs.declared.token.PpToken.{PpToken}
use Rattle.dm_token.specs.declared.stop.Refusal.{Refusal}
use Rattle.dm_phase.specs.declared.Character.{Character}
use Rattle.dm_phase.specs.Answer.{flat_of}
use Rattle.dm_lex.specs.Cuts.{Piece, first_state, Cuts, OpensAt}
use Rattle.dm_lex.specs.Tokens.{tokens_of, refusal_at}
use Rattle.dm_lex.proofs.ExistLemmas.{cut_exists}
use Rattle.dm_unit.specs.States.{Setting, Catalogue}

-- the tokens of the cut of a text, or the refusal of the comment that is open in it
abbrev pub tokens_or_open : ℕ → List ℕ → (text : List Character) →
    ((pieces : List Piece) × Cuts first_state pieces text) ⊎ ((pieces : List Piece) × (left : List Character) × OpensAt first_state pieces text left)
    → Result (List PpToken) Refusal
tokens_or_open file bytes text (inl cut) = Ok (tokens_of file bytes first_state cut.0)
tokens_or_open file bytes text (inr opening) = Err (refusal_at file bytes opening.1)

-- the tokens of a text after phases 1 and 2, if there is one
abbrev pub tokens_of_flat : ℕ → List ℕ → Result (List Character) Refusal → Result (List PpToken) Refusal
tokens_of_flat file bytes (Ok text) = tokens_or_open file bytes text (cut_exists first_state text)
tokens_of_flat file bytes (Err refusal) = Err refusal

-- the tokens of the file of this number with these bytes, or their refusal
unfoldable pub reading_of : ℕ → List ℕ → Result (List PpToken) Refusal
reading_of file bytes = tokens_of_flat file bytes (flat_of file bytes)

-- the bytes of the file of a number
abbrev pub bytes_in : Setting → Catalogue → ℕ → List ℕ
bytes_in setting files file = unwrap_or (setting.source (slice_index_or files.names file [])) []

-- its tokens
abbrev pub tokens_in : Setting → Catalogue → ℕ → List PpToken
tokens_in setting files file = result_unwrap_or (reading_of file (bytes_in setting files file)) []
