-- Which bytes can be read as preprocessing tokens, and how others are refused.
use Rattle.std.specs.Prelude.{◌≡◌, ℕ, ◌≤◌, ◌⊎◌, List, length, Ok, Err}
use Rattle.dm_token.specs.declared.token.PpToken.{PpToken}
use Rattle.dm_token.specs.declared.stop.Refusal.{Refusal}
use Rattle.dm_token.specs.declared.stop.Stop.{Stop}
use Rattle.dm_token.specs.declared.stop.Stop.TheVariants.{Memory, Refused, Limit, ReadFault}
use Rattle.dm_phase.specs.declared.Character.{Character}
use Rattle.dm_phase.specs.Answer.{flat_of}
use Rattle.dm_token.specs.Limits.{source_length_limit}
use Rattle.dm_lex.specs.Tokens.{AreTokens, IsOpenComment}

-- these are the tokens of the file of this number with these bytes
abbrev pub AreTokensOf : ℕ → List ℕ → List PpToken → Type 0
AreTokensOf file bytes tokens = (text : List Character) × (flat_of file bytes ≡ Ok text) × AreTokens file bytes text tokens

-- bytes that are short enough, and are tokens
abbrev pub IsReadable : ℕ → List ℕ → Type 0
IsReadable file bytes = (length bytes ≤ source_length_limit) × (tokens : List PpToken) × AreTokensOf file bytes tokens

-- Bytes are refused: their last newline is deleted, or else a comment in them is open.
abbrev pub IsRefusedAs : ℕ → List ℕ → Refusal → Type 0
IsRefusedAs file bytes refusal =
    (flat_of file bytes ≡ Err refusal) ⊎ ((text : List Character) × (flat_of file bytes ≡ Ok text) × IsOpenComment file bytes text refusal)

-- a stop while bytes are read: want of memory, or their refusal
abbrev pub StopsReading : ℕ → List ℕ → Stop → Type 0
StopsReading file bytes Memory = Unit {0}
StopsReading file bytes (Refused refusal) = IsRefusedAs file bytes refusal
StopsReading file bytes (Limit limit) = ⊥
StopsReading file bytes (ReadFault number) = ⊥
