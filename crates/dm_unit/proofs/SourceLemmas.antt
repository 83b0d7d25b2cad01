-- The tokens of a file are those of its one cut, or it is refused.
use Rattle.std.proofs.Common.{◌≡◌, ℕ, ◌⊎◌, inl, inr, List, Result, Ok, Err, IfOk, IfErr, refl, sym, ap, ◌∙◌}
use Rattle.dm_token.specs.declared.token.PpToken.{PpToken}
use Rattle.dm_token.specs.declared.stop.Refusal.{Refusal}
use Rattle.dm_phase.specs.declared.Character.{Character}
use Rattle.dm_token.specs.declared.stop.Stop.{Stop}
use Rattle.dm_token.specs.declared.stop.Stop.TheVariants.{Memory, Refused, Limit, ReadFault}
use Rattle.dm_phase.specs.Answer.{flat_of}
use Rattle.dm_token.specs.Answer as told
use Rattle.dm_lex.specs.Cuts.{Piece, first_state, Cuts, OpensAt}
use Rattle.dm_lex.specs.Tokens.{tokens_of, refusal_at, AreTokens, IsOpenComment, StopsAt}
use Rattle.dm_lex.proofs.ExistLemmas.{cut_exists}
use Rattle.dm_lex.proofs.UniqueLemmas.{one_cut, open_no_cut, open_same}
use Rattle.dm_search.specs.Readable.{AreTokensOf, IsRefusedAs}
use Rattle.dm_unit.specs.Views.{ReadingStops}
use Rattle.dm_unit.specs.Sources.{tokens_or_open, tokens_of_flat, reading_of}

abbrev Found : List Character → Type 0
Found text = ((pieces : List Piece) × Cuts first_state pieces text) ⊎ ((pieces : List Piece) × (left : List Character) × OpensAt first_state pieces text left)

-- the tokens of a cut
cut-is : (file : ℕ) (bytes : List ℕ) (text : List Character) (tokens : List PpToken) (found : Found text) → AreTokens file bytes text tokens → tokens_or_open file bytes text found ≡ Ok tokens
cut-is file bytes text tokens (inl cut) are = ap (λ ps. Ok (tokens_of file bytes first_state ps)) (one_cut first_state cut.0 are.0 text cut.1 are.1) ∙ ap Ok (sym are.2)
cut-is file bytes text tokens (inr opening) are = absurd (open_no_cut first_state opening.0 are.0 text opening.1 opening.2.0 opening.2.1 are.1)

-- the refusal of an open comment
open-is : (file : ℕ) (bytes : List ℕ) (text : List Character) (refusal : Refusal) (found : Found text) → IsOpenComment file bytes text refusal → tokens_or_open file bytes text found ≡ Err refusal
open-is file bytes text refusal (inl cut) is = absurd (open_no_cut first_state is.0 cut.0 text is.1 is.2.0 is.2.1 cut.1)
open-is file bytes text refusal (inr opening) is =
    ap (λ left. Err (refusal_at file bytes left)) (open_same first_state opening.0 is.0 text opening.1 is.1 opening.2.0 opening.2.1 is.2.0 is.2.1).1 ∙ ap Err (sym is.3)

pub reading-tokens : (file : ℕ) (bytes : List ℕ) (tokens : List PpToken) → AreTokensOf file bytes tokens → reading_of file bytes ≡ Ok tokens
unfolding reading_of
reading-tokens file bytes tokens are = ap (tokens_of_flat file bytes) are.1 ∙ cut-is file bytes are.0 tokens (cut_exists first_state are.0) are.2

pub reading-flat : (file : ℕ) (bytes : List ℕ) (refusal : Refusal) → flat_of file bytes ≡ Err refusal → reading_of file bytes ≡ Err refusal
unfolding reading_of
reading-flat file bytes refusal is = ap (tokens_of_flat file bytes) is

pub reading-open : (file : ℕ) (bytes : List ℕ) (text : List Character) (refusal : Refusal) → flat_of file bytes ≡ Ok text → IsOpenComment file bytes text refusal → reading_of file bytes ≡ Err refusal
unfolding reading_of
reading-open file bytes text refusal flat is = ap (tokens_of_flat file bytes) flat ∙ open-is file bytes text refusal (cut_exists first_state text) is

pub reading-refused : (file : ℕ) (bytes : List ℕ) (refusal : Refusal) → IsRefusedAs file bytes refusal → reading_of file bytes ≡ Err refusal
reading-refused file bytes refusal (inl flat) = reading-flat file bytes refusal flat
reading-refused file bytes refusal (inr is) = reading-open file bytes is.0 refusal is.1 is.2

pub flat-stops : (file : ℕ) (bytes : List ℕ) (stop : Stop) → told.Stops stop (flat_of file bytes) → ReadingStops file bytes stop
flat-stops file bytes Memory stops = tt
flat-stops file bytes (Refused refusal) stops = (refusal, reading-flat file bytes refusal stops, refl)
flat-stops file bytes (Limit passed) stops = absurd stops
flat-stops file bytes (ReadFault number) stops = absurd stops

pub open-stops : (file : ℕ) (bytes : List ℕ) (text : List Character) (stop : Stop) → flat_of file bytes ≡ Ok text → StopsAt file bytes text stop → ReadingStops file bytes stop
open-stops file bytes text Memory flat stops = tt
open-stops file bytes text (Refused refusal) flat stops = (refusal, reading-open file bytes text refusal flat stops, refl)
open-stops file bytes text (Limit passed) flat stops = absurd stops
open-stops file bytes text (ReadFault number) flat stops = absurd stops

pub read-result : (file : ℕ) (bytes : List ℕ) (text : List Character) (result : Result (List PpToken) Stop) → flat_of file bytes ≡ Ok text → IfOk result (λ tokens. AreTokens file bytes text tokens)
    → IfOk result (λ tokens. reading_of file bytes ≡ Ok tokens)
read-result file bytes text (Ok tokens) flat are = reading-tokens file bytes tokens (text, flat, are)
read-result file bytes text (Err stop) flat are = tt

pub read-stops : (file : ℕ) (bytes : List ℕ) (text : List Character) (result : Result (List PpToken) Stop) → flat_of file bytes ≡ Ok text → IfErr result (λ stop. StopsAt file bytes text stop)
    → IfErr result (ReadingStops file bytes)
read-stops file bytes text (Ok tokens) flat stops = tt
read-stops file bytes text (Err stop) flat stops = open-stops file bytes text stop flat stops
