-- Which lines may stand, by what the lexer answers.
use Rattle.std.proofs.Common.{◌≡◌, ℕ, Bool, true, false, ◌&&◌, List, [], ◌∷◌, Result, Ok, Err, ◌⊎◌, inl, inr, refl, sym, ap, ◌∙◌}
use Rattle.std.specs.List.{list_all}
use Rattle.dm_token.specs.declared.token.PpToken.{PpToken}
use Rattle.dm_token.specs.declared.stop.Refusal.{Refusal}
use Rattle.std.specs.Result.{IfOk}
use Rattle.dm_token.specs.declared.stop.Memory.{Memory}
use Rattle.dm_token.specs.declared.stop.Stop.{Stop}
use Rattle.dm_token.specs.declared.stop.Stop.TheVariants.{Memory as no_memory, Refused, Limit, ReadFault}
use Rattle.dm_phase.specs.declared.Character.{Character}
use Rattle.dm_phase.specs.Answer.{flat_of, unless_refused}
use Rattle.dm_token.specs.Answer.{Stops}
use Rattle.dm_lex.specs.declared.state.State.{State}
use Rattle.dm_lex.specs.Cuts.{Piece, token, blank, comment, state_behind, first_state, Cuts, OpensAt, bytes_of}
use Rattle.dm_lex.specs.Tokens.{tokens_of, AreTokens, StopsAt}
use Rattle.dm_lex.proofs.UniqueLemmas.{one_cut, open_no_cut}
use Rattle.dm_lex.proofs.ExistLemmas.{cut_exists}
use Rattle.dm_manifest.specs.Defines.{may_stand, piece_may_stand, HasCut, HasOpenComment, cut_may_stand, flat_may_stand, line_may_stand, HasGoodCut}
use Rattle.dm_phase.specs.Phases.{flat_text}
use Rattle.std.proofs.lemmas.Bool.{false≢true}

-- a token may stand
abbrev pub token_may_stand : PpToken → Bool
token_may_stand t = may_stand t.kind t.spelling

-- the tokens of pieces may stand where the pieces may
tokens_of-may_stand : (file : ℕ) (bytes : List ℕ) (state : State) (pieces : List Piece) → list_all token_may_stand (tokens_of file bytes state pieces) ≡ list_all piece_may_stand pieces
unfolding tokens_of
tokens_of-may_stand file bytes state [] = refl
tokens_of-may_stand file bytes state (token kind spelling ∷ pieces) = ap (λ b. may_stand kind (bytes_of spelling) && b) (tokens_of-may_stand file bytes (state_behind state (token kind spelling)) pieces)
tokens_of-may_stand file bytes state (blank character ∷ pieces) = tokens_of-may_stand file bytes (state_behind state (blank character)) pieces
tokens_of-may_stand file bytes state (comment text ∷ pieces) = tokens_of-may_stand file bytes (state_behind state (comment text)) pieces

-- any cut of a text decides
cut_decides : (pieces : List Piece) (text : List Character) (has : HasCut text ⊎ HasOpenComment text) → Cuts first_state pieces text → cut_may_stand text has ≡ list_all piece_may_stand pieces
cut_decides pieces text (inl cut) cuts = ap (list_all piece_may_stand) (one_cut first_state cut.0 pieces text cut.1 cuts)
cut_decides pieces text (inr left) cuts = absurd (open_no_cut first_state left.0 pieces text left.1 left.2.0 left.2.1 cuts)

-- an open comment may not stand
comment_decides : (pieces : List Piece) (text left : List Character) (has : HasCut text ⊎ HasOpenComment text) → OpensAt first_state pieces text left → cut_may_stand text has ≡ false
comment_decides pieces text left (inl cut) opens = absurd (open_no_cut first_state pieces cut.0 text left opens.0 opens.1 cut.1)
comment_decides pieces text left (inr other) opens = refl

-- the text of a line decides
text_decides : (file : ℕ) (line : List ℕ) (flat : Result (List Character) Character) (text : List Character) → unless_refused file line flat ≡ Ok text → flat_may_stand flat ≡ cut_may_stand text (cut_exists first_state text)
text_decides file line (Ok other) text e = let same : other ≡ text = cc in ap (λ t. cut_may_stand t (cut_exists first_state t)) same
text_decides file line (Err refused) text e = absurd (cc)

refusal_decides : (file : ℕ) (line : List ℕ) (flat : Result (List Character) Character) (refusal : Refusal) → unless_refused file line flat ≡ Err refusal → flat_may_stand flat ≡ false
refusal_decides file line (Ok other) refusal e = absurd (cc)
refusal_decides file line (Err refused) refusal e = refl

-- what the lexer's tokens say of a line
pub line_by_tokens : (file : ℕ) (line : List ℕ) (text : List Character) (tokens : List PpToken) → flat_of file line ≡ Ok text → AreTokens file line text tokens → list_all token_may_stand tokens ≡ line_may_stand line
unfolding flat_of line_may_stand
line_by_tokens file line text tokens flat are =
    ap (list_all token_may_stand) are.2 ∙ tokens_of-may_stand file line first_state are.0
    ∙ sym (cut_decides are.0 text (cut_exists first_state text) are.1) ∙ sym (text_decides file line _ text flat)

-- what its stop says
by_stop : (file : ℕ) (line : List ℕ) (text : List Character) (stop : Stop) → flat_of file line ≡ Ok text → StopsAt file line text stop → (stop ≡ no_memory → ⊥) → false ≡ line_may_stand line
unfolding flat_of line_may_stand
by_stop file line text no_memory flat stops other = absurd (other refl)
by_stop file line text (Refused refusal) flat stops other = sym (text_decides file line _ text flat ∙ comment_decides stops.0 text stops.1 (cut_exists first_state text) stops.2)
by_stop file line text (Limit limit) flat stops other = absurd stops
by_stop file line text (ReadFault number) flat stops other = absurd stops

-- what a refusal of phases 1 and 2 says
by_refusal : (file : ℕ) (line : List ℕ) (stop : Stop) → Stops stop (flat_of file line) → (stop ≡ no_memory → ⊥) → false ≡ line_may_stand line
unfolding flat_of line_may_stand
by_refusal file line no_memory stops other = absurd (other refl)
by_refusal file line (Refused refusal) stops other = sym (refusal_decides file line _ refusal stops)
by_refusal file line (Limit limit) stops other = absurd stops
by_refusal file line (ReadFault number) stops other = absurd stops

-- an answer to a stop
abbrev pub IsAnswer : Stop → Result Bool Memory → Type 0
IsAnswer stop answer = IfOk answer (λ may. (may ≡ false) × (stop ≡ no_memory → ⊥))

pub line_by_stop : (file : ℕ) (line : List ℕ) (text : List Character) (stop : Stop) (answer : Result Bool Memory) → flat_of file line ≡ Ok text → StopsAt file line text stop → IsAnswer stop answer → IfOk answer (λ may. may ≡ line_may_stand line)
line_by_stop file line text stop (Ok may) flat stops is = is.0 ∙ by_stop file line text stop flat stops is.1
line_by_stop file line text stop (Err memory) flat stops is = tt

pub line_by_refusal : (file : ℕ) (line : List ℕ) (stop : Stop) (answer : Result Bool Memory) → Stops stop (flat_of file line) → IsAnswer stop answer → IfOk answer (λ may. may ≡ line_may_stand line)
line_by_refusal file line stop (Ok may) stops is = is.0 ∙ by_refusal file line stop stops is.1
line_by_refusal file line stop (Err memory) stops is = tt

by_cut : (text : List Character) (has : HasCut text ⊎ HasOpenComment text) → cut_may_stand text has ≡ true → (pieces : List Piece) × Cuts first_state pieces text × (list_all piece_may_stand pieces ≡ true)
by_cut text (inl cut) may = (cut.0, cut.1, may)
by_cut text (inr left) may = absurd (false≢true may)

by_text : (flat : Result (List Character) Character) → flat_may_stand flat ≡ true → (text : List Character) × (pieces : List Piece) × (flat ≡ Ok text) × Cuts first_state pieces text × (list_all piece_may_stand pieces ≡ true)
by_text (Ok text) may = let cut : (pieces : List Piece) × Cuts first_state pieces text × (list_all piece_may_stand pieces ≡ true) = by_cut text (cut_exists first_state text) may in (text, cut.0, refl, cut.1, cut.2)
by_text (Err refused) may = absurd (false≢true may)

-- a line that may stand has a good cut
pub line_has_good_cut : (line : List ℕ) → line_may_stand line ≡ true → HasGoodCut line
unfolding line_may_stand
line_has_good_cut line may = by_text (flat_text line) may

-- and the other way round
pub good_cut_may_stand : (line : List ℕ) → HasGoodCut line → line_may_stand line ≡ true
unfolding line_may_stand
good_cut_may_stand line good = ap flat_may_stand good.2 ∙ cut_decides good.1 good.0 (cut_exists first_state good.0) good.3 ∙ good.4
