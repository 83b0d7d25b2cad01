-- The reading of an empty file.
use Rattle.std.proofs.Common.{◌≡◌, ℕ, zero, suc, ◌<◌, true, ◌⊎◌, inl, inr, List, [], ◌∷◌, Some, Result, Ok, refl, sym, ap, subst, arith}
use Rattle.std.specs.FinMap as finite
use Rattle.std.specs.Result.{result_unwrap_or}
use Rattle.dm_token.specs.declared.stop.Refusal.{Refusal}
use Rattle.dm_token.specs.declared.token.PpToken.{PpToken}
use Rattle.dm_phase.specs.declared.Character.{Character}
use Rattle.dm_phase.specs.Phases.{after_phase_1, after_phase_2, flat_text, last_splice, replaced, joined, ended, without_mark, characters_at, spliced}
use Rattle.dm_phase.specs.Answer.{flat_of}
use Rattle.dm_lex.specs.Cuts.{Piece, first_state, Cuts, CutsTo, OpensAt}
use Rattle.dm_lex.specs.Tokens.{tokens_of}
use Rattle.dm_lex.proofs.ExistLemmas.{cut_exists}
use Rattle.dm_lex.proofs.UniqueLemmas.{one_cut, open_no_cut}
use Rattle.dm_ctok.specs.Joins.{joins}
use Rattle.dm_ctok.specs.Tokens.{ctokens_of, each}
use Rattle.dm_search.specs.Loaded.{is_held}
use Rattle.dm_unit.specs.States.{Setting, State}
use Rattle.dm_unit.specs.Sources.{reading_of, tokens_or_open}
use Rattle.dm_unit.specs.Lines.{lines_of, parts_in, parts_of}
use Rattle.dm_unit.specs.Includes.{Searches, sought}
use Rattle.dm_unit.specs.Loaders.{shown}
use Rattle.dm_unit.specs.Readings.{ReadsParts, DoesManifests, ReadsUnit, Enters, most_nested, begun}
use Rattle.dm_unit.specs.Units.{setting_of, state_with}
use Rattle.dm_reading.specs.Layered.{IsLayered}
use Rattle.dm_reading.specs.Syntax.{Stand}
use Rattle.dm_local.specs.Examples as examples
use Rattle.dm_local.specs.Kept.{IsOfLoader, IsReadBy}

pub empty-loader : IsOfLoader examples.known
empty-loader = (((examples.unit.file ∷ [], refl), held), refl)
  where
    held : (file : ℕ) → file < 6 → is_held examples.known file ≡ true
    held zero h = refl
    held (suc zero) h = refl
    held (suc (suc zero)) h = refl
    held (suc (suc (suc zero))) h = refl
    held (suc (suc (suc (suc zero)))) h = refl
    held (suc (suc (suc (suc (suc zero))))) h = refl
    held (suc (suc (suc (suc (suc (suc n)))))) h = absurd (omega (arith, h))

-- an empty file has no tokens
no-pieces : Cuts first_state [] []
unfolding CutsTo
no-pieces = refl

no-tokens : (file : ℕ) (found : ((pieces : List Piece) × Cuts first_state pieces []) ⊎ ((pieces : List Piece) × (left : List Character) × OpensAt first_state pieces [] left)) → tokens_or_open file [] [] found ≡ Ok []
unfolding tokens_of
no-tokens file (inl cut) = ap (λ pieces. Ok (tokens_of file [] first_state pieces)) (one_cut first_state cut.0 [] [] cut.1 no-pieces)
no-tokens file (inr opening) = absurd (open_no_cut first_state opening.0 [] [] opening.1 opening.2.0 opening.2.1 no-pieces)

empty-reading : (file : ℕ) → reading_of file [] ≡ Ok []
unfolding reading_of flat_of flat_text after_phase_1 after_phase_2 last_splice replaced joined ended without_mark characters_at spliced
empty-reading file = no-tokens file (cut_exists first_state [])

abbrev setting : Setting
setting = setting_of examples.known examples.known finite.empty examples.unit

abbrev start : State
start = state_with (shown examples.known)

abbrev final : State
final = record start { files_read = examples.empty_file ∷ [] }

parts : (tokens : Result (List PpToken) Refusal) → tokens ≡ Ok [] → ReadsParts setting (Enters setting most_nested) examples.empty_file (parts_of (result_unwrap_or tokens [])) (begun examples.empty_file start) (Ok (begun examples.empty_file start))
unfolding ReadsParts parts_of parts_in lines_of
parts tokens none =
    subst (λ (ts : Result (List PpToken) Refusal). ReadsParts setting (Enters setting most_nested) examples.empty_file (parts_of (result_unwrap_or ts [])) (begun examples.empty_file start) (Ok (begun examples.empty_file start))) (sym none) refl

reads : ReadsUnit setting examples.unit.file [] start (Ok final)
unfolding ReadsUnit DoesManifests Searches
reads = inr (start, refl, inr (sought (Some examples.empty_file) (shown examples.known), inr (refl, refl, refl), inr (begun examples.empty_file start, parts (reading_of examples.empty_file []) (empty-reading examples.empty_file), refl)))

layered : IsLayered examples.reading
unfolding Stand ctokens_of each joins
layered = (refl, (_, (refl, refl)), (λ later begins. (_, refl, refl)))

pub empty-read : IsReadBy examples.known finite.empty examples.unit examples.reading
empty-read = (refl, (final, ((λ number h. refl), reads), refl, refl), layered)
