-- The parts of a file: their tokens stand in the file.
--     parts_at      so they do
--     all_indexed      each item of a list has a position
use Rattle.std.specs.Prelude.{◌≡◌, refl, ℕ, suc, Bool, true, false, List, [], ◌∷◌, ◌++◌, Some, slice_get, if◌then◌else◌}
use Rattle.std.specs.Result.{result_unwrap_or}
use Rattle.std.specs.List.{AllByRecursion}
use Rattle.std.proofs.Common.{◌⊎◌, inl, inr, Result, Ok, Err}
use Rattle.dm_token.specs.declared.stop.Refusal.{Refusal}
use Rattle.dm_token.specs.declared.token.PpToken.{PpToken}
use Rattle.dm_phase.specs.Answer.{flat_of}
use Rattle.dm_phase.specs.declared.Character.{Character}
use Rattle.dm_lex.specs.Cuts.{Piece, token, blank, comment, first_state, state_behind, Cuts, OpensAt}
use Rattle.dm_lex.specs.declared.state.State.{State as LexState}
use Rattle.dm_lex.specs.Tokens.{tokens_of}
use Rattle.dm_lex.proofs.ExistLemmas.{cut_exists}
use Rattle.dm_macro.specs.Signs.{is_hash}
use Rattle.dm_unit.specs.Lines.{Part, directive, text, lines_of, in_first_line, is_line_start, parts_of, parts_in, with_text}
use Rattle.dm_unit.specs.Sources.{reading_of, tokens_or_open, tokens_of_flat}

-- all tokens stand in the file of this number
abbrev pub AreIn : ℕ → List PpToken → Type 0
AreIn file tokens = AllByRecursion (λ (t : PpToken). t.place.file ≡ file) tokens

abbrev pub IsPartAt : ℕ → Part → Type 0
IsPartAt file (directive start behind) = AreIn file (start ∷ behind)
IsPartAt file (text tokens) = AreIn file tokens

append_at : (file : ℕ) (front back : List PpToken) → AreIn file front → AreIn file back → AreIn file (front ++ back)
append_at file [] back h k = k
append_at file (t ∷ front) back h k = (h.0, append_at file front back h.1 k)

lines_at : (file : ℕ) (tokens : List PpToken) → AreIn file tokens → AllByRecursion (AreIn file) (lines_of tokens)
unfolding lines_of
lines_at file [] all = tt
lines_at file (t ∷ ts) all = by (is_line_start ts) (lines_of ts) (lines_at file ts all.1)
  where
    joined : (lines : List (List PpToken)) → AllByRecursion (AreIn file) lines → AllByRecursion (AreIn file) (in_first_line t lines)
    joined [] are = ((all.0, tt), tt)
    joined (line ∷ lines) are = ((all.0, are.0), are.1)

    by : (b : Bool) (lines : List (List PpToken)) → AllByRecursion (AreIn file) lines → AllByRecursion (AreIn file) (if b then (t ∷ []) ∷ lines else in_first_line t lines)
    by true lines are = ((all.0, tt), are)
    by false lines are = joined lines are

with_text_at : (file : ℕ) (line : List PpToken) (parts : List Part) → AreIn file line → AllByRecursion (IsPartAt file) parts → AllByRecursion (IsPartAt file) (with_text line parts)
with_text_at file line [] all parts = (all, tt)
with_text_at file line (text tokens ∷ parts) all are = (append_at file line tokens all are.0, are.1)
with_text_at file line (directive start behind ∷ parts) all are = (all, are)

parts_in_at : (file : ℕ) (lines : List (List PpToken)) → AllByRecursion (AreIn file) lines → AllByRecursion (IsPartAt file) (parts_in lines)
unfolding parts_in
parts_in_at file [] all = tt
parts_in_at file ([] ∷ lines) all = parts_in_at file lines all.1
parts_in_at file ((t ∷ ts) ∷ lines) all = by (is_hash t) (parts_in lines) (parts_in_at file lines all.1)
  where
    by : (b : Bool) (parts : List Part) → AllByRecursion (IsPartAt file) parts → AllByRecursion (IsPartAt file) (if b then directive t ts ∷ parts else with_text (t ∷ ts) parts)
    by true parts are = (all.0, are)
    by false parts are = with_text_at file (t ∷ ts) parts all.0 are

-- ---- a file

tokens_at : (file : ℕ) (bytes : List ℕ) (state : LexState) (pieces : List Piece) → AreIn file (tokens_of file bytes state pieces)
unfolding tokens_of
tokens_at file bytes state [] = tt
tokens_at file bytes state (token kind spelling ∷ pieces) = (refl, tokens_at file bytes (state_behind state (token kind spelling)) pieces)
tokens_at file bytes state (blank character ∷ pieces) = tokens_at file bytes (state_behind state (blank character)) pieces
tokens_at file bytes state (comment left ∷ pieces) = tokens_at file bytes (state_behind state (comment left)) pieces

reading_at : (file : ℕ) (bytes : List ℕ) → AreIn file (result_unwrap_or (reading_of file bytes) [])
unfolding reading_of
reading_at file bytes = by (flat_of file bytes)
  where
    cut : (flat : List Character) (found : ((pieces : List Piece) × Cuts first_state pieces flat) ⊎ ((pieces : List Piece) × (left : List Character) × OpensAt first_state pieces flat left))
        → AreIn file (result_unwrap_or (tokens_or_open file bytes flat found) [])
    cut flat (inl pieces) = tokens_at file bytes first_state pieces.0
    cut flat (inr opening) = tt

    by : (flat : Result (List Character) Refusal) → AreIn file (result_unwrap_or (tokens_of_flat file bytes flat) [])
    by (Ok flat) = cut flat (cut_exists first_state flat)
    by (Err refusal) = tt

pub parts_at : (file : ℕ) (bytes : List ℕ) → AllByRecursion (IsPartAt file) (parts_of (result_unwrap_or (reading_of file bytes) []))
unfolding parts_of
parts_at file bytes = parts_in_at file (lines_of (result_unwrap_or (reading_of file bytes) [])) (lines_at file (result_unwrap_or (reading_of file bytes) []) (reading_at file bytes))

-- ---- positions

abbrev pub IsAt : {A : Type 0} → List A → A → Type 0
IsAt items x = (k : ℕ) × (slice_get items k ≡ Some x)

at_weaker : {A : Type 0} (P Q : A → Type 0) → ((x : A) → P x → Q x) → (items : List A) → AllByRecursion P items → AllByRecursion Q items
at_weaker P Q f [] h = tt
at_weaker P Q f (x ∷ items) h = (f x h.0, at_weaker P Q f items h.1)

pub all_indexed : {A : Type 0} (items : List A) → AllByRecursion (IsAt items) items
all_indexed [] = tt
all_indexed (x ∷ items) = ((0, refl), at_weaker (IsAt items) (IsAt (x ∷ items)) (λ y h. (suc h.0, h.1)) items (all_indexed items))
