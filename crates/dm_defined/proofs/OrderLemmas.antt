-- The tokens of a file stand in the order of its bytes, and so do its directives.
--     parts_ascend      so they do
use Rattle.std.specs.Prelude.{◌≡◌, refl, ℕ, ◌+◌, ◌≤◌, Bool, true, false, List, [], ◌∷◌, ◌++◌, length, max, Some, None, if◌then◌else◌}
use Rattle.std.specs.Result.{result_unwrap_or}
use Rattle.std.proofs.Common.{◌⊎◌, inl, inr, Result, Ok, Err, sym, ◌∙◌, subst, arith}
use Rattle.dm_token.specs.declared.stop.Refusal.{Refusal}
use Rattle.dm_token.specs.declared.token.PpToken.{PpToken}
use Rattle.dm_phase.specs.Answer.{flat_of}
use Rattle.dm_phase.specs.PositionLaws.{flat_of-in_order}
use Rattle.dm_phase.specs.Positions.{InOrder, InOrder-behind, InOrder-weaker}
use Rattle.dm_phase.specs.declared.Character.{Character}
use Rattle.dm_lex.specs.Cuts.{Piece, token, blank, comment, allows_header, first_state, state_behind, CutsTo, Cuts, OpensAt}
use Rattle.dm_lex.specs.declared.state.State.{State as LexState}
use Rattle.dm_lex.specs.Tokens.{start_of, tokens_of}
use Rattle.dm_lex.proofs.ExistLemmas.{cut_exists}
use Rattle.dm_lex.proofs.KindLemmas.{kind_of-empty}
use Rattle.dm_macro.specs.Signs.{is_hash}
use Rattle.dm_unit.specs.Lines.{Part, directive, text, lines_of, in_first_line, is_line_start, parts_of, parts_in, with_text}
use Rattle.dm_unit.specs.Sources.{reading_of, tokens_or_open, tokens_of_flat}

-- from a byte on, each behind the one before it
abbrev pub Ascend : ℕ → List PpToken → Type 0
Ascend from [] = Unit {0}
Ascend from (t ∷ ts) = (from ≤ t.place.byte) × Ascend (t.place.byte + 1) ts

-- ---- the tokens of a cut

no_kind : {A : Type 0} (x : A) → None ≡ Some x → ⊥
no_kind x e = cc

in_order_behind : (from end : ℕ) (c : Character) (front rest : List Character) → InOrder from end (c ∷ front ++ rest) → (from ≤ c.at) × InOrder (c.at + 1) end rest
in_order_behind from end c front rest h =
    (h.0, InOrder-behind (c.at + 1) end front rest (InOrder-weaker (c.at + 1) (c.at + max 1 c.width) end (front ++ rest) (omega arith) h.2))

tokens_ascend : (file : ℕ) (bytes : List ℕ) (from end : ℕ) (state : LexState) (pieces : List Piece) (flat left : List Character) → InOrder from end flat → CutsTo state pieces flat left
    → Ascend from (tokens_of file bytes state pieces)
unfolding tokens_of CutsTo start_of
tokens_ascend file bytes from end state [] flat left order cuts = tt
tokens_ascend file bytes from end state (token kind [] ∷ pieces) flat left order cuts =
    absurd (no_kind kind (sym (kind_of-empty (allows_header state)) ∙ cuts.2.kind_is))
tokens_ascend file bytes from end state (token kind (c ∷ front) ∷ pieces) flat left order cuts =
    let split = in_order_behind from end c front cuts.0 (subst (InOrder from end) cuts.1 order) in
    (split.0, tokens_ascend file bytes (c.at + 1) end (state_behind state (token kind (c ∷ front))) pieces cuts.0 left split.1 cuts.3)
tokens_ascend file bytes from end state (blank character ∷ pieces) flat left order cuts =
    tokens_ascend file bytes from end (state_behind state (blank character)) pieces cuts.0 left
    (InOrder-behind from end (character ∷ []) cuts.0 (subst (InOrder from end) cuts.1 order)) cuts.3
tokens_ascend file bytes from end state (comment spelling ∷ pieces) flat left order cuts =
    tokens_ascend file bytes from end (state_behind state (comment spelling)) pieces cuts.0 left (InOrder-behind from end spelling cuts.0 (subst (InOrder from end) cuts.1 order)) cuts.3

reading_ascends : (file : ℕ) (bytes : List ℕ) → Ascend 0 (result_unwrap_or (reading_of file bytes) [])
unfolding reading_of
reading_ascends file bytes = by (flat_of file bytes) refl
  where
    cut : (flat : List Character) → InOrder 0 (length bytes) flat
        → (found : ((pieces : List Piece) × Cuts first_state pieces flat) ⊎ ((pieces : List Piece) × (left : List Character) × OpensAt first_state pieces flat left))
        → Ascend 0 (result_unwrap_or (tokens_or_open file bytes flat found) [])
    cut flat order (inl pieces) = tokens_ascend file bytes 0 (length bytes) first_state pieces.0 flat [] order pieces.1
    cut flat order (inr opening) = tt

    by : (flat : Result (List Character) Refusal) → flat_of file bytes ≡ flat → Ascend 0 (result_unwrap_or (tokens_of_flat file bytes flat) [])
    by (Ok flat) e = cut flat (flat_of-in_order file bytes flat e) (cut_exists first_state flat)
    by (Err refusal) e = tt

-- ---- lines and parts

-- each line begins behind the beginning of the one before it
abbrev LinesAscend : ℕ → List (List PpToken) → Type 0
LinesAscend from [] = Unit {0}
LinesAscend from ([] ∷ lines) = LinesAscend from lines
LinesAscend from ((t ∷ ts) ∷ lines) = (from ≤ t.place.byte) × LinesAscend (t.place.byte + 1) lines

lines_weaker : (from later : ℕ) (lines : List (List PpToken)) → from ≤ later → LinesAscend later lines → LinesAscend from lines
lines_weaker from later [] le h = tt
lines_weaker from later ([] ∷ lines) le h = lines_weaker from later lines le h
lines_weaker from later ((t ∷ ts) ∷ lines) le h = (let begins = h.0 in omega (arith, le, begins), h.1)

lines_ascend : (from : ℕ) (tokens : List PpToken) → Ascend from tokens → LinesAscend from (lines_of tokens)
unfolding lines_of
lines_ascend from [] h = tt
lines_ascend from (t ∷ ts) h = by (is_line_start ts) (lines_of ts) (lines_ascend (t.place.byte + 1) ts h.1)
  where
    joined : (lines : List (List PpToken)) → LinesAscend (t.place.byte + 1) lines → LinesAscend from (in_first_line t lines)
    joined [] k = (h.0, tt)
    joined ([] ∷ lines) k = (h.0, k)
    joined ((u ∷ us) ∷ lines) k = (h.0, lines_weaker (t.place.byte + 1) (u.place.byte + 1) lines (let begins = k.0 in omega (arith, begins)) k.1)

    by : (b : Bool) (lines : List (List PpToken)) → LinesAscend (t.place.byte + 1) lines → LinesAscend from (if b then (t ∷ []) ∷ lines else in_first_line t lines)
    by true lines k = (h.0, k)
    by false lines k = joined lines k

-- so does each directive
abbrev pub PartsAscend : ℕ → List Part → Type 0
PartsAscend from [] = Unit {0}
PartsAscend from (directive start behind ∷ parts) = (from ≤ start.place.byte) × PartsAscend (start.place.byte + 1) parts
PartsAscend from (text tokens ∷ parts) = PartsAscend from parts

parts_weaker : (from later : ℕ) (parts : List Part) → from ≤ later → PartsAscend later parts → PartsAscend from parts
parts_weaker from later [] le h = tt
parts_weaker from later (directive start behind ∷ parts) le h = (let begins = h.0 in omega (arith, le, begins), h.1)
parts_weaker from later (text tokens ∷ parts) le h = parts_weaker from later parts le h

with_text_ascend : (from : ℕ) (line : List PpToken) (parts : List Part) → PartsAscend from parts → PartsAscend from (with_text line parts)
with_text_ascend from line [] h = tt
with_text_ascend from line (text tokens ∷ parts) h = h
with_text_ascend from line (directive start behind ∷ parts) h = h

lines_give : (from : ℕ) (lines : List (List PpToken)) → LinesAscend from lines → PartsAscend from (parts_in lines)
unfolding parts_in
lines_give from [] h = tt
lines_give from ([] ∷ lines) h = lines_give from lines h
lines_give from ((t ∷ ts) ∷ lines) h = by (is_hash t) (parts_in lines) (lines_give (t.place.byte + 1) lines h.1)
  where
    by : (b : Bool) (parts : List Part) → PartsAscend (t.place.byte + 1) parts → PartsAscend from (if b then directive t ts ∷ parts else with_text (t ∷ ts) parts)
    by true parts k = (h.0, k)
    by false parts k = with_text_ascend from (t ∷ ts) parts (parts_weaker from (t.place.byte + 1) parts (let begins = h.0 in omega (arith, begins)) k)

pub parts_ascend : (file : ℕ) (bytes : List ℕ) → PartsAscend 0 (parts_of (result_unwrap_or (reading_of file bytes) []))
unfolding parts_of
parts_ascend file bytes =
    lines_give 0 (lines_of (result_unwrap_or (reading_of file bytes) [])) (lines_ascend 0 (result_unwrap_or (reading_of file bytes) []) (reading_ascends file bytes))
