-- The tokens of a file stand one behind the other in its bytes, and so do those of each of its directives.
use Rattle.std.proofs.Common.{◌≡◌, ℕ, zero, suc, ◌+◌, ◌<◌, ◌≤◌, max, Bool, true, false, cond, ◌&&◌, ◌||◌, ◌⊎◌, inl, inr, List, [], ◌∷◌, ◌++◌, length, Option, None, Some, Result, Ok, Err, get_or, slice_get, eqb, refl, sym, ap, ◌∙◌, subst, arith, true≢false}
use Rattle.std.specs.List.{AllByRecursion}
use Rattle.std.specs.Result.{result_unwrap_or}
use Rattle.dm_token.specs.Bytes.{newline, question_mark}
use Rattle.dm_token.specs.declared.stop.Refusal.{Refusal}
use Rattle.dm_token.specs.declared.token.PpKind.{PpKind}
use Rattle.dm_token.specs.declared.token.PpToken.{PpToken}
use Rattle.dm_phase.specs.Answer.{flat_of, unless_refused}
use Rattle.dm_phase.specs.Phases.{flat_text}
use Rattle.dm_phase.specs.PositionLaws.{flat_of-in_order}
use Rattle.dm_phase.specs.Positions.{InOrder, InOrder-behind, InOrder-weaker}
use Rattle.dm_phase.specs.declared.Character.{Character}
use Rattle.dm_lex.specs.Classes.{behind}
use Rattle.dm_lex.specs.Cuts.{Piece, token, blank, comment, bytes_of, is_blank, opens_blank, first_state, state_behind, allows_header, CutsTo, Cuts, OpensAt}
use Rattle.dm_lex.specs.Tokens.{start_of, end_of, tokens_of}
use Rattle.dm_lex.specs.declared.state.State.{State as LexState}
use Rattle.dm_lex.proofs.ExistLemmas.{cut_exists}
use Rattle.dm_lex.proofs.KindLemmas.{kind_of-empty}
use Rattle.dm_macro.specs.Signs.{is_hash}
use Rattle.dm_unit.specs.Lines.{Part, directive, text, lines_of, in_first_line, is_line_start, parts_of, parts_in, with_text}
use Rattle.dm_unit.specs.Sources.{reading_of, tokens_or_open, tokens_of_flat}
use Rattle.dm_edit.specs.Cuts.{is_blank as is_gap}
use Rattle.dm_inside.proofs.ShownLemmas.{Shown, AllShown, text-shown}

module _ (bytes : List ℕ) where
  -- tokens that stand one behind the other from a byte on, none of which begins with a space or a tab
  abbrev pub Row : ℕ → List PpToken → Type 0
  Row from [] = Unit {0}
  Row from (t ∷ ts) = (from ≤ t.place.byte) × (t.place.byte < t.end) × (t.end ≤ length bytes) × (is_gap (get_or bytes t.place.byte 0) ≡ false) × Row t.end ts

  pub row-weaker : (first later : ℕ) (ts : List PpToken) → first ≤ later → Row later ts → Row first ts
  row-weaker first later [] h row = tt
  row-weaker first later (t ∷ ts) h row = (omega (arith, h, row.0), row.1, row.2, row.3, row.4)

  -- THE CHARACTERS OF A TOKEN

  ends : (from end : ℕ) (c : Character) (spelling rest : List Character) → InOrder from end (c ∷ spelling ++ rest) → (c.at ≤ end_of (c ∷ spelling)) × (end_of (c ∷ spelling) ≤ end) × InOrder (end_of (c ∷ spelling)) end rest
  unfolding end_of
  ends from end c [] rest order = (omega arith, order.1, InOrder-weaker (c.at + c.width) (c.at + max 1 c.width) end rest (omega arith) order.2)
  ends from end c (d ∷ spelling) rest order =
      let more = ends (c.at + max 1 c.width) end d spelling rest order.2 in
      let next = order.2.0 in
      (omega (arith, more.0, next), more.1, more.2)

  wide : (from end : ℕ) (c : Character) (spelling rest : List Character) → 1 ≤ c.width → InOrder from end (c ∷ spelling ++ rest) → c.at < end_of (c ∷ spelling)
  unfolding end_of
  wide from end c [] rest h order = omega (arith, h)
  wide from end c (d ∷ spelling) rest h order =
      let more = ends (c.at + max 1 c.width) end d spelling rest order.2 in
      let next = order.2.0 in
      omega (arith, more.0, next)

  or-left : (a b : Bool) → (a || b) ≡ false → a ≡ false
  or-left true b e = e
  or-left false b e = refl

  or-right : (a b : Bool) → (a || b) ≡ false → b ≡ false
  or-right true b e = absurd (true≢false e)
  or-right false b e = e

  and-true : (a : Bool) → (a && true) ≡ false → a ≡ false
  and-true true e = e
  and-true false e = refl

  -- a byte that begins no blank is no space, no tab and no newline
  no-blank : (byte : ℕ) (others : List ℕ) → opens_blank (byte ∷ others) ≡ false → (is_gap byte ≡ false) × (eqb byte newline ≡ false)
  unfolding opens_blank behind is_blank
  no-blank byte others none =
      let all = and-true _ none in
      let four = or-left _ _ all in
      let two = or-left _ _ (or-left _ _ four) in
      (two, or-right _ _ all)

  -- so the byte at which it stands is neither a space nor a tab
  visible : (c : Character) → Shown bytes c → (is_gap c.byte ≡ false) × (eqb c.byte newline ≡ false) → (1 ≤ c.width) × (is_gap (get_or bytes c.at 0) ≡ false)
  visible c (inl line) none = absurd (true≢false (sym (ap (λ n. eqb n newline) line) ∙ none.1))
  visible c (inr shown) none = (shown.0, by shown.2)
    where
      by : (get_or bytes c.at 0 ≡ c.byte) ⊎ (get_or bytes c.at 0 ≡ question_mark) → is_gap (get_or bytes c.at 0) ≡ false
      by (inl e) = ap is_gap e ∙ none.0
      by (inr e) = ap is_gap e

  all-behind : {A : Type 0} (P : A → Type 0) (xs ys : List A) → AllByRecursion P (xs ++ ys) → AllByRecursion P ys
  all-behind P [] ys all = all
  all-behind P (x ∷ xs) ys all = all-behind P xs ys all.1

  none-some : (kind : PpKind) → ◌≡◌ {A = Option PpKind} None (Some kind) → ⊥
  none-some kind e = cc

  -- ALL TOKENS

  tokens-row : (file from : ℕ) (state : LexState) (pieces : List Piece) (flat left : List Character) → InOrder from (length bytes) flat → AllShown bytes flat → CutsTo state pieces flat left
      → Row from (tokens_of file bytes state pieces)
  unfolding tokens_of CutsTo start_of
  tokens-row file from state [] flat left order all cut = tt
  tokens-row file from state (token kind [] ∷ pieces) flat left order all cut = absurd (none-some kind (sym (kind_of-empty (allows_header state)) ∙ cut.2.kind_is))
  tokens-row file from state (token kind (c ∷ spelling) ∷ pieces) flat left order all cut =
      let order' = subst (InOrder from (length bytes)) cut.1 order in
      let all' = subst (AllShown bytes) cut.1 all in
      let end = ends from (length bytes) c spelling cut.0 order' in
      let shown = visible c all'.0 (no-blank c.byte (bytes_of spelling ++ bytes_of cut.0) cut.2.no_blank) in (
        order'.0,
        wide from (length bytes) c spelling cut.0 shown.0 order',
        end.1,
        shown.1,
        tokens-row file (end_of (c ∷ spelling)) (state_behind state (token kind (c ∷ spelling))) pieces cut.0 left end.2 (all-behind (Shown bytes) (c ∷ spelling) cut.0 all') cut.3,
      )
  tokens-row file from state (blank character ∷ pieces) flat left order all cut =
      tokens-row file from (state_behind state (blank character)) pieces cut.0 left (InOrder-behind from (length bytes) (character ∷ []) cut.0 (subst (InOrder from (length bytes)) cut.1 order))
      (all-behind (Shown bytes) (character ∷ []) cut.0 (subst (AllShown bytes) cut.1 all)) cut.3
  tokens-row file from state (comment spelling ∷ pieces) flat left order all cut =
      tokens-row file from (state_behind state (comment spelling)) pieces cut.0 left (InOrder-behind from (length bytes) spelling cut.0 (subst (InOrder from (length bytes)) cut.1 order))
      (all-behind (Shown bytes) spelling cut.0 (subst (AllShown bytes) cut.1 all)) cut.3

  flat-shown : (file : ℕ) (flat : List Character) → flat_of file bytes ≡ Ok flat → AllShown bytes flat
  unfolding flat_of
  flat-shown file flat is = by (flat_text bytes) refl is
    where
      ok-is : (one other : List Character) → ◌≡◌ {A = Result (List Character) Refusal} (Ok one) (Ok other) → one ≡ other
      ok-is one other e = cc

      no-ok : (refusal : Refusal) → ◌≡◌ {A = Result (List Character) Refusal} (Err refusal) (Ok flat) → ⊥
      no-ok refusal e = cc

      by : (r : Result (List Character) Character) → flat_text bytes ≡ r → unless_refused file bytes r ≡ Ok flat → AllShown bytes flat
      by (Ok one) e f = subst (AllShown bytes) (ok-is one flat f) (text-shown bytes one e)
      by (Err c) e f = absurd (no-ok _ f)

  reading-row : (file : ℕ) → Row 0 (result_unwrap_or (reading_of file bytes) [])
  unfolding reading_of
  reading-row file = by (flat_of file bytes) refl
    where
      cut : (flat : List Character) → InOrder 0 (length bytes) flat → AllShown bytes flat
          → (found : ((pieces : List Piece) × Cuts first_state pieces flat) ⊎ ((pieces : List Piece) × (left : List Character) × OpensAt first_state pieces flat left))
          → Row 0 (result_unwrap_or (tokens_or_open file bytes flat found) [])
      cut flat order all (inl pieces) = tokens-row file 0 first_state pieces.0 flat [] order all pieces.1
      cut flat order all (inr opening) = tt

      by : (flat : Result (List Character) Refusal) → flat_of file bytes ≡ flat → Row 0 (result_unwrap_or (tokens_of_flat file bytes flat) [])
      by (Ok flat) e = cut flat (flat_of-in_order file bytes flat e) (flat-shown file flat e) (cut_exists first_state flat)
      by (Err refusal) e = tt

  -- LINES AND PARTS

  abbrev LinesFrom : ℕ → List (List PpToken) → Type 0
  LinesFrom from [] = Unit {0}
  LinesFrom from (line ∷ lines) = Row from line × AllByRecursion (Row 0) lines

  all-lines : (from : ℕ) (lines : List (List PpToken)) → LinesFrom from lines → AllByRecursion (Row 0) lines
  all-lines from [] rows = tt
  all-lines from (line ∷ lines) rows = (row-weaker 0 from line (omega arith) rows.0, rows.1)

  lines-follow : (from : ℕ) (tokens : List PpToken) → Row from tokens → LinesFrom from (lines_of tokens)
  unfolding lines_of
  lines-follow from [] row = tt
  lines-follow from (t ∷ ts) row = by (is_line_start ts) (lines_of ts) (lines-follow t.end ts row.4)
    where
      first : (lines : List (List PpToken)) → LinesFrom t.end lines → LinesFrom from (in_first_line t lines)
      first [] rows = ((row.0, row.1, row.2, row.3, tt), tt)
      first (line ∷ lines) rows = ((row.0, row.1, row.2, row.3, rows.0), rows.1)

      by : (b : Bool) (lines : List (List PpToken)) → LinesFrom t.end lines → LinesFrom from (cond b ((t ∷ []) ∷ lines) (in_first_line t lines))
      by true lines rows = ((row.0, row.1, row.2, row.3, tt), all-lines t.end lines rows)
      by false lines rows = first lines rows

  abbrev PartRow : Part → Type 0
  PartRow (directive start behind) = Row 0 (start ∷ behind)
  PartRow (text tokens) = Unit {0}

  with_text-row : (line : List PpToken) (parts : List Part) → AllByRecursion PartRow parts → AllByRecursion PartRow (with_text line parts)
  with_text-row line [] rows = (tt, tt)
  with_text-row line (text tokens ∷ parts) rows = (tt, rows.1)
  with_text-row line (directive start behind ∷ parts) rows = (tt, rows)

  parts_in-row : (lines : List (List PpToken)) → AllByRecursion (Row 0) lines → AllByRecursion PartRow (parts_in lines)
  unfolding parts_in
  parts_in-row [] rows = tt
  parts_in-row ([] ∷ lines) rows = parts_in-row lines rows.1
  parts_in-row ((t ∷ ts) ∷ lines) rows = by (is_hash t) (parts_in lines) (parts_in-row lines rows.1)
    where
      by : (b : Bool) (parts : List Part) → AllByRecursion PartRow parts → AllByRecursion PartRow (cond b (directive t ts ∷ parts) (with_text (t ∷ ts) parts))
      by true parts are = (rows.0, are)
      by false parts are = with_text-row (t ∷ ts) parts are

  parts-row : (file : ℕ) → AllByRecursion PartRow (parts_of (result_unwrap_or (reading_of file bytes) []))
  unfolding parts_of
  parts-row file = parts_in-row (lines_of (result_unwrap_or (reading_of file bytes) [])) (all-lines 0 _ (lines-follow 0 (result_unwrap_or (reading_of file bytes) []) (reading-row file)))

  part-at : (parts : List Part) (k : ℕ) (part : Part) → AllByRecursion PartRow parts → slice_get parts k ≡ Some part → PartRow part
  part-at [] k part rows is = absurd (no-part is)
    where
      no-part : ◌≡◌ {A = Option Part} None (Some part) → ⊥
      no-part e = cc
  part-at (first ∷ parts) zero part rows is = subst PartRow (part-is first part is) rows.0
    where
      part-is : (one other : Part) → ◌≡◌ {A = Option Part} (Some one) (Some other) → one ≡ other
      part-is one other e = cc
  part-at (first ∷ parts) (suc k) part rows is = part-at parts k part rows.1 is

  pub directive-row : (file k : ℕ) (start : PpToken) (behind : List PpToken) → slice_get (parts_of (result_unwrap_or (reading_of file bytes) [])) k ≡ Some (directive start behind) → Row 0 (start ∷ behind)
  directive-row file k start behind is = part-at (parts_of (result_unwrap_or (reading_of file bytes) [])) k (directive start behind) (parts-row file) is
