-- The tokens of a file and the refusals of its bytes stand at bytes that it has.
use Rattle.std.proofs.Common.{◌≡◌, ℕ, ◌+◌, ◌<◌, ◌≤◌, Bool, true, false, cond, ◌&&◌, ◌||◌, ◌⊎◌, inl, inr, List, [], ◌∷◌, ◌++◌, length, Option, None, Some, IfSome, Result, Ok, Err, eqb, refl, sym, ap, ◌∙◌, subst, arith, true≢false}
use Rattle.std.specs.Prelude.{option_map}
use Rattle.std.specs.Option.{option_map_or}
use Rattle.std.specs.List.{AllByRecursion}
use Rattle.std.proofs.lemmas.Bool.{cond_both, and_parts, eqb-true}
use Rattle.dm_token.specs.Bytes.{newline, carriage_return, question_mark, backslash}
use Rattle.dm_token.specs.declared.stop.Refusal.{Refusal}
use Rattle.dm_token.specs.declared.token.PpKind.{PpKind}
use Rattle.dm_token.specs.declared.token.PpToken.{PpToken}
use Rattle.dm_phase.specs.declared.Character.{Character}
use Rattle.dm_phase.specs.Phases.{characters_at, is_mark, without_mark, ended, joined, trigraph, replacement, replaced, is_splice, spliced, last_splice, after_phase_1, after_phase_2, flat_text}
use Rattle.dm_phase.specs.Answer.{flat_of, unless_refused}
use Rattle.dm_lex.specs.Classes.{slash, asterisk, behind}
use Rattle.dm_lex.specs.declared.state.State.{State as LexState}
use Rattle.dm_lex.specs.Cuts.{Piece, token, blank, comment, characters_of, bytes_of, is_blank, opens_block, opens_blank, first_state, state_behind, allows_header, IsPiece, CutsTo, Cuts, OpensAt}
use Rattle.dm_lex.specs.Tokens.{start_of, tokens_of}
use Rattle.dm_lex.proofs.ExistLemmas.{cut_exists}
use Rattle.dm_lex.proofs.KindLemmas.{kind_of-empty}
use Rattle.dm_unit.specs.Sources.{reading_of, tokens_of_flat, tokens_or_open}
use Rattle.dm_places.specs.Places.{IsPlaceOf}

-- CHARACTERS

-- a character other than a newline stands at a byte before the end
abbrev Stands : ℕ → Character → Type 0
Stands end c = (c.byte ≡ newline) ⊎ (c.at < end)

abbrev AllStand : ℕ → List Character → Type 0
AllStand end text = AllByRecursion (Stands end) text

not-newline : (end : ℕ) (c : Character) → eqb c.byte newline ≡ false → Stands end c → c.at < end
not-newline end c other (inl same) = absurd (true≢false (sym (ap (λ b. eqb b newline) same) ∙ other))
not-newline end c other (inr inside) = inside

at-bytes : (offset end : ℕ) (bytes : List ℕ) → offset + length bytes ≤ end → AllStand end (characters_at offset bytes)
unfolding characters_at
at-bytes offset end [] h = tt
at-bytes offset end (b ∷ bytes) h = (inr (omega (arith, h)), at-bytes (offset + 1) end bytes (omega (arith, h)))

mark-stands : (end : ℕ) (text : List Character) → AllStand end text → AllStand end (without_mark text)
unfolding without_mark
mark-stands end [] all = tt
mark-stands end (a ∷ []) all = all
mark-stands end (a ∷ b ∷ []) all = all
mark-stands end (a ∷ b ∷ c ∷ text) all = cond_both (is_mark a b c) text (a ∷ b ∷ c ∷ text) (AllStand end) (λ _. all.1.1.1) (λ _. all)

ended-stands : (end : ℕ) (text : List Character) → AllStand end text → AllStand end (ended text)
unfolding ended
ended-stands end [] all = tt
ended-stands end (c ∷ []) all = cond_both (eqb c.byte newline) (c ∷ []) (c ∷ (record { byte = newline; at = c.at + c.width; width = 0 }) ∷ []) (AllStand end) (λ _. all) (λ _. (all.0, (inl refl, tt)))
ended-stands end (c ∷ d ∷ text) all = (all.0, ended-stands end (d ∷ text) all.1)

joined-stands : (end : ℕ) (text : List Character) → AllStand end text → AllStand end (joined text)
unfolding joined
joined-stands end [] all = tt
joined-stands end (c ∷ []) all = all
joined-stands end (c ∷ d ∷ text) all =
    cond_both (eqb c.byte carriage_return && eqb d.byte newline) ((record { byte = newline; at = c.at; width = c.width + d.width }) ∷ joined text) (c ∷ joined (d ∷ text)) (AllStand end)
    (λ _. (inl refl, joined-stands end text all.1.1)) (λ _. (all.0, joined-stands end (d ∷ text) all.1))

trigraph-stands : (end : ℕ) (a b c : Character) → Stands end a → IfSome (trigraph a b c) (Stands end)
unfolding trigraph
trigraph-stands end a b c all = by (eqb a.byte question_mark && eqb b.byte question_mark) refl (replacement c.byte)
  where
    here : (t : Bool) → eqb a.byte question_mark && eqb b.byte question_mark ≡ t → t ≡ true → a.at < end
    here t e is =
        let same = eqb-true a.byte question_mark (and_parts (eqb a.byte question_mark) (eqb b.byte question_mark) (e ∙ is)).0 in
        not-newline end a (ap (λ byte. eqb byte newline) same) all

    by : (t : Bool) → eqb a.byte question_mark && eqb b.byte question_mark ≡ t → (o : Option ℕ) → IfSome (cond t (option_map (λ byte. record { byte = byte; at = a.at; width = a.width + b.width + c.width }) o) None) (Stands end)
    by true e None = tt
    by true e (Some byte) = inr (here true e refl)
    by false e o = tt

replaced-stands : (end : ℕ) (text : List Character) → AllStand end text → AllStand end (replaced text)
unfolding replaced
replaced-stands end [] all = tt
replaced-stands end (a ∷ []) all = all
replaced-stands end (a ∷ b ∷ []) all = all
replaced-stands end (a ∷ b ∷ c ∷ text) all = by (trigraph a b c) (trigraph-stands end a b c all.0) (replaced-stands end text all.1.1.1) (replaced-stands end (b ∷ c ∷ text) all.1)
  where
    by : (o : Option Character) → IfSome o (Stands end) → AllStand end (replaced text) → AllStand end (replaced (b ∷ c ∷ text)) → AllStand end (option_map_or (λ d. d ∷ replaced text) o (a ∷ replaced (b ∷ c ∷ text)))
    by None some first second = (all.0, second)
    by (Some d) some first second = (some, first)

spliced-stands : (end : ℕ) (text : List Character) → AllStand end text → AllStand end (spliced text)
unfolding spliced
spliced-stands end [] all = tt
spliced-stands end (c ∷ []) all = all
spliced-stands end (c ∷ d ∷ text) all =
    cond_both (is_splice c d) (spliced text) (c ∷ spliced (d ∷ text)) (AllStand end) (λ _. spliced-stands end text all.1.1) (λ _. (all.0, spliced-stands end (d ∷ text) all.1))

last-stands : (end : ℕ) (text : List Character) → AllStand end text → IfSome (last_splice text) (λ c. c.at < end)
unfolding last_splice
last-stands end [] all = tt
last-stands end (c ∷ []) all = tt
last-stands end (c ∷ d ∷ []) all = cond_both (is_splice c d) (Some c) None (λ o. IfSome o (λ (c : Character). c.at < end)) here (λ _. tt)
  where
    here : is_splice c d ≡ true → c.at < end
    here is = let same = eqb-true c.byte backslash (and_parts (eqb c.byte backslash) (eqb d.byte newline) is).0 in not-newline end c (ap (λ byte. eqb byte newline) same) all.0
last-stands end (c ∷ d ∷ e ∷ text) all = last-stands end (d ∷ e ∷ text) all.1

first-stands : (bytes : List ℕ) → AllStand (length bytes) (after_phase_1 bytes)
unfolding after_phase_1
first-stands bytes =
    replaced-stands (length bytes) (joined (ended (without_mark (characters_at 0 bytes)))) (joined-stands (length bytes) (ended (without_mark (characters_at 0 bytes)))
    (ended-stands (length bytes) (without_mark (characters_at 0 bytes)) (mark-stands (length bytes) (characters_at 0 bytes) (at-bytes 0 (length bytes) bytes (omega arith)))))

-- A text after phase 2, or the backslash for which it is refused.
abbrev Flat : ℕ → Result (List Character) Character → Type 0
Flat end (Ok text) = AllStand end text
Flat end (Err c) = c.at < end

flat-stands : (bytes : List ℕ) → Flat (length bytes) (flat_text bytes)
unfolding flat_text after_phase_2
flat-stands bytes = by (last_splice (after_phase_1 bytes)) (last-stands (length bytes) (after_phase_1 bytes) (first-stands bytes))
  where
    by : (o : Option Character) → IfSome o (λ c. c.at < length bytes) → Flat (length bytes) (option_map_or Err o (Ok (spliced (after_phase_1 bytes))))
    by None some = spliced-stands (length bytes) (after_phase_1 bytes) (first-stands bytes)
    by (Some c) some = some

-- PIECES

all-behind : {A : Type 0} (P : A → Type 0) (xs ys : List A) → AllByRecursion P (xs ++ ys) → AllByRecursion P ys
all-behind P [] ys all = all
all-behind P (x ∷ xs) ys all = all-behind P xs ys all.1

blank-first : (byte : ℕ) (others : List ℕ) → opens_blank (byte ∷ others) ≡ false → eqb byte newline ≡ false
unfolding opens_blank behind is_blank
blank-first byte others none = by (eqb byte newline) refl none
  where
    last : (a : Bool) → (a || true) ≡ false → ⊥
    last true e = true≢false e
    last false e = true≢false e

    by : (b : Bool) → eqb byte newline ≡ b → (((((eqb byte 32 || eqb byte 9) || eqb byte 11) || eqb byte 12) || b) && true) ≡ false → b ≡ false
    by true e none = absurd (last (((eqb byte 32 || eqb byte 9) || eqb byte 11) || eqb byte 12) (both (((((eqb byte 32 || eqb byte 9) || eqb byte 11) || eqb byte 12) || true)) none))
      where
        both : (a : Bool) → (a && true) ≡ false → a ≡ false
        both true e = e
        both false e = refl
    by false e none = refl

-- a token begins at a byte of the file
token-start : (end : ℕ) (header : Bool) (kind : PpKind) (spelling rest : List Character) → AllStand end (spelling ++ rest) → IsPiece header (token kind spelling) rest → start_of spelling < end
unfolding start_of
token-start end header kind [] rest all is = absurd (none-some kind (sym (kind_of-empty header) ∙ is.kind_is))
  where
    none-some : (kind : PpKind) → ◌≡◌ {A = Option PpKind} None (Some kind) → ⊥
    none-some kind e = cc
token-start end header kind (c ∷ spelling) rest all is = not-newline end c (blank-first c.byte (bytes_of (spelling ++ rest)) (joined-bytes is.no_blank)) all.0
  where
    append-bytes : (xs ys : List Character) → bytes_of xs ++ bytes_of ys ≡ bytes_of (xs ++ ys)
    append-bytes [] ys = refl
    append-bytes (x ∷ xs) ys = ap (λ bs. x.byte ∷ bs) (append-bytes xs ys)

    joined-bytes : opens_blank (bytes_of (c ∷ spelling) ++ bytes_of rest) ≡ false → opens_blank (c.byte ∷ bytes_of (spelling ++ rest)) ≡ false
    joined-bytes none = ap (λ bs. opens_blank (c.byte ∷ bs)) (sym (append-bytes spelling rest)) ∙ none

abbrev pub AreOf : ℕ → List ℕ → List PpToken → Type 0
AreOf file bytes tokens = AllByRecursion (λ (one : PpToken). (one.place.file ≡ file) × IsPlaceOf bytes one.place) tokens

tokens-stand : (file : ℕ) (bytes : List ℕ) (state : LexState) (pieces : List Piece) (text left : List Character) → AllStand (length bytes) text → CutsTo state pieces text left → AreOf file bytes (tokens_of file bytes state pieces)
unfolding tokens_of CutsTo
tokens-stand file bytes state [] text left all cut = tt
tokens-stand file bytes state (token kind spelling ∷ pieces) text left all cut =
    let here = subst (AllStand (length bytes)) cut.1 all in
    ((refl, (refl, inl (token-start (length bytes) (allows_header state) kind spelling cut.0 here cut.2))), tokens-stand file bytes (state_behind state (token kind spelling)) pieces cut.0 left (all-behind (Stands (length bytes)) spelling cut.0 here) cut.3)
tokens-stand file bytes state (blank character ∷ pieces) text left all cut =
    tokens-stand file bytes (state_behind state (blank character)) pieces cut.0 left (all-behind (Stands (length bytes)) (character ∷ []) cut.0 (subst (AllStand (length bytes)) cut.1 all)) cut.3
tokens-stand file bytes state (comment spelling ∷ pieces) text left all cut =
    tokens-stand file bytes (state_behind state (comment spelling)) pieces cut.0 left (all-behind (Stands (length bytes)) spelling cut.0 (subst (AllStand (length bytes)) cut.1 all)) cut.3

-- what is left of a text
left-stands : (end : ℕ) (state : LexState) (pieces : List Piece) (text left : List Character) → AllStand end text → CutsTo state pieces text left → AllStand end left
unfolding CutsTo
left-stands end state [] text left all cut = subst (AllStand end) cut all
left-stands end state (piece ∷ pieces) text left all cut =
    left-stands end (state_behind state piece) pieces cut.0 left (all-behind (Stands end) (characters_of piece) cut.0 (subst (AllStand end) cut.1 all)) cut.3

open-start : (end : ℕ) (left : List Character) → AllStand end left → opens_block (bytes_of left) ≡ true → start_of left < end
unfolding opens_block behind start_of
open-start end [] all is = absurd (true≢false (sym is))
open-start end (c ∷ left) all is =
    let same = eqb-true c.byte slash (and_parts (eqb c.byte slash) (behind (λ byte. eqb byte asterisk) (λ others. true) (bytes_of left)) is).0 in
    not-newline end c (ap (λ byte. eqb byte newline) same) all.0

-- Bytes are read as tokens of their file, or refused in it.
abbrev pub IsReadIn : ℕ → List ℕ → Result (List PpToken) Refusal → Type 0
IsReadIn file bytes (Ok tokens) = AreOf file bytes tokens
IsReadIn file bytes (Err refusal) = (refusal.place.file ≡ file) × IsPlaceOf bytes refusal.place

pub reading-stands : (file : ℕ) (bytes : List ℕ) → IsReadIn file bytes (reading_of file bytes)
unfolding reading_of flat_of
reading-stands file bytes = by (flat_text bytes) (flat-stands bytes)
  where
    cut : (text : List Character) (found : ((pieces : List Piece) × Cuts first_state pieces text) ⊎ ((pieces : List Piece) × (left : List Character) × OpensAt first_state pieces text left)) → AllStand (length bytes) text
        → IsReadIn file bytes (tokens_or_open file bytes text found)
    cut text (inl pieces) all = tokens-stand file bytes first_state pieces.0 text [] all pieces.1
    cut text (inr opening) all = (refl, (refl, inl (open-start (length bytes) opening.1 (left-stands (length bytes) first_state opening.0 text opening.1 all opening.2.0) opening.2.1.0)))

    by : (flat : Result (List Character) Character) → Flat (length bytes) flat → IsReadIn file bytes (tokens_of_flat file bytes (unless_refused file bytes flat))
    by (Ok text) all = cut text (cut_exists first_state text) all
    by (Err c) inside = (refl, (refl, inl inside))
