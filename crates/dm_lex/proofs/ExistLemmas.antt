-- A text has a cut, unless a comment is open in it.
use Rattle.std.proofs.Common.{◌≡◌, ℕ, zero, suc, ◌+◌, ◌<◌, ◌≤◌, Bool, true, false, ◌&&◌, List, [], ◌∷◌, ◌++◌, length, take, drop, refl, sym, ◌∙◌, subst, arith, inl, inr, Option, Some, None, length-drop, ◌⊎◌}
use Rattle.std.specs.Prelude.{is_some}
use Rattle.std.proofs.lemmas.List.{length-map, take-append-drop}
use Rattle.std.proofs.lemmas.Bool.{false≢true, cases_Bool, cases_lt, cases_eq}
use Rattle.dm_token.specs.declared.token.PpKind.{PpKind}
use Rattle.dm_token.specs.declared.token.PpKind.TheVariants.{Identifier, Number, Character as character_kind, Literal, Header}
use Rattle.dm_phase.specs.declared.Character.{Character}
use Rattle.dm_lex.specs.declared.state.State.{State}
use Rattle.dm_lex.specs.declared.scan.Found.{Found}
use Rattle.dm_lex.specs.Classes.{is_header, is_identifier, is_number, is_character, is_literal, punctuator_of, kind_if, punctuator_or, kind_of}
use Rattle.dm_lex.specs.Cuts.{Piece, token, blank, comment, characters_of, bytes_of, is_blank, IsPiece, allows_header, state_behind, CutsTo, IsOpen}
use Rattle.dm_lex.specs.Lengths.{make_found}
use Rattle.dm_lex.specs.Reach.{IsBest, IsCommentLength}
use Rattle.dm_lex.proofs.CommentLemmas.{comment_decided}
use Rattle.dm_lex.proofs.ProgressLemmas.{comment_is, token_is}

-- each single character has a kind
kind_if-some : (passed : Bool) (kind : PpKind) (other : Option PpKind) → is_some other ≡ true → is_some (kind_if passed kind other) ≡ true
kind_if-some true kind other some = refl
kind_if-some false kind other some = some

punctuator_or-some : (row : Option ℕ) (other : Option PpKind) → is_some other ≡ true → is_some (punctuator_or row other) ≡ true
punctuator_or-some None other some = some
punctuator_or-some (Some row) other some = refl

kind_of-single : (header : Bool) (byte : ℕ) → is_some (kind_of header (byte ∷ [])) ≡ true
unfolding kind_of
kind_of-single header byte =
    kind_if-some (header && is_header (byte ∷ [])) Header _ (kind_if-some (is_identifier (byte ∷ [])) Identifier _ (kind_if-some (is_number (byte ∷ [])) Number _
    (kind_if-some (is_character (byte ∷ [])) character_kind _ (kind_if-some (is_literal (byte ∷ [])) Literal _ (punctuator_or-some (punctuator_of (byte ∷ [])) _ refl)))))

option_parts : {A : Type 0} (o : Option A) → is_some o ≡ true → (a : A) × (o ≡ Some a)
option_parts None none = absurd (false≢true none)
option_parts (Some a) some = (a, refl)

-- some front is the longest that has a kind
longest_from : (kinds : List ℕ → Option PpKind) (text : List ℕ) (k : ℕ) → k ≤ length text → 0 < length text → is_some (kinds (take 1 text)) ≡ true →
    ((n : ℕ) → k < n → n ≤ length text → is_some (kinds (take n text)) ≡ false) → (found : Found) × IsBest kinds text found
longest_from kinds text zero inside some single none = absurd (false≢true (sym (none 1 (omega arith) (omega arith)) ∙ single))
longest_from kinds text (suc k) inside some single none =
    elim (cases_Bool (is_some (kinds (take (suc k) text)))) [
      | inl here ↦
          let kind : (a : PpKind) × (kinds (take (suc k) text) ≡ Some a) = option_parts (kinds (take (suc k) text)) here in (
            make_found kind.0 (suc k),
            record {
              inside = inside;
              above = omega arith;
              is = kind.1;
              longest = λ n within has. elim (cases_lt (suc k) n) [
                | inl later ↦ absurd (false≢true (sym (none n later within) ∙ has))
                | inr sooner ↦ sooner
              ];
            },
          )
      | inr gone ↦
          longest_from kinds text k (omega arith) some single (λ n later within.
          elim (cases_eq n (suc k)) [
            | inl same ↦ subst (λ m. is_some (kinds (take m text)) ≡ false) (sym same) gone
            | inr apart ↦ none n (omega arith) within
          ])
    ]

longest : (header : Bool) (byte : ℕ) (text : List ℕ) → (found : Found) × IsBest (kind_of header) (byte ∷ text) found
longest header byte text =
    longest_from (kind_of header) (byte ∷ text) (suc (length text)) (omega arith) (omega arith)
    (subst (λ (s : List ℕ). is_some (kind_of header (byte ∷ s)) ≡ true) (sym (zero_of text)) (kind_of-single header byte))
    (λ n later within. absurd (omega arith))
  where
    zero_of : (t : List ℕ) → take 0 t ≡ []
    zero_of [] = refl
    zero_of (b ∷ t) = refl

-- a front and the rest are the text
whole : (text : List Character) (n : ℕ) → text ≡ take n text ++ drop n text
whole text n = sym (take-append-drop n text)

-- a piece stands at the front of a text, or a comment is open there
abbrev HasPiece : Bool → List Character → Type 0
HasPiece header text = (piece : Piece) × (rest : List Character) × (text ≡ characters_of piece ++ rest) × IsPiece header piece rest × (length rest < length text)

has_comment : (header : Bool) (c : Character) (text : List Character) (n : ℕ) → IsCommentLength (bytes_of (c ∷ text)) n → 0 < n → HasPiece header (c ∷ text)
has_comment header c text n is some =
    let whole_text : List Character = c ∷ text in
    let inside : n ≤ length (bytes_of whole_text) = is.inside in (
      comment (take n whole_text),
      drop n whole_text,
      whole whole_text n,
      subst (λ m. IsPiece header (comment (take n whole_text)) (drop m whole_text)) (let e : 0 + n ≡ n = omega arith in e)
          (comment_is whole_text (bytes_of whole_text) 0 n header refl is some),
      omega (arith, length-drop n whole_text, length-map whole_text (λ (d : Character). d.byte)),
    )

has_token : (header : Bool) (c : Character) (text : List Character) → is_blank c.byte ≡ false → IsCommentLength (bytes_of (c ∷ text)) 0 → HasPiece header (c ∷ text)
has_token header c text no_blank no_comment =
    let whole_text : List Character = c ∷ text in
    let found : (f : Found) × IsBest (kind_of header) (bytes_of whole_text) f = longest header c.byte (bytes_of text) in
    let n : ℕ = found.0.length in
    let above : 0 < n = found.1.above in
    let inside : n ≤ length (bytes_of whole_text) = found.1.inside in (
      token found.0.kind (take n whole_text),
      drop n whole_text,
      whole whole_text n,
      subst (λ m. IsPiece header (token found.0.kind (take n whole_text)) (drop m whole_text)) (let e : 0 + n ≡ n = omega arith in e)
          (token_is whole_text (bytes_of whole_text) 0 header found.0 refl (omega arith) no_blank no_comment found.1),
      omega (arith, length-drop n whole_text, length-map whole_text (λ (d : Character). d.byte)),
    )

find_piece : (header : Bool) (c : Character) (text : List Character) → HasPiece header (c ∷ text) ⊎ IsOpen (bytes_of (c ∷ text))
find_piece header c text =
    elim (cases_Bool (is_blank c.byte)) [
      | inl is ↦ inl (blank c, text, refl, is, omega arith)
      | inr no_blank ↦
          elim (comment_decided (c.byte ∷ bytes_of text) (omega arith)) [
            | inl length_of ↦
                elim (cases_eq length_of.0 0) [
                  | inl none ↦ inl (has_token header c text no_blank (subst (λ n. IsCommentLength (bytes_of (c ∷ text)) n) none length_of.1))
                  | inr some ↦ inl (has_comment header c text length_of.0 length_of.1 (omega arith))
                ]
            | inr open' ↦ inr open'
          ]
    ]

-- a text has a cut, or a comment is open in it
abbrev IsCut : State → List Character → Type 0
IsCut state text = (pieces : List Piece) × CutsTo state pieces text []

abbrev IsLeftOpen : State → List Character → Type 0
IsLeftOpen state text = (pieces : List Piece) × (left : List Character) × (CutsTo state pieces text left × IsOpen (bytes_of left))

cut_more : (state : State) (text : List Character) (has : HasPiece (allows_header state) text) →
    IsCut (state_behind state has.0) has.1 ⊎ IsLeftOpen (state_behind state has.0) has.1 → IsCut state text ⊎ IsLeftOpen state text
unfolding CutsTo
cut_more state text has (inl cut) = inl (has.0 ∷ cut.0, (has.1, has.2, has.3, cut.1))
cut_more state text has (inr open') = inr (has.0 ∷ open'.0, open'.1, ((has.1, has.2, has.3, open'.2.0), open'.2.1))

exists_within : (size : ℕ) (state : State) (text : List Character) → length text ≤ size → IsCut state text ⊎ IsLeftOpen state text
unfolding CutsTo
exists_within size state [] small = inl ([], refl)
exists_within zero state (c ∷ text) small = absurd (omega arith)
exists_within (suc size) state (c ∷ text) small =
    elim (find_piece (allows_header state) c text) [
      | inl has ↦
          let shorter : length has.1 < length (c ∷ text) = has.4 in
          cut_more state (c ∷ text) has (exists_within size (state_behind state has.0) has.1 (omega arith))
      | inr open' ↦ inr ([], c ∷ text, (refl, open'))
    ]

pub cut_exists : (state : State) (text : List Character) → IsCut state text ⊎ IsLeftOpen state text
cut_exists state text = exists_within (length text) state text (omega arith)
