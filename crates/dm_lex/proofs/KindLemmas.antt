-- The longest token at the front of a text, class after class.
use Rattle.std.proofs.Common.{◌≡◌, ℕ, zero, suc, ◌+◌, ◌<◌, ◌≤◌, Bool, true, false, cond, ◌&&◌, not, eqb, ltb, leb, List, [], ◌∷◌, length, get_or, take, drop, refl, ap, sym, inl, inr, ◌∙◌, subst, arith, length-take, Option, Some, None, ◌⊎◌}
use Rattle.std.specs.Prelude.{is_some, bytes_eq, position}
use Rattle.std.specs.List.{list_all, list_any, position_or_len}
use Rattle.std.proofs.lemmas.Bool.{cond_both, not-true, and_parts, false≢true, eqb-true, leb-true, leb-false, lt-ltb, cond-true, or_parts, false_from_ne_true}
use Rattle.std.proofs.lemmas.Slice.Eq.{bytes_eq-Decides}
use Rattle.std.proofs.lemmas.List.{at_drop_more, take_all}
use Rattle.std.proofs.lemmas.List.Quantifiers.{position-Some}
use Rattle.dm_spell.specs.Rows.{row_at, all_differ, StandsAt}
use Rattle.dm_spell.specs.Tables.{punctuator_rows}
use Rattle.dm_token.specs.declared.token.PpKind.{PpKind}
use Rattle.dm_token.specs.declared.token.PpKind.TheVariants.{Identifier, Number, Character, Literal, Punctuator, Header, Stray}
use Rattle.dm_lex.specs.declared.scan.Found.{Found}
use Rattle.dm_lex.specs.Classes.{is_word, is_nondigit, is_digit, is_identifier, is_number, is_character, is_literal, is_header, punctuator_of, kind_if, punctuator_or, kind_of, class_of, without_stray, behind, is_plain_character, is_plain_literal}
use Rattle.dm_lex.specs.Lengths.{best_of, make_found, or_longer, header_length}
use Rattle.dm_lex.specs.Reach.{IsReach, IsBest, IsLongestRow, HasNoRow}
use Rattle.dm_lex.proofs.ReachLemmas.{identifier-reach, number-reach, character-reach, literal-reach, header-reach}

-- a kind comes from the test or from the others
pub kind_if_cases : (passed : Bool) (kind : PpKind) (other : Option PpKind) → is_some (kind_if passed kind other) ≡ true → (passed ≡ true) ⊎ (is_some other ≡ true)
kind_if_cases true kind other some = inl refl
kind_if_cases false kind other some = inr some

kind_if_not : (passed : Bool) (kind : PpKind) (other : Option PpKind) → (passed ≡ true → ⊥) → kind_if passed kind other ≡ other
kind_if_not true kind other fails = absurd (fails refl)
kind_if_not false kind other fails = refl

kind_if_so : (passed : Bool) (kind : PpKind) (other : Option PpKind) → passed ≡ true → kind_if passed kind other ≡ Some kind
kind_if_so true kind other passes = refl
kind_if_so false kind other passes = absurd (false≢true passes)

-- a further class: its reach is the longest token, or what was the longest without it
pub IsBest-or_longer : (test : List ℕ → Bool) (kind : PpKind) (far : ℕ) (kinds : List ℕ → Option PpKind) (text : List ℕ) (found : Found) →
    IsReach test text far → IsBest kinds text found → IsBest (λ s. kind_if (test s) kind (kinds s)) text (or_longer found kind far)
unfolding or_longer
IsBest-or_longer test kind far kinds text found reach best =
    let above : 0 < found.length = best.above in
    cond_both (leb found.length far) (make_found kind far) found (λ p. IsBest (λ s. kind_if (test s) kind (kinds s)) text p)
    (λ e.
    let most : found.length ≤ far = leb-true _ _ e in
    record {
      inside = reach.inside;
      above = omega arith;
      is = kind_if_so _ kind (kinds (take far text)) (reach.passed (omega arith));
      longest = λ n inside some.
          elim (kind_if_cases (test (take n text)) kind (kinds (take n text)) some) [
            | inl here ↦ reach.longest n inside here
            | inr other ↦ let h : n ≤ found.length = best.longest n inside other in omega arith
          ];
    })
    (λ e.
    let less : far < found.length = leb-false _ _ e in
    record {
      inside = best.inside;
      above = best.above;
      is = kind_if_not (test (take found.length text)) kind (kinds (take found.length text)) (λ here.
          let h : found.length ≤ far = reach.longest found.length best.inside here in omega arith) ∙ best.is;
      longest = λ n inside some.
          elim (kind_if_cases (test (take n text)) kind (kinds (take n text)) some) [
            | inl here ↦ let h : n ≤ far = reach.longest n inside here in omega arith
            | inr other ↦ best.longest n inside other
          ];
    })

-- a single character is a stray
abbrev stray_kinds : List ℕ → Option PpKind
stray_kinds s = kind_if (eqb (length s) 1) Stray None

IsBest-stray : (byte : ℕ) (text : List ℕ) → IsBest stray_kinds (byte ∷ text) (make_found Stray 1)
IsBest-stray byte text = record {
  inside = omega arith;
  above = omega arith;
  is = refl;
  longest = λ n inside some.
      elim (kind_if_cases (eqb (length (take n (byte ∷ text))) 1) Stray None some) [
        | inl one ↦ omega (arith, eqb-true _ _ one, length-take n (byte ∷ text))
        | inr none ↦ absurd (false≢true none)
      ];
}

-- the first row that passes a test
position_or_len-at : (p : List ℕ → Bool) (rows : List (List ℕ)) (i : ℕ) → i < length rows → p (row_at rows i) ≡ true →
    ((k : ℕ) → k < i → p (row_at rows k) ≡ false) → position_or_len p rows ≡ i
position_or_len-at p [] i inside here before = absurd (omega arith)
position_or_len-at p (row ∷ rows) zero inside here before = rw here refl
position_or_len-at p (row ∷ rows) (suc i) inside here before =
    let first : p row ≡ false = before 0 (omega arith) in
    let others : position_or_len p rows ≡ i = position_or_len-at p rows i (omega arith) here (λ k below. before (suc k) (omega arith)) in
    rw first (omega arith)

position-at : (p : List ℕ → Bool) (rows : List (List ℕ)) (i : ℕ) → i < length rows → p (row_at rows i) ≡ true →
    ((k : ℕ) → k < i → p (row_at rows k) ≡ false) → position p rows ≡ Some i
position-at p rows i inside here before =
    let is : position_or_len p rows ≡ i = position_or_len-at p rows i inside here before in
    let below : position_or_len p rows < length rows = omega arith in
    cond-true (ltb (position_or_len p rows) (length rows)) (Some (position_or_len p rows)) None (lt-ltb (position_or_len p rows) (length rows) below) ∙ ap Some is

-- no row passes where none does
list_any-none : (p : List ℕ → Bool) (rows : List (List ℕ)) (k : ℕ) → list_any p rows ≡ false → k < length rows → p (row_at rows k) ≡ false
list_any-none p [] k none inside = absurd (omega arith)
list_any-none p (row ∷ rows) zero none inside = (or_parts _ _ none).0
list_any-none p (row ∷ rows) (suc k) none inside = list_any-none p rows k (or_parts _ _ none).1 (omega arith)

-- rows that differ
rows_differ : (rows : List (List ℕ)) (j i : ℕ) → all_differ rows ≡ true → j < i → i < length rows → row_at rows i ≡ row_at rows j → ⊥
rows_differ [] j i differ before inside same = omega arith
rows_differ (row ∷ rows) j zero differ before inside same = omega arith
rows_differ (row ∷ rows) zero (suc i) differ before inside same =
    let parts : (not (list_any (bytes_eq row) rows) ≡ true) × (all_differ rows ≡ true) = and_parts _ _ differ in
    let apart : bytes_eq row (row_at rows i) ≡ false = list_any-none (bytes_eq row) rows i (not-true _ parts.0) (omega arith) in
    false≢true (sym apart ∙ (bytes_eq-Decides row (row_at rows i)).1 (sym same))
rows_differ (row ∷ rows) (suc j) (suc i) differ before inside same =
    let parts : (not (list_any (bytes_eq row) rows) ≡ true) × (all_differ rows ≡ true) = and_parts _ _ differ in
    rows_differ rows j i parts.1 (omega arith) (omega arith) same

punctuators_differ : all_differ punctuator_rows ≡ true
unfolding punctuator_rows
punctuators_differ = refl

-- the row of a punctuator's spelling
pub punctuator_of-row : (row : ℕ) → row < length punctuator_rows → punctuator_of (row_at punctuator_rows row) ≡ Some row
unfolding punctuator_of
punctuator_of-row row inside =
    position-at (bytes_eq (row_at punctuator_rows row)) punctuator_rows row inside
    ((bytes_eq-Decides _ (row_at punctuator_rows row)).1 refl)
    (λ k below. false_from_ne_true _ (λ same. rows_differ punctuator_rows k row punctuators_differ below inside ((bytes_eq-Decides _ _).0 same)))

-- and the spelling of a row
pub punctuator_of-some : (spelling : List ℕ) (row : ℕ) → punctuator_of spelling ≡ Some row → (row < length punctuator_rows) × (spelling ≡ row_at punctuator_rows row)
unfolding punctuator_of
punctuator_of-some spelling row some =
    let hit = position-Some (bytes_eq spelling) punctuator_rows row [] some in
    (hit.0, (bytes_eq-Decides spelling (row_at punctuator_rows row)).0 hit.1)

pub some_is : {A : Type 0} (o : Option A) → is_some o ≡ true → (a : A) × (o ≡ Some a)
some_is None none = absurd (false≢true none)
some_is (Some a) some = (a, refl)

-- a front that is a punctuator stands at the front
front_stands : (text : List ℕ) (n row : ℕ) → n ≤ length text → punctuator_of (take n text) ≡ Some row →
    (row < length punctuator_rows) × (StandsAt (row_at punctuator_rows row) text 0) × (length (row_at punctuator_rows row) ≡ n)
front_stands text n row inside some =
    let hit : (row < length punctuator_rows) × (take n text ≡ row_at punctuator_rows row) = punctuator_of-some (take n text) row some in
    let size : length (row_at punctuator_rows row) ≡ n = omega (arith, ap length hit.1, length-take n text) in
    (hit.0, subst (λ k. take k text ≡ row_at punctuator_rows row) (sym size) hit.1, size)

pub punctuator_or_cases : (row : Option ℕ) (other : Option PpKind) → is_some (punctuator_or row other) ≡ true → (is_some row ≡ true) ⊎ (is_some other ≡ true)
punctuator_or_cases None other some = inr some
punctuator_or_cases (Some row) other some = inl refl

punctuator_or_not : (row : Option ℕ) (other : Option PpKind) → (is_some row ≡ true → ⊥) → punctuator_or row other ≡ other
punctuator_or_not None other fails = refl
punctuator_or_not (Some row) other fails = absurd (fails refl)

-- where no punctuator stands
pub IsBest-no_row : (kinds : List ℕ → Option PpKind) (text : List ℕ) (found : Found) → HasNoRow text → IsBest kinds text found →
    IsBest (λ s. punctuator_or (punctuator_of s) (kinds s)) text found
IsBest-no_row kinds text found no_row best =
    let none : (n : ℕ) → n ≤ length text → is_some (punctuator_of (take n text)) ≡ true → ⊥ = λ n inside some.
    let row : (a : ℕ) × (punctuator_of (take n text) ≡ Some a) = some_is _ some in
    let stands = front_stands text n row.0 inside row.1 in
    no_row row.0 stands.0 stands.1 in
    record {
      inside = best.inside;
      above = best.above;
      is = punctuator_or_not _ _ (none found.length best.inside) ∙ best.is;
      longest = λ n inside some.
          elim (punctuator_or_cases (punctuator_of (take n text)) (kinds (take n text)) some) [
            | inl here ↦ absurd (none n inside here)
            | inr other ↦ best.longest n inside other
          ];
    }

-- where one stands
pub IsBest-row : (kinds : List ℕ → Option PpKind) (text : List ℕ) (found : Found) (row far : ℕ) → IsLongestRow text row far → IsBest kinds text found →
    IsBest (λ s. punctuator_or (punctuator_of s) (kinds s)) text (or_longer found (Punctuator row) far)
unfolding or_longer
IsBest-row kinds text found row far stands best =
    let above : 0 < found.length = best.above in
    let most : (n : ℕ) → n ≤ length text → is_some (punctuator_of (take n text)) ≡ true → n ≤ far = λ n inside some.
    let other : (a : ℕ) × (punctuator_of (take n text) ≡ Some a) = some_is _ some in
    let front = front_stands text n other.0 inside other.1 in
    let h = stands.longest other.0 front.0 front.1 in
    omega (arith, h, front.2) in
    let here : punctuator_of (take far text) ≡ Some row = subst (λ s. punctuator_of s ≡ Some row) stands.is (punctuator_of-row row stands.numbered) in
    cond_both (leb found.length far) (make_found (Punctuator row) far) found (λ p. IsBest (λ s. punctuator_or (punctuator_of s) (kinds s)) text p)
    (λ e.
    let longer : found.length ≤ far = leb-true _ _ e in
    record {
      inside = stands.inside;
      above = stands.above;
      is = ap (λ o. punctuator_or o (kinds (take far text))) here;
      longest = λ n inside some.
          elim (punctuator_or_cases (punctuator_of (take n text)) (kinds (take n text)) some) [
            | inl one ↦ most n inside one
            | inr other ↦ let h : n ≤ found.length = best.longest n inside other in omega arith
          ];
    })
    (λ e.
    let shorter : far < found.length = leb-false _ _ e in
    record {
      inside = best.inside;
      above = best.above;
      is = punctuator_or_not _ _ (λ some. let h : found.length ≤ far = most found.length best.inside some in omega arith) ∙ best.is;
      longest = λ n inside some.
          elim (punctuator_or_cases (punctuator_of (take n text)) (kinds (take n text)) some) [
            | inl one ↦ let h : n ≤ far = most n inside one in omega arith
            | inr other ↦ best.longest n inside other
          ];
    })

header_test-reach : (header : Bool) (text : List ℕ) → IsReach (λ s. header && is_header s) text (cond header (header_length text) 0)
header_test-reach true text = header-reach text
header_test-reach false text = record {
  inside = omega arith;
  passed = λ above. absurd (omega arith);
  longest = λ n inside passed. absurd (false≢true passed);
}

best_of-kinds : (header : Bool) (text : List ℕ) (found : Found) →
    IsBest (λ s. punctuator_or (punctuator_of s) (stray_kinds s)) text found → IsBest (kind_of header) text (best_of header text found)
unfolding best_of kind_of
best_of-kinds header text found best =
    IsBest-or_longer (λ s. header && is_header s) Header _ _ text _ (header_test-reach header text)
    (IsBest-or_longer is_identifier Identifier _ _ text _ (identifier-reach text)
    (IsBest-or_longer is_number Number _ _ text _ (number-reach text)
    (IsBest-or_longer is_character Character _ _ text _ (character-reach text)
    (IsBest-or_longer is_literal Literal _ _ text _ (literal-reach text) best))))

pub best_of-row : (header : Bool) (text : List ℕ) (row far : ℕ) → 0 < length text → IsLongestRow text row far →
    IsBest (kind_of header) text (best_of header text (or_longer (make_found Stray 1) (Punctuator row) far))
best_of-row header [] row far some stands = absurd (omega arith)
best_of-row header (byte ∷ text) row far some stands =
    best_of-kinds header (byte ∷ text) _ (IsBest-row stray_kinds (byte ∷ text) (make_found Stray 1) row far stands (IsBest-stray byte text))

pub best_of-no_row : (header : Bool) (text : List ℕ) → 0 < length text → HasNoRow text → IsBest (kind_of header) text (best_of header text (make_found Stray 1))
best_of-no_row header [] some none = absurd (omega arith)
best_of-no_row header (byte ∷ text) some none =
    best_of-kinds header (byte ∷ text) _ (IsBest-no_row stray_kinds (byte ∷ text) (make_found Stray 1) none (IsBest-stray byte text))

-- no punctuator begins with a byte of an identifier
abbrev begins_apart : List ℕ → Bool
begins_apart [] = false
begins_apart (byte ∷ others) = not (is_word byte)

rows_begin_apart : list_all begins_apart punctuator_rows ≡ true
unfolding punctuator_rows is_word is_nondigit is_digit
rows_begin_apart = refl

pub list_all-at : (test : List ℕ → Bool) (rows : List (List ℕ)) (k : ℕ) → list_all test rows ≡ true → k < length rows → test (row_at rows k) ≡ true
list_all-at test [] k all inside = absurd (omega arith)
list_all-at test (row ∷ rows) zero all inside = (and_parts _ _ all).0
list_all-at test (row ∷ rows) (suc k) all inside = list_all-at test rows k (and_parts _ _ all).1 (omega arith)

apart_row : (byte : ℕ) (text row : List ℕ) → begins_apart row ≡ true → is_word byte ≡ true → take (length row) (byte ∷ text) ≡ row → ⊥
apart_row byte text [] apart word stands = false≢true apart
apart_row byte text (first ∷ row) apart word stands =
    let same : byte ≡ first = cc in
    false≢true (sym (not-true _ apart) ∙ (ap is_word (sym same) ∙ word))

no_row_word : (byte : ℕ) (text : List ℕ) → is_word byte ≡ true → HasNoRow (byte ∷ text)
no_row_word byte text word k inside stands =
    apart_row byte text (row_at punctuator_rows k) (list_all-at begins_apart punctuator_rows k rows_begin_apart inside) word stands

pub word_no_row : (text : List ℕ) (i : ℕ) → i < length text → is_word (get_or text i 0) ≡ true → HasNoRow (drop i text)
word_no_row text i inside word =
    subst (λ (t : List ℕ). HasNoRow t) (sym (at_drop_more (λ t. t) text i 0 inside)) (no_row_word (get_or text i 0) (drop (i + 1) text) word)

-- a class is a kind that is no stray
chain_without : (a b c d : Bool) (row : Option ℕ) (e : Bool) →
    kind_if a Identifier (kind_if b Number (kind_if c Character (kind_if d Literal (punctuator_or row None))))
    ≡ without_stray (kind_if a Identifier (kind_if b Number (kind_if c Character (kind_if d Literal (punctuator_or row (kind_if e Stray None))))))
unfolding without_stray
chain_without true b c d row e = refl
chain_without false true c d row e = refl
chain_without false false true d row e = refl
chain_without false false false true row e = refl
chain_without false false false false (Some row) e = refl
chain_without false false false false None true = refl
chain_without false false false false None false = refl

pub class_of-without : (spelling : List ℕ) → class_of spelling ≡ without_stray (kind_of false spelling)
unfolding class_of kind_of
class_of-without spelling =
    chain_without (is_identifier spelling) (is_number spelling) (is_character spelling) (is_literal spelling) (punctuator_of spelling) (eqb (length spelling) 1)

-- the whole is the longest token
pub class_of-whole : (text : List ℕ) (found : Found) → IsBest (kind_of false) text found → found.length ≡ length text → class_of text ≡ without_stray (Some found.kind)
class_of-whole text found best whole =
    class_of-without text ∙ ap without_stray (ap (kind_of false) (sym (take_all found.length text (omega arith))) ∙ best.is)

none_from : {A : Type 0} (o : Option A) → (is_some o ≡ true → ⊥) → o ≡ None
none_from None none = refl
none_from (Some a) none = absurd (none refl)

-- the longest token is shorter
pub class_of-part : (text : List ℕ) (found : Found) → IsBest (kind_of false) text found → found.length < length text → class_of text ≡ None
unfolding without_stray
class_of-part text found best shorter =
    class_of-without text ∙ ap without_stray (none_from (kind_of false text) (λ some.
    let h : length text ≤ found.length = best.longest (length text) (omega arith) (subst (λ (s : List ℕ). is_some (kind_of false s) ≡ true) (sym (take_all (length text) text (omega arith))) some) in
    omega arith))

-- nothing is no token
class_of-empty : class_of [] ≡ None
unfolding class_of is_identifier is_number is_character is_plain_character is_literal is_plain_literal behind punctuator_of punctuator_rows
class_of-empty = refl

pub class_of-none : (text : List ℕ) → length text ≡ 0 → class_of text ≡ None
class_of-none [] none = class_of-empty
class_of-none (byte ∷ text) none = absurd (omega arith)

-- and of no kind
pub kind_of-empty : (header : Bool) → kind_of header [] ≡ None
unfolding kind_of is_header is_identifier is_number is_character is_plain_character is_literal is_plain_literal behind punctuator_of punctuator_rows
kind_of-empty true = refl
kind_of-empty false = refl
