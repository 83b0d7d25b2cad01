-- Which classes may begin with a byte.
use Rattle.std.proofs.Common.{◌≡◌, ℕ, ◌+◌, ◌<◌, ◌≤◌, max, Bool, true, false, cond, not, eqb, leb, length-drop, ◌&&◌, ◌||◌, List, ◌∷◌, length, get_or, drop, refl, ap, sym, ◌∙◌, subst, arith, inl, inr}
use Rattle.std.proofs.lemmas.List.{at_drop_more}
use Rattle.std.proofs.lemmas.Bool.{and_parts, not-true, both_ways, ne_eqb, lt-leb, le-leb, leb-true, cond-true, cond-false, cases_Bool}
use Rattle.dm_token.specs.declared.token.PpKind.{PpKind}
use Rattle.dm_token.specs.declared.token.PpKind.TheVariants.{Identifier, Number, Character, Literal, Header, Stray}
use Rattle.dm_lex.specs.declared.scan.Found.{Found}
use Rattle.dm_lex.specs.Classes.{is_digit, is_nondigit, is_word, is_prefix, quotation_mark, apostrophe, full_stop, less, kind_of}
use Rattle.dm_lex.specs.Reach.{IsBest}
use Rattle.dm_lex.specs.Lengths.{prefixed, led, identifier_length, digits_length, number_length, plain_character_length, character_length, plain_literal_length, literal_length, name_length, header_length, make_found, or_longer, best_of, is_letter, is_mark}
use Rattle.dm_lex.proofs.KindLemmas.{best_of-no_row, word_no_row}

-- bytes of which one passes a test and the other doesn't
apart : (test : ℕ → Bool) (byte other : ℕ) → test byte ≡ true → test other ≡ false → eqb byte other ≡ false
apart test byte other so not_so = ne_eqb byte other (λ same. both_ways (test byte) (ap test same ∙ not_so) so)

or_none : (x y : Bool) → (x || y) ≡ false → (x ≡ false) × (y ≡ false)
or_none true y e = absurd (both_ways true e refl)
or_none false y e = (refl, e)

-- a byte that is no prefix is no `u`
prefix_no_u : (byte : ℕ) → is_prefix byte ≡ false → eqb byte 117 ≡ false
unfolding is_prefix
prefix_no_u byte e = (or_none (eqb byte 76) (eqb byte 117) (or_none (eqb byte 76 || eqb byte 117) (eqb byte 85) e).0).1

-- classes that don't begin with a byte
literal-none : (byte : ℕ) (others : List ℕ) → eqb byte quotation_mark ≡ false → is_prefix byte ≡ false → literal_length (byte ∷ others) ≡ 0
unfolding literal_length plain_literal_length prefixed
literal-none byte others q p = rw (q, p, prefix_no_u byte p) refl

character-none : (byte : ℕ) (others : List ℕ) → eqb byte apostrophe ≡ false → is_prefix byte ≡ false → character_length (byte ∷ others) ≡ 0
unfolding character_length plain_character_length prefixed
character-none byte others a p = rw (a, p) refl

fraction-none : (byte : ℕ) (others : List ℕ) → eqb byte full_stop ≡ false → number_length (byte ∷ others) ≡ max (digits_length (byte ∷ others)) 0
unfolding number_length prefixed
fraction-none byte others f = rw f refl

digits-none : (byte : ℕ) (others : List ℕ) → is_digit byte ≡ false → digits_length (byte ∷ others) ≡ 0
unfolding digits_length led
digits-none byte others d = rw d refl

digits-some : (byte : ℕ) (others : List ℕ) → is_digit byte ≡ true → 0 < digits_length (byte ∷ others)
unfolding digits_length led
digits-some byte others d = rw d (omega arith)

identifier-none : (byte : ℕ) (others : List ℕ) → is_nondigit byte ≡ false → identifier_length (byte ∷ others) ≡ 0
unfolding identifier_length led
identifier-none byte others n = rw n refl

identifier-some : (byte : ℕ) (others : List ℕ) → is_nondigit byte ≡ true → 0 < identifier_length (byte ∷ others)
unfolding identifier_length led
identifier-some byte others n = rw n (omega arith)

header-none : (byte : ℕ) (others : List ℕ) → eqb byte less ≡ false → eqb byte quotation_mark ≡ false → header_length (byte ∷ others) ≡ 0
unfolding header_length name_length prefixed
header-none byte others l q = rw (l, q) refl

-- a digit is no other byte of a word
digit_no_nondigit : (byte : ℕ) → is_digit byte ≡ true → is_nondigit byte ≡ false
unfolding is_digit is_nondigit
digit_no_nondigit byte d = grind (arith, d)

digit_no_prefix : (byte : ℕ) → is_digit byte ≡ true → is_prefix byte ≡ false
unfolding is_digit is_prefix
digit_no_prefix byte d = grind (arith, d)

prefix_nondigit : (byte : ℕ) → is_prefix byte ≡ true → is_nondigit byte ≡ true
unfolding is_prefix is_nondigit
prefix_nondigit byte p = grind (arith, p)

-- lengths of 0 change nothing, and one that is as long is taken
keeps : (found : Found) (kind : PpKind) (far : ℕ) → far ≡ 0 → 0 < found.length → or_longer found kind far ≡ found
unfolding or_longer
keeps found kind far none some = cond-false _ _ _ (lt-leb found.length far (omega arith))

takes : (found : Found) (kind : PpKind) (far : ℕ) → found.length ≤ far → or_longer found kind far ≡ make_found kind far
unfolding or_longer
takes found kind far more = cond-true _ _ _ (le-leb found.length far more)

longer-not : (found : Found) (kind : PpKind) (far : ℕ) → leb found.length far ≡ false → or_longer found kind far ≡ found
unfolding or_longer
longer-not found kind far e = cond-false _ _ _ e

pub or_longer-some : (found : Found) (kind : PpKind) (far : ℕ) → 0 < found.length → 0 < (or_longer found kind far).length
or_longer-some found kind far some =
    elim (cases_Bool (leb found.length far)) [
      | inl e ↦ let more : found.length ≤ far = leb-true _ _ e in rw (takes found kind far more) (omega arith)
      | inr e ↦ rw (longer-not found kind far e) some
    ]

-- a header name's length where none begins
header-if : (header : Bool) (far : ℕ) → far ≡ 0 → cond header far 0 ≡ 0
header-if true far e = e
header-if false far e = refl

module _ (header : Bool) (text : List ℕ) (found : Found) (some : 0 < found.length) (l : literal_length text ≡ 0) (c : character_length text ≡ 0) (h : header_length text ≡ 0) where
  best_of-identifier : number_length text ≡ 0 → found.length ≤ identifier_length text → best_of header text found ≡ make_found Identifier (identifier_length text)
  unfolding best_of
  best_of-identifier n more =
      let last : ℕ = cond header (header_length text) 0 in
      ap (λ (f : Found). or_longer (or_longer (or_longer (or_longer f Character (character_length text)) Number (number_length text)) Identifier (identifier_length text)) Header last) (keeps found Literal (literal_length text) l some)
      ∙ ap (λ (f : Found). or_longer (or_longer (or_longer f Number (number_length text)) Identifier (identifier_length text)) Header last) (keeps found Character (character_length text) c some)
      ∙ ap (λ (f : Found). or_longer (or_longer f Identifier (identifier_length text)) Header last) (keeps found Number (number_length text) n some)
      ∙ ap (λ (f : Found). or_longer f Header last) (takes found Identifier (identifier_length text) more)
      ∙ keeps (make_found Identifier (identifier_length text)) Header last (header-if header (header_length text) h) (omega arith)

  best_of-number : identifier_length text ≡ 0 → found.length ≤ number_length text → best_of header text found ≡ make_found Number (number_length text)
  unfolding best_of
  best_of-number i more =
      let last : ℕ = cond header (header_length text) 0 in
      ap (λ (f : Found). or_longer (or_longer (or_longer (or_longer f Character (character_length text)) Number (number_length text)) Identifier (identifier_length text)) Header last) (keeps found Literal (literal_length text) l some)
      ∙ ap (λ (f : Found). or_longer (or_longer (or_longer f Number (number_length text)) Identifier (identifier_length text)) Header last) (keeps found Character (character_length text) c some)
      ∙ ap (λ (f : Found). or_longer (or_longer f Identifier (identifier_length text)) Header last) (takes found Number (number_length text) more)
      ∙ ap (λ (f : Found). or_longer f Header last) (keeps (make_found Number (number_length text)) Identifier (identifier_length text) i (omega arith))
      ∙ keeps (make_found Number (number_length text)) Header last (header-if header (header_length text) h) (omega arith)

  best_of-mark : number_length text ≡ 0 → identifier_length text ≡ 0 → best_of header text found ≡ found
  unfolding best_of
  best_of-mark n i =
      let last : ℕ = cond header (header_length text) 0 in
      ap (λ (f : Found). or_longer (or_longer (or_longer (or_longer f Character (character_length text)) Number (number_length text)) Identifier (identifier_length text)) Header last) (keeps found Literal (literal_length text) l some)
      ∙ ap (λ (f : Found). or_longer (or_longer (or_longer f Number (number_length text)) Identifier (identifier_length text)) Header last) (keeps found Character (character_length text) c some)
      ∙ ap (λ (f : Found). or_longer (or_longer f Identifier (identifier_length text)) Header last) (keeps found Number (number_length text) n some)
      ∙ ap (λ (f : Found). or_longer f Header last) (keeps found Identifier (identifier_length text) i some)
      ∙ keeps found Header last (header-if header (header_length text) h) some

-- an identifier
letter-is : (header : Bool) (byte : ℕ) (others : List ℕ) → is_letter byte ≡ true → best_of header (byte ∷ others) (make_found Stray 1) ≡ make_found Identifier (identifier_length (byte ∷ others))
unfolding is_letter is_nondigit
letter-is header byte others is =
    let parts = and_parts (is_nondigit byte) (not (is_prefix byte)) is in
    let prefix : is_prefix byte ≡ false = not-true _ parts.1 in
    let quotation : eqb byte quotation_mark ≡ false = apart is_nondigit byte quotation_mark parts.0 refl in
    let digit : is_digit byte ≡ false = elim (cases_Bool (is_digit byte)) [ inl d ↦ absurd (both_ways (is_nondigit byte) (digit_no_nondigit byte d) parts.0) | inr d ↦ d ] in
    let none : digits_length (byte ∷ others) ≡ 0 = digits-none byte others digit in
    best_of-identifier header (byte ∷ others) (make_found Stray 1) (omega arith) (literal-none byte others quotation prefix)
    (character-none byte others (apart is_nondigit byte apostrophe parts.0 refl) prefix)
    (header-none byte others (apart is_nondigit byte less parts.0 refl) quotation)
    (fraction-none byte others (apart is_nondigit byte full_stop parts.0 refl) ∙ omega (arith, none)) (identifier-some byte others parts.0)

-- a number
digit-is : (header : Bool) (byte : ℕ) (others : List ℕ) → is_digit byte ≡ true → best_of header (byte ∷ others) (make_found Stray 1) ≡ make_found Number (digits_length (byte ∷ others))
unfolding is_digit
digit-is header byte others is =
    let prefix : is_prefix byte ≡ false = digit_no_prefix byte is in
    let quotation : eqb byte quotation_mark ≡ false = apart is_digit byte quotation_mark is refl in
    let same : number_length (byte ∷ others) ≡ digits_length (byte ∷ others) = fraction-none byte others (apart is_digit byte full_stop is refl) ∙ omega arith in
    best_of-number header (byte ∷ others) (make_found Stray 1) (omega arith) (literal-none byte others quotation prefix)
    (character-none byte others (apart is_digit byte apostrophe is refl) prefix)
    (header-none byte others (apart is_digit byte less is refl) quotation)
    (identifier-none byte others (digit_no_nondigit byte is)) (omega (arith, same, digits-some byte others is))
    ∙ ap (make_found Number) same

-- a punctuator or a stray
mark-is : (header : Bool) (byte : ℕ) (others : List ℕ) (found : Found) → is_mark byte ≡ true → 0 < found.length → best_of header (byte ∷ others) found ≡ found
unfolding is_mark is_word
mark-is header byte others found is some =
    let four = and_parts (not (is_word byte) && not (eqb byte quotation_mark) && not (eqb byte apostrophe) && not (eqb byte full_stop)) (not (eqb byte less)) is in
    let three = and_parts (not (is_word byte) && not (eqb byte quotation_mark) && not (eqb byte apostrophe)) (not (eqb byte full_stop)) four.0 in
    let two = and_parts (not (is_word byte) && not (eqb byte quotation_mark)) (not (eqb byte apostrophe)) three.0 in
    let one = and_parts (not (is_word byte)) (not (eqb byte quotation_mark)) two.0 in
    let word : (is_nondigit byte ≡ false) × (is_digit byte ≡ false) = or_none (is_nondigit byte) (is_digit byte) (not-true _ one.0) in
    let prefix : is_prefix byte ≡ false = elim (cases_Bool (is_prefix byte)) [ inl p ↦ absurd (both_ways (is_nondigit byte) word.0 (prefix_nondigit byte p)) | inr p ↦ p ] in
    let none : digits_length (byte ∷ others) ≡ 0 = digits-none byte others word.1 in
    best_of-mark header (byte ∷ others) found some (literal-none byte others (not-true _ one.1) prefix) (character-none byte others (not-true _ two.1) prefix)
    (header-none byte others (not-true _ four.1) (not-true _ one.1))
    (fraction-none byte others (not-true _ three.1) ∙ omega (arith, none)) (identifier-none byte others word.0)

-- a byte of a word
nondigit_word : (byte : ℕ) → is_nondigit byte ≡ true → is_word byte ≡ true
unfolding is_word
nondigit_word byte n = rw n refl

digit_word : (byte : ℕ) → is_digit byte ≡ true → is_word byte ≡ true
unfolding is_word
digit_word byte d = elim (cases_Bool (is_nondigit byte)) [ inl n ↦ rw n refl | inr n ↦ rw (n, d) refl ]

some_left : (text : List ℕ) (at : ℕ) → at < length text → 0 < length (drop at text)
some_left text at inside = omega (arith, length-drop at text)

pub letter_best : (header : Bool) (text : List ℕ) (at : ℕ) → at < length text → is_letter (get_or text at 0) ≡ true →
    IsBest (kind_of header) (drop at text) (make_found Identifier (identifier_length (drop at text)))
unfolding is_letter
letter_best header text at inside is =
    let nondigit = (and_parts (is_nondigit (get_or text at 0)) (not (is_prefix (get_or text at 0))) is).0 in
    let same : best_of header (drop at text) (make_found Stray 1) ≡ make_found Identifier (identifier_length (drop at text)) =
    at_drop_more (λ t. best_of header t (make_found Stray 1)) text at 0 inside ∙ letter-is header (get_or text at 0) (drop (at + 1) text) is
    ∙ sym (at_drop_more (λ t. make_found Identifier (identifier_length t)) text at 0 inside) in
    subst (λ (f : Found). IsBest (kind_of header) (drop at text) f) same (best_of-no_row header (drop at text) (some_left text at inside) (word_no_row text at inside (nondigit_word _ nondigit)))

pub digit_best : (header : Bool) (text : List ℕ) (at : ℕ) → at < length text → is_digit (get_or text at 0) ≡ true →
    IsBest (kind_of header) (drop at text) (make_found Number (digits_length (drop at text)))
digit_best header text at inside is =
    let same : best_of header (drop at text) (make_found Stray 1) ≡ make_found Number (digits_length (drop at text)) =
    at_drop_more (λ t. best_of header t (make_found Stray 1)) text at 0 inside ∙ digit-is header (get_or text at 0) (drop (at + 1) text) is
    ∙ sym (at_drop_more (λ t. make_found Number (digits_length t)) text at 0 inside) in
    subst (λ (f : Found). IsBest (kind_of header) (drop at text) f) same (best_of-no_row header (drop at text) (some_left text at inside) (word_no_row text at inside (digit_word _ is)))

pub mark_best : (header : Bool) (text : List ℕ) (at : ℕ) (found : Found) → at < length text → is_mark (get_or text at 0) ≡ true → 0 < found.length →
    IsBest (kind_of header) (drop at text) (best_of header (drop at text) found) → IsBest (kind_of header) (drop at text) found
mark_best header text at found inside is some best =
    let same : best_of header (drop at text) found ≡ found =
    at_drop_more (λ t. best_of header t found) text at 0 inside ∙ mark-is header (get_or text at 0) (drop (at + 1) text) found is some in
    subst (λ (f : Found). IsBest (kind_of header) (drop at text) f) same best
