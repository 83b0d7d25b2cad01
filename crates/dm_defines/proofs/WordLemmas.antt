-- A word before a byte that is no part of a word is a token.
use Rattle.std.proofs.Common.{◌≡◌, ℕ, zero, suc, ◌+◌, ◌-◌, ◌<◌, ◌≤◌, Bool, true, false, ◌&&◌, ◌||◌, ◌⊎◌, inl, inr, List, [], ◌∷◌, ◌++◌, length, take, Option, None, Some, is_some, eqb, refl, sym, ap, ◌∙◌, subst, arith, true≢false}
use Rattle.std.specs.List.{list_all}
use Rattle.std.proofs.lemmas.Bool.{eqb-true, cases_lt}
use Rattle.std.proofs.lemmas.List.{length-append, take_all}
use Rattle.std.proofs.lemmas.List.Folds.{list_all-append}
use Rattle.dm_token.specs.declared.token.PpKind.TheVariants.{Identifier, Number, Character as Constant, Literal, Stray}
use Rattle.dm_lex.specs.Classes.{is_nondigit, is_digit, is_word, is_prefix, behind, filled, closes, continues_number, is_identifier, is_number, is_character, is_literal, is_plain_character, is_plain_literal, punctuator_of, kind_if, punctuator_or, kind_of, full_stop, apostrophe, quotation_mark, slash}
use Rattle.dm_lex.specs.Cuts.{IsToken, is_blank, opens_blank, opens_block, opens_line}
use Rattle.dm_lex.proofs.KindLemmas.{punctuator_of-some, word_no_row}

and-false : (a b : Bool) → a ≡ false → (a && b) ≡ false
and-false true b e = absurd (true≢false e)
and-false false b e = refl

and-left : (a b : Bool) → b ≡ false → (a && b) ≡ false
and-left true b e = e
and-left false b e = refl

pub both-true : (a b : Bool) → (a && b) ≡ true → (a ≡ true) × (b ≡ true)
both-true true b e = (refl, e)
both-true false b e = absurd (true≢false (sym e))

pub apart : (test : ℕ → Bool) (a b : ℕ) → test a ≡ true → test b ≡ false → eqb a b ≡ false
apart test a b is isn't = by (eqb a b) refl
  where
    by : (t : Bool) → eqb a b ≡ t → t ≡ false
    by true e = absurd (true≢false (sym is ∙ ap test (eqb-true a b e) ∙ isn't))
    by false e = refl

nondigit-digit : (byte : ℕ) → is_nondigit byte ≡ true → is_digit byte ≡ false
unfolding is_digit is_nondigit
nondigit-digit byte n = grind (arith, n)

pub nondigit-apart : (a b : ℕ) → is_nondigit a ≡ true → is_nondigit b ≡ false → eqb a b ≡ false
nondigit-apart a b is isn't = apart is_nondigit a b is isn't

-- a byte that ends a word
pub record EndsWord (byte : ℕ) : Type 0 where
  pub no_word : is_word byte ≡ false
  pub no_apostrophe : eqb byte apostrophe ≡ false
  pub no_quotation : eqb byte quotation_mark ≡ false
  pub no_eight : eqb byte 56 ≡ false

-- ---- the classes

no-identifier : (a : ℕ) (more : List ℕ) (byte : ℕ) (r : List ℕ) → EndsWord byte → is_identifier (a ∷ (more ++ byte ∷ r)) ≡ false
unfolding is_identifier behind
no-identifier a more byte r ends =
    and-left (is_nondigit a) _ (list_all-append is_word more (byte ∷ r) ∙ and-left (list_all is_word more) _ (and-false (is_word byte) _ ends.no_word))

no-number : (a : ℕ) (others : List ℕ) → is_nondigit a ≡ true → is_number (a ∷ others) ≡ false
unfolding is_number behind is_nondigit
no-number a others n = by (is_digit a) (eqb a full_stop) (nondigit-digit a n) (nondigit-apart a full_stop n refl)
  where
    by : (d f : Bool) → d ≡ false → f ≡ false → ((d && continues_number false others) || (f && behind is_digit (continues_number false) others)) ≡ false
    by true f e g = absurd (true≢false e)
    by false true e g = absurd (true≢false g)
    by false false e g = refl

-- what stands behind the first byte doesn't begin with a quote
second-apart : (more : List ℕ) (byte : ℕ) (r : List ℕ) (quote : ℕ) (test : List ℕ → Bool) → list_all is_word more ≡ true → is_word quote ≡ false → eqb byte quote ≡ false
    → behind (λ b. eqb b quote) test (more ++ byte ∷ r) ≡ false
unfolding behind
second-apart [] byte r quote test all isn't apart_end = and-false (eqb byte quote) _ apart_end
second-apart (b ∷ more) byte r quote test all isn't apart_end = and-false (eqb b quote) _ (apart is_word b quote (both-true (is_word b) (list_all is_word more) all).0 isn't)

no-character : (a : ℕ) (more : List ℕ) (byte : ℕ) (r : List ℕ) → is_nondigit a ≡ true → list_all is_word more ≡ true → EndsWord byte → is_character (a ∷ (more ++ byte ∷ r)) ≡ false
unfolding is_character is_plain_character behind is_nondigit is_word is_digit
no-character a more byte r n all ends = by (eqb a apostrophe) (nondigit-apart a apostrophe n refl) (second-apart more byte r apostrophe (filled apostrophe (closes apostrophe false)) all refl ends.no_apostrophe)
  where
    by : (q : Bool) → q ≡ false → behind (λ b. eqb b apostrophe) (filled apostrophe (closes apostrophe false)) (more ++ byte ∷ r) ≡ false
        → ((q && filled apostrophe (closes apostrophe false) (more ++ byte ∷ r)) || (is_prefix a && behind (λ b. eqb b apostrophe) (filled apostrophe (closes apostrophe false)) (more ++ byte ∷ r))) ≡ false
    by true e second = absurd (true≢false e)
    by false e second = and-left (is_prefix a) _ second

no-eighth : (more : List ℕ) (byte : ℕ) (r : List ℕ) → list_all is_word more ≡ true → EndsWord byte → behind (λ b. eqb b 56) (behind (λ b. eqb b quotation_mark) (closes quotation_mark false)) (more ++ byte ∷ r) ≡ false
unfolding behind is_word is_nondigit is_digit
no-eighth [] byte r all ends = and-false (eqb byte 56) _ ends.no_eight
no-eighth (b ∷ more) byte r all ends =
    and-left (eqb b 56) _ (second-apart more byte r quotation_mark (closes quotation_mark false) (both-true (is_word b) (list_all is_word more) all).1 refl ends.no_quotation)

no-literal : (a : ℕ) (more : List ℕ) (byte : ℕ) (r : List ℕ) → is_nondigit a ≡ true → list_all is_word more ≡ true → EndsWord byte → is_literal (a ∷ (more ++ byte ∷ r)) ≡ false
unfolding is_literal is_plain_literal behind is_nondigit is_word is_digit
no-literal a more byte r n all ends =
    by (eqb a quotation_mark) (nondigit-apart a quotation_mark n refl) (second-apart more byte r quotation_mark (closes quotation_mark false) all refl ends.no_quotation) (no-eighth more byte r all ends)
  where
    by : (q : Bool) → q ≡ false → behind (λ b. eqb b quotation_mark) (closes quotation_mark false) (more ++ byte ∷ r) ≡ false
        → behind (λ b. eqb b 56) (behind (λ b. eqb b quotation_mark) (closes quotation_mark false)) (more ++ byte ∷ r) ≡ false
        → ((q && closes quotation_mark false (more ++ byte ∷ r)) || (is_prefix a && behind (λ b. eqb b quotation_mark) (closes quotation_mark false) (more ++ byte ∷ r))
        || (eqb a 117 && behind (λ b. eqb b 56) (behind (λ b. eqb b quotation_mark) (closes quotation_mark false)) (more ++ byte ∷ r))) ≡ false
    by true e second third = absurd (true≢false e)
    by false e second third = or-false (and-left (is_prefix a) _ second) (and-left (eqb a 117) _ third)
      where
        or-false : {x y : Bool} → x ≡ false → y ≡ false → (x || y) ≡ false
        or-false {x} {y} e f = ap (λ b. b || y) e ∙ f

no-row : (a : ℕ) (others : List ℕ) → is_word a ≡ true → punctuator_of (a ∷ others) ≡ None
no-row a others w = by (punctuator_of (a ∷ others)) refl
  where
    by : (o : Option ℕ) → punctuator_of (a ∷ others) ≡ o → o ≡ None
    by None e = refl
    by (Some row) e =
        let is = punctuator_of-some (a ∷ others) row e in
        absurd (word_no_row (a ∷ others) 0 (omega arith) w row is.0 (subst (λ (it : List ℕ). take (length it) (a ∷ others) ≡ it) is.1 (take_all (length (a ∷ others)) (a ∷ others) (omega arith))))

nondigit-word : (a : ℕ) → is_nondigit a ≡ true → is_word a ≡ true
unfolding is_word
nondigit-word a n = rw n refl

no-stray : (a : ℕ) (more : List ℕ) (byte : ℕ) (r : List ℕ) → eqb (length (a ∷ (more ++ byte ∷ r))) 1 ≡ false
no-stray a more byte r = by (eqb (length (a ∷ (more ++ byte ∷ r))) 1) refl
  where
    by : (t : Bool) → eqb (length (a ∷ (more ++ byte ∷ r))) 1 ≡ t → t ≡ false
    by true e = let same = eqb-true (length (a ∷ (more ++ byte ∷ r))) 1 e in let size = length-append more (byte ∷ r) in absurd (omega (arith, same, size))
    by false e = refl

-- no class has a word with a byte that ends it
word-over : (name : List ℕ) (byte : ℕ) (r : List ℕ) → is_identifier name ≡ true → EndsWord byte → kind_of false (name ++ byte ∷ r) ≡ None
unfolding kind_of is_identifier behind
word-over [] byte r is ends = absurd (true≢false (sym is))
word-over (a ∷ more) byte r is ends =
    let parts = both-true (is_nondigit a) (list_all is_word more) is in
    all (is_identifier (a ∷ (more ++ byte ∷ r))) (is_number (a ∷ (more ++ byte ∷ r))) (is_character (a ∷ (more ++ byte ∷ r))) (is_literal (a ∷ (more ++ byte ∷ r))) (punctuator_of (a ∷ (more ++ byte ∷ r))) (eqb (length (a ∷ (more ++ byte ∷ r))) 1)
    (no-identifier a more byte r ends) (no-number a (more ++ byte ∷ r) parts.0) (no-character a more byte r parts.0 parts.1 ends) (no-literal a more byte r parts.0 parts.1 ends)
    (no-row a (more ++ byte ∷ r) (nondigit-word a parts.0)) (no-stray a more byte r)
  where
    all : (i n c l : Bool) (p : Option ℕ) (s : Bool) → i ≡ false → n ≡ false → c ≡ false → l ≡ false → p ≡ None → s ≡ false
        → kind_if i Identifier (kind_if n Number (kind_if c Constant (kind_if l Literal (punctuator_or p (kind_if s Stray None))))) ≡ None
    all i n c l p s ei en ec el ep es =
        ap (λ b. kind_if b Identifier (kind_if n Number (kind_if c Constant (kind_if l Literal (punctuator_or p (kind_if s Stray None)))))) ei
        ∙ ap (λ b. kind_if b Number (kind_if c Constant (kind_if l Literal (punctuator_or p (kind_if s Stray None))))) en
        ∙ ap (λ b. kind_if b Constant (kind_if l Literal (punctuator_or p (kind_if s Stray None)))) ec
        ∙ ap (λ b. kind_if b Literal (punctuator_or p (kind_if s Stray None))) el
        ∙ ap (λ o. punctuator_or o (kind_if s Stray None)) ep
        ∙ ap (λ b. kind_if b Stray None) es

word-kind : (name : List ℕ) → is_identifier name ≡ true → kind_of false name ≡ Some Identifier
unfolding kind_of
word-kind name is = ap (λ b. kind_if b Identifier (kind_if (is_number name) Number (kind_if (is_character name) Constant (kind_if (is_literal name) Literal (punctuator_or (punctuator_of name) (kind_if (eqb (length name) 1) Stray None)))))) is

take-over : (name : List ℕ) (byte : ℕ) (r : List ℕ) (n : ℕ) → length name < n → take n (name ++ byte ∷ r) ≡ name ++ byte ∷ take (n - (length name + 1)) r
take-over [] byte r zero h = absurd (omega (arith, h))
take-over [] byte r (suc n) h = ap (λ k. byte ∷ take k r) (omega arith)
take-over (a ∷ name) byte r zero h = absurd (omega (arith, h))
take-over (a ∷ name) byte r (suc n) h = ap (λ t. a ∷ t) (take-over name byte r n (omega (arith, h)) ∙ ap (λ k. name ++ byte ∷ take k r) (omega (arith, h)))

word-opens : (name rest : List ℕ) → is_identifier name ≡ true → (opens_blank (name ++ rest) ≡ false) × (opens_block (name ++ rest) ≡ false) × (opens_line (name ++ rest) ≡ false)
unfolding opens_blank opens_block opens_line behind is_blank is_identifier is_nondigit
word-opens [] rest is = absurd (true≢false (sym is))
word-opens (a ∷ more) rest is =
    let n = (both-true (is_nondigit a) (list_all is_word more) is).0 in (
      blank (eqb a 32) (eqb a 9) (eqb a 11) (eqb a 12) (eqb a 10) (nondigit-apart a 32 n refl) (nondigit-apart a 9 n refl) (nondigit-apart a 11 n refl) (nondigit-apart a 12 n refl) (nondigit-apart a 10 n refl),
      and-false (eqb a slash) _ (nondigit-apart a slash n refl),
      and-false (eqb a slash) _ (nondigit-apart a slash n refl),
    )
  where
    blank : (s t v f l : Bool) → s ≡ false → t ≡ false → v ≡ false → f ≡ false → l ≡ false → ((((((s || t) || v) || f) || l)) && true) ≡ false
    blank s t v f l es et ev ef el =
        ap (λ b. ((((((b || t) || v) || f) || l)) && true)) es ∙ ap (λ b. (((((b || v) || f) || l)) && true)) et ∙ ap (λ b. ((((b || f) || l)) && true)) ev ∙ ap (λ b. (((b || l)) && true)) ef ∙ ap (λ b. (b && true)) el

-- ---- the token

pub word-token : (name : List ℕ) (byte : ℕ) (r : List ℕ) → is_identifier name ≡ true → EndsWord byte → IsToken false Identifier name (byte ∷ r)
word-token name byte r is ends = record {
  kind_is = word-kind name is;
  longest = λ n inside some. at n some (cases_lt (length name) n);
  no_blank = (word-opens name (byte ∷ r) is).0;
  no_block = (word-opens name (byte ∷ r) is).1;
  no_line = (word-opens name (byte ∷ r) is).2;
}
  where
    at : (n : ℕ) → is_some (kind_of false (take n (name ++ byte ∷ r))) ≡ true → (length name < n) ⊎ (n ≤ length name) → n ≤ length name
    at n some (inr h) = h
    at n some (inl over) = absurd (true≢false (sym some ∙ ap (λ s. is_some (kind_of false s)) (take-over name byte r n over) ∙ ap is_some (word-over name byte (take (n - (length name + 1)) r) is ends)))
