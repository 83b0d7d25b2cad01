-- How the reach of a class is found from left to right.
use Rattle.std.proofs.Common.{◌≡◌, ℕ, zero, suc, ◌+◌, ◌-◌, ◌<◌, ◌≤◌, Bool, true, false, cond, ◌&&◌, ◌||◌, not, eqb, List, [], ◌∷◌, length, get_or, drop, refl, ap, sym, ◌∙◌, subst, arith, inl, inr, length-drop}
use Rattle.std.proofs.lemmas.List.{at_drop_more, at_drop_all, get_or-drop, drop-drop}
use Rattle.std.proofs.lemmas.Bool.{cond_both, cond-true, cond-false, false≢true, eq-eqb, ne_eqb, cases_Bool, cases_eq, not-true, not_from_true, not_from_false}
use Rattle.dm_token.specs.Places.{newline}
use Rattle.dm_lex.specs.Classes.{apostrophe, quotation_mark, is_prefix, is_word, is_exponent, is_sign, full_stop, backslash, asterisk, slash}
use Rattle.dm_lex.specs.Cuts.{is_within_line}
use Rattle.dm_lex.specs.Lengths.{plain_character_length, led, prefixed, unless_closed}
use Rattle.dm_lex.specs.Reach.{beyond, reached, closing, closing_name, closing_comment, run, number_run, StaysOpen}

-- the byte at a place passes, or doesn't, or there is none
pub run-more : (test : ℕ → Bool) (text : List ℕ) (i : ℕ) → i < length text → test (get_or text i 0) ≡ true → run test (drop i text) ≡ suc (run test (drop (i + 1) text))
unfolding run
run-more test text i inside passes = at_drop_more (run test) text i 0 inside ∙ cond-true _ _ _ passes

pub run-stop : (test : ℕ → Bool) (text : List ℕ) (i : ℕ) → i < length text → test (get_or text i 0) ≡ false → run test (drop i text) ≡ 0
unfolding run
run-stop test text i inside fails = at_drop_more (run test) text i 0 inside ∙ cond-false _ _ _ fails

pub run-end : (test : ℕ → Bool) (text : List ℕ) (i : ℕ) → length text ≤ i → run test (drop i text) ≡ 0
unfolding run
run-end test text i past = at_drop_all (run test) text i past

-- the same for what continues a number
abbrev continues : Bool → ℕ → Bool
continues exponent byte = is_word byte || (eqb byte full_stop) || (exponent && is_sign byte)

pub number_run-more : (exponent : Bool) (text : List ℕ) (i : ℕ) → i < length text → continues exponent (get_or text i 0) ≡ true →
    number_run exponent (drop i text) ≡ suc (number_run (is_exponent (get_or text i 0)) (drop (i + 1) text))
unfolding number_run
number_run-more exponent text i inside passes = at_drop_more (number_run exponent) text i 0 inside ∙ cond-true _ _ _ passes

pub number_run-stop : (exponent : Bool) (text : List ℕ) (i : ℕ) → i < length text → continues exponent (get_or text i 0) ≡ false → number_run exponent (drop i text) ≡ 0
unfolding number_run
number_run-stop exponent text i inside fails = at_drop_more (number_run exponent) text i 0 inside ∙ cond-false _ _ _ fails

pub number_run-end : (exponent : Bool) (text : List ℕ) (i : ℕ) → length text ≤ i → number_run exponent (drop i text) ≡ 0
unfolding number_run
number_run-end exponent text i past = at_drop_all (number_run exponent) text i past

-- one step of what is reached behind some bytes
pub beyond-reached : (more further : ℕ) → beyond more (beyond 1 further) ≡ beyond (more + 1) further
unfolding beyond
beyond-reached more zero = refl
beyond-reached more (suc further) =
    let e : 1 + suc further ≡ suc (suc further) = omega arith in
    ap (beyond more) e ∙ (let f : more + suc (suc further) ≡ more + 1 + suc further = omega arith in f)

pub beyond-none : (more : ℕ) → beyond more 0 ≡ 0
unfolding beyond
beyond-none more = refl

pub beyond-zero : (far : ℕ) → beyond 0 far ≡ far
unfolding beyond
beyond-zero zero = refl
beyond-zero (suc far) = omega arith

pub beyond-one : (more : ℕ) → beyond more 1 ≡ more + 1
unfolding beyond
beyond-one more = refl

-- what is reached, by what the byte is
reached-stop : (stops done : Bool) (further : ℕ) → stops ≡ true → reached stops done further ≡ 0
unfolding reached
reached-stop stops done further e = cond-true stops _ _ e

reached-done : (stops done : Bool) (further : ℕ) → stops ≡ false → done ≡ true → reached stops done further ≡ 1
unfolding reached
reached-done stops done further e f = cond-false stops _ _ e ∙ cond-true done _ _ f

reached-more : (stops done : Bool) (further : ℕ) → stops ≡ false → done ≡ false → reached stops done further ≡ beyond 1 further
unfolding reached
reached-more stops done further e f = cond-false stops _ _ e ∙ cond-false done _ _ f

-- a literal behind its quote
closing-at : (quote : ℕ) (escaped : Bool) (text : List ℕ) (i : ℕ) → i < length text → closing quote escaped (drop i text) ≡
    reached (eqb (get_or text i 0) newline) (not escaped && eqb (get_or text i 0) quote) (closing quote (not escaped && eqb (get_or text i 0) backslash) (drop (i + 1) text))
unfolding closing
closing-at quote escaped text i inside = at_drop_more (closing quote escaped) text i 0 inside

pub closing-stop : (quote : ℕ) (escaped : Bool) (text : List ℕ) (i : ℕ) → i < length text → get_or text i 0 ≡ newline → closing quote escaped (drop i text) ≡ 0
closing-stop quote escaped text i inside same = closing-at quote escaped text i inside ∙ reached-stop _ _ _ (eq-eqb _ _ same)

pub closing-done : (quote : ℕ) (escaped : Bool) (text : List ℕ) (i : ℕ) → i < length text → (get_or text i 0 ≡ newline → ⊥) →
    (not escaped && eqb (get_or text i 0) quote) ≡ true → closing quote escaped (drop i text) ≡ 1
closing-done quote escaped text i inside apart done = closing-at quote escaped text i inside ∙ reached-done _ _ _ (ne_eqb _ _ apart) done

pub closing-more : (quote : ℕ) (escaped next : Bool) (text : List ℕ) (i : ℕ) → i < length text → (get_or text i 0 ≡ newline → ⊥) →
    (not escaped && eqb (get_or text i 0) quote) ≡ false → next ≡ (not escaped && eqb (get_or text i 0) backslash) →
    closing quote escaped (drop i text) ≡ beyond 1 (closing quote next (drop (i + 1) text))
closing-more quote escaped next text i inside apart going is =
    closing-at quote escaped text i inside ∙ (reached-more _ _ _ (ne_eqb _ _ apart) going ∙ ap (λ e. beyond 1 (closing quote e (drop (i + 1) text))) (sym is))

pub closing-end : (quote : ℕ) (escaped : Bool) (text : List ℕ) (i : ℕ) → length text ≤ i → closing quote escaped (drop i text) ≡ 0
unfolding closing
closing-end quote escaped text i past = at_drop_all (closing quote escaped) text i past

-- a header name behind its first byte
closing_name-at : (close : ℕ) (text : List ℕ) (i : ℕ) → i < length text → closing_name close (drop i text) ≡
    reached (eqb (get_or text i 0) newline) (eqb (get_or text i 0) close) (closing_name close (drop (i + 1) text))
unfolding closing_name
closing_name-at close text i inside = at_drop_more (closing_name close) text i 0 inside

pub closing_name-stop : (close : ℕ) (text : List ℕ) (i : ℕ) → i < length text → get_or text i 0 ≡ newline → closing_name close (drop i text) ≡ 0
closing_name-stop close text i inside same = closing_name-at close text i inside ∙ reached-stop _ _ _ (eq-eqb _ _ same)

pub closing_name-done : (close : ℕ) (text : List ℕ) (i : ℕ) → i < length text → (get_or text i 0 ≡ newline → ⊥) → get_or text i 0 ≡ close → closing_name close (drop i text) ≡ 1
closing_name-done close text i inside apart done = closing_name-at close text i inside ∙ reached-done _ _ _ (ne_eqb _ _ apart) (eq-eqb _ _ done)

pub closing_name-more : (close : ℕ) (text : List ℕ) (i : ℕ) → i < length text → (get_or text i 0 ≡ newline → ⊥) → (get_or text i 0 ≡ close → ⊥) →
    closing_name close (drop i text) ≡ beyond 1 (closing_name close (drop (i + 1) text))
closing_name-more close text i inside apart going = closing_name-at close text i inside ∙ reached-more _ _ _ (ne_eqb _ _ apart) (ne_eqb _ _ going)

pub closing_name-end : (close : ℕ) (text : List ℕ) (i : ℕ) → length text ≤ i → closing_name close (drop i text) ≡ 0
unfolding closing_name
closing_name-end close text i past = at_drop_all (closing_name close) text i past

-- a comment behind `/*`
closing_comment-at : (starred : Bool) (text : List ℕ) (i : ℕ) → i < length text → closing_comment starred (drop i text) ≡
    reached false (starred && eqb (get_or text i 0) slash) (closing_comment (eqb (get_or text i 0) asterisk) (drop (i + 1) text))
unfolding closing_comment
closing_comment-at starred text i inside = at_drop_more (closing_comment starred) text i 0 inside

pub closing_comment-done : (starred : Bool) (text : List ℕ) (i : ℕ) → i < length text → (starred && eqb (get_or text i 0) slash) ≡ true → closing_comment starred (drop i text) ≡ 1
closing_comment-done starred text i inside done = closing_comment-at starred text i inside ∙ reached-done _ _ _ refl done

pub closing_comment-more : (starred next : Bool) (text : List ℕ) (i : ℕ) → i < length text → (starred && eqb (get_or text i 0) slash) ≡ false → next ≡ eqb (get_or text i 0) asterisk →
    closing_comment starred (drop i text) ≡ beyond 1 (closing_comment next (drop (i + 1) text))
closing_comment-more starred next text i inside going is =
    closing_comment-at starred text i inside ∙ (reached-more _ _ _ refl going ∙ ap (λ e. beyond 1 (closing_comment e (drop (i + 1) text))) (sym is))

pub closing_comment-end : (starred : Bool) (text : List ℕ) (i : ℕ) → length text ≤ i → closing_comment starred (drop i text) ≡ 0
unfolding closing_comment
closing_comment-end starred text i past = at_drop_all (closing_comment starred) text i past

-- a literal that doesn't close leaves each quote behind it on its line open
beyond-none_from : (r : ℕ) → beyond 1 r ≡ 0 → r ≡ 0
unfolding beyond
beyond-none_from zero e = refl
beyond-none_from (suc r) e = absurd (omega arith)

run-none : (test : ℕ → Bool) (byte : ℕ) (text : List ℕ) (k : ℕ) → k < run test (byte ∷ text) → test byte ≡ true
unfolding run
run-none test byte text k below =
    elim (cases_Bool (test byte)) [
      | inl passes ↦ passes
      | inr fails ↦ absurd (let e : run test (byte ∷ text) ≡ 0 = cond-false _ _ _ fails in omega arith)
    ]

run-next : (test : ℕ → Bool) (byte : ℕ) (text : List ℕ) (k : ℕ) → suc k < run test (byte ∷ text) → k < run test text
unfolding run
run-next test byte text k below =
    let e : run test (byte ∷ text) ≡ suc (run test text) = cond-true _ _ _ (run-none test byte text (suc k) below) in omega arith

within_line-apart : (byte : ℕ) → is_within_line byte ≡ true → eqb byte newline ≡ false
unfolding is_within_line
within_line-apart byte within = not-true _ within

stays_open : (quote : ℕ) (escaped : Bool) (text : List ℕ) (k : ℕ) → closing quote escaped text ≡ 0 → k < run is_within_line text → get_or text k 0 ≡ quote →
    closing quote false (drop (suc k) text) ≡ 0
unfolding closing
stays_open quote escaped [] k unclosed below here = absurd (omega (arith, run-end is_within_line [] 0 (omega arith)))
stays_open quote escaped (byte ∷ text) zero unclosed below here =
    first escaped (within_line-apart byte (run-none is_within_line byte text 0 below)) unclosed
  where
    first : (e : Bool) → eqb byte newline ≡ false → reached (eqb byte newline) (not e && eqb byte quote) (closing quote (not e && eqb byte backslash) text) ≡ 0 → closing quote false text ≡ 0
    first true apart is = beyond-none_from _ (sym (reached-more _ _ _ apart refl) ∙ is)
    first false apart is = absurd (let one : 1 ≡ 0 = sym (reached-done _ _ _ apart (eq-eqb _ _ here)) ∙ is in omega arith)
stays_open quote escaped (byte ∷ text) (suc k) unclosed below here =
    let apart : eqb byte newline ≡ false = within_line-apart byte (run-none is_within_line byte text (suc k) below) in
    elim (cases_Bool (not escaped && eqb byte quote)) [
      | inl done ↦ absurd (let one : 1 ≡ 0 = sym (reached-done _ _ _ apart done) ∙ unclosed in omega arith)
      | inr going ↦
          stays_open quote (not escaped && eqb byte backslash) text k (beyond-none_from _ (sym (reached-more _ _ _ apart going) ∙ unclosed))
          (run-next is_within_line byte text k below) here
    ]

-- whether a byte ends a line
pub is_within_line-not : (byte : ℕ) → byte ≡ newline → is_within_line byte ≡ false
unfolding is_within_line
is_within_line-not byte same = not_from_true _ (eq-eqb _ _ same)

pub is_within_line-so : (byte : ℕ) → (byte ≡ newline → ⊥) → is_within_line byte ≡ true
unfolding is_within_line
is_within_line-so byte apart = not_from_false _ (ne_eqb _ _ apart)

-- the combinators of lengths at a place
pub led-so : (first : ℕ → Bool) (far : List ℕ → ℕ) (text : List ℕ) (i : ℕ) → i < length text → first (get_or text i 0) ≡ true → led first far (drop i text) ≡ suc (far (drop (i + 1) text))
unfolding led
led-so first far text i inside holds = at_drop_more (led first far) text i 0 inside ∙ cond-true _ _ _ holds

pub led-not : (first : ℕ → Bool) (far : List ℕ → ℕ) (text : List ℕ) (i : ℕ) → i < length text → first (get_or text i 0) ≡ false → led first far (drop i text) ≡ 0
unfolding led
led-not first far text i inside fails = at_drop_more (led first far) text i 0 inside ∙ cond-false _ _ _ fails

pub led-end : (first : ℕ → Bool) (far : List ℕ → ℕ) (text : List ℕ) (i : ℕ) → length text ≤ i → led first far (drop i text) ≡ 0
unfolding led
led-end first far text i past = at_drop_all (led first far) text i past

pub prefixed-so : (first : ℕ → Bool) (far : List ℕ → ℕ) (text : List ℕ) (i : ℕ) → i < length text → first (get_or text i 0) ≡ true → prefixed first far (drop i text) ≡ beyond 1 (far (drop (i + 1) text))
unfolding prefixed
prefixed-so first far text i inside holds = at_drop_more (prefixed first far) text i 0 inside ∙ cond-true _ _ _ holds

pub prefixed-not : (first : ℕ → Bool) (far : List ℕ → ℕ) (text : List ℕ) (i : ℕ) → i < length text → first (get_or text i 0) ≡ false → prefixed first far (drop i text) ≡ 0
unfolding prefixed
prefixed-not first far text i inside fails = at_drop_more (prefixed first far) text i 0 inside ∙ cond-false _ _ _ fails

pub prefixed-end : (first : ℕ → Bool) (far : List ℕ → ℕ) (text : List ℕ) (i : ℕ) → length text ≤ i → prefixed first far (drop i text) ≡ 0
unfolding prefixed
prefixed-end first far text i past = at_drop_all (prefixed first far) text i past

pub unless_closed-so : (close : ℕ) (far : List ℕ → ℕ) (text : List ℕ) (i : ℕ) → i < length text → (get_or text i 0 ≡ close → ⊥) → unless_closed close far (drop i text) ≡ far (drop i text)
unfolding unless_closed
unless_closed-so close far text i inside apart =
    at_drop_more (unless_closed close far) text i 0 inside ∙ (cond-false _ _ _ (ne_eqb _ _ apart) ∙ sym (at_drop_more far text i 0 inside))

pub unless_closed-not : (close : ℕ) (far : List ℕ → ℕ) (text : List ℕ) (i : ℕ) → i < length text → get_or text i 0 ≡ close → unless_closed close far (drop i text) ≡ 0
unfolding unless_closed
unless_closed-not close far text i inside same = at_drop_more (unless_closed close far) text i 0 inside ∙ cond-true _ _ _ (eq-eqb _ _ same)

pub unless_closed-end : (close : ℕ) (far : List ℕ → ℕ) (text : List ℕ) (i : ℕ) → length text ≤ i → unless_closed close far (drop i text) ≡ 0
unfolding unless_closed
unless_closed-end close far text i past = at_drop_all (unless_closed close far) text i past

-- `beyond` by its last argument
pub beyond-above : (more far : ℕ) → (far ≡ 0 → ⊥) → beyond more far ≡ more + far
unfolding beyond
beyond-above more zero above = absurd (above refl)
beyond-above more (suc far) above = refl

pub beyond-at_zero : (more far : ℕ) → far ≡ 0 → beyond more far ≡ 0
beyond-at_zero more far is = ap (beyond more) is ∙ beyond-none more

-- quotes that stay open
pub StaysOpen-before : (quote : ℕ) (text : List ℕ) (from until : ℕ) → (get_or text from 0 ≡ quote → ⊥) → StaysOpen quote text (from + 1) until → StaysOpen quote text from until
StaysOpen-before quote text from until apart known k above below same =
    elim (cases_eq k from) [
      | inl here ↦ absurd (apart (subst (λ n. get_or text n 0 ≡ quote) here same))
      | inr further ↦ known k (omega arith) below same
    ]

-- a literal that doesn't close leaves its line's quotes open
pub StaysOpen-line : (quote : ℕ) (text : List ℕ) (at line : ℕ) → closing quote false (drop (at + 1) text) ≡ 0 → line ≡ run is_within_line (drop (at + 1) text) →
    StaysOpen quote text at (at + 1 + line)
StaysOpen-line quote text at line unclosed is k above below same =
    elim (cases_eq k at) [
      | inl here ↦ subst (λ n. closing quote false (drop (n + 1) text) ≡ 0) (sym here) unclosed
      | inr further ↦
          let j : ℕ = k - (at + 1) in
          let place : at + 1 + j ≡ k = omega arith in
          let rest : closing quote false (drop (suc j) (drop (at + 1) text)) ≡ 0 =
          stays_open quote false (drop (at + 1) text) j unclosed (omega arith)
          (get_or-drop (at + 1) text j 0 ∙ (subst (λ n. get_or text n 0 ≡ quote) (sym place) same)) in
          subst (λ n. closing quote false (drop n text) ≡ 0) (let p : at + 1 + suc j ≡ k + 1 = omega arith in p)
          (subst (λ (t : List ℕ). closing quote false t ≡ 0) (drop-drop (suc j) (at + 1) text) rest)
    ]

-- a prefix is no quote
pub is_prefix-apart : (byte quote : ℕ) → is_prefix byte ≡ true → is_prefix quote ≡ false → byte ≡ quote → ⊥
is_prefix-apart byte quote prefix apart same = false≢true (sym apart ∙ (ap is_prefix (sym same) ∙ prefix))

prefix_apostrophe : is_prefix apostrophe ≡ false
unfolding is_prefix
prefix_apostrophe = refl

prefix_quotation : is_prefix quotation_mark ≡ false
unfolding is_prefix
prefix_quotation = refl

pub prefix_no_apostrophe : (byte : ℕ) → is_prefix byte ≡ true → byte ≡ apostrophe → ⊥
prefix_no_apostrophe byte prefix = is_prefix-apart byte apostrophe prefix prefix_apostrophe

pub prefix_no_quotation : (byte : ℕ) → is_prefix byte ≡ true → byte ≡ quotation_mark → ⊥
prefix_no_quotation byte prefix = is_prefix-apart byte quotation_mark prefix prefix_quotation

-- a character constant isn't empty
lone : (text : List ℕ) → length text ≤ 1 → plain_character_length text ≡ 0
unfolding plain_character_length prefixed unless_closed
lone [] short = refl
lone (a ∷ []) short = cond_both (eqb a apostrophe) (beyond 1 0) 0 (λ n. n ≡ 0) (λ _. beyond-none 1) (λ _. refl)
lone (a ∷ b ∷ text) short = absurd (omega arith)

pub character-lone : (text : List ℕ) (i : ℕ) → length text ≤ i + 1 → plain_character_length (drop i text) ≡ 0
character-lone text i short = lone (drop i text) (omega (arith, length-drop i text))

empty : (a b : ℕ) (text : List ℕ) → b ≡ apostrophe → plain_character_length (a ∷ b ∷ text) ≡ 0
unfolding plain_character_length prefixed unless_closed
empty a b text same =
    cond_both (eqb a apostrophe) (beyond 1 (cond (eqb b apostrophe) 0 (closing apostrophe false (b ∷ text)))) 0 (λ n. n ≡ 0)
    (λ _. beyond-at_zero 1 _ (cond-true _ _ _ (eq-eqb _ _ same))) (λ _. refl)

filled_so : (a b : ℕ) (text : List ℕ) → (b ≡ apostrophe → ⊥) → plain_character_length (a ∷ b ∷ text) ≡ prefixed (λ byte. eqb byte apostrophe) (closing apostrophe false) (a ∷ b ∷ text)
unfolding plain_character_length prefixed unless_closed
filled_so a b text apart =
    ap (λ n. cond (eqb a apostrophe) (beyond 1 n) 0) (cond-false (eqb b apostrophe) 0 (closing apostrophe false (b ∷ text)) (ne_eqb _ _ apart))

-- the first two bytes from a place on
pub two : (text : List ℕ) (i : ℕ) → i + 1 < length text → drop i text ≡ get_or text i 0 ∷ get_or text (i + 1) 0 ∷ drop (i + 1 + 1) text
two text i inside =
    at_drop_more (λ t. t) text i 0 (omega arith) ∙ at_drop_more (λ t. get_or text i 0 ∷ t) text (i + 1) 0 inside

pub character-empty : (text : List ℕ) (i : ℕ) → i + 1 < length text → get_or text (i + 1) 0 ≡ apostrophe → plain_character_length (drop i text) ≡ 0
character-empty text i inside same = ap plain_character_length (two text i inside) ∙ empty _ _ _ same

pub character-filled : (text : List ℕ) (i : ℕ) → i + 1 < length text → (get_or text (i + 1) 0 ≡ apostrophe → ⊥) →
    plain_character_length (drop i text) ≡ prefixed (λ byte. eqb byte apostrophe) (closing apostrophe false) (drop i text)
character-filled text i inside apart =
    ap plain_character_length (two text i inside) ∙ (filled_so _ _ _ apart ∙ ap (prefixed (λ byte. eqb byte apostrophe) (closing apostrophe false)) (sym (two text i inside)))
