-- How far each class reaches into a text.
use Rattle.std.proofs.Common.{◌≡◌, ℕ, zero, suc, ◌+◌, ◌<◌, ◌≤◌, max, Bool, true, false, cond, ◌&&◌, ◌||◌, not, eqb, List, [], ◌∷◌, length, take, refl, ap, sym, inl, inr, ◌∙◌, subst, arith, length-take}
use Rattle.std.specs.Prelude.{if◌then◌else◌}
use Rattle.std.specs.List.{list_all}
use Rattle.std.proofs.lemmas.Bool.{cond_both, not-true, not_from_false, cases_lt, and_parts, and_from, or_cases, or_left, or_right, false≢true, eqb-true}
use Rattle.dm_token.specs.Places.{newline}
use Rattle.dm_lex.specs.Classes.{behind, filled, closes, closes_name, continues_number, is_word, is_digit, is_nondigit, is_exponent, is_sign, is_prefix, full_stop, backslash, asterisk, slash, apostrophe, quotation_mark, less, greater, is_identifier, is_number, is_plain_character, is_character, is_plain_literal, is_literal, is_header}
use Rattle.dm_lex.specs.Lengths.{prefixed, led, unless_closed, identifier_length, digits_length, number_length, plain_character_length, character_length, plain_literal_length, literal_length, name_length, header_length}
use Rattle.dm_lex.specs.Cuts.{ends_comment}
use Rattle.dm_lex.specs.Reach.{IsReach, IsLongest, IsExact, beyond, reached, closing, closing_name, closing_comment, run, number_run}

-- a front of an empty list
take-none : (n : ℕ) → take n (let none : List ℕ = [] in none) ≡ []
take-none zero = refl
take-none (suc n) = refl

take-zero : (text : List ℕ) → take 0 text ≡ []
take-zero [] = refl
take-zero (byte ∷ text) = refl

-- nothing passes of an empty text
pub IsReach-empty : (test : List ℕ → Bool) → test [] ≡ false → IsReach test [] 0
IsReach-empty test fails = record {
  inside = omega arith;
  passed = λ above. absurd (omega arith);
  longest = λ n inside passed. omega arith;
}

pub IsExact-empty : (test : List ℕ → Bool) → test [] ≡ false → IsExact test [] 0
IsExact-empty test fails = record {
  inside = omega arith;
  passed = λ above. absurd (omega arith);
  only = λ n inside passed. absurd (false≢true (sym fails ∙ (ap test (sym (take-none n)) ∙ passed)));
}

-- what is exact reaches
pub IsReach-from_IsExact : (test : List ℕ → Bool) (text : List ℕ) (r : ℕ) → IsExact test text r → IsReach test text r
IsReach-from_IsExact test text r exact = record {
  inside = exact.inside;
  passed = exact.passed;
  longest = λ n inside passed. let same : (n ≡ r) × (0 < n) = exact.only n inside passed in omega arith;
}

-- one step of what is exact
abbrev ended : Bool → Bool → Bool → Bool → Bool
ended stops done empty more = if stops then false else if done then empty else more

-- what a byte that ends nothing leaves
more_only : (test : List ℕ → Bool) (text : List ℕ) (r n : ℕ) → IsExact test text r → n ≤ length text → test (take n text) ≡ true → suc n ≡ beyond 1 r
unfolding beyond
more_only test text zero n exact inside passed = let same : (n ≡ 0) × (0 < n) = exact.only n inside passed in absurd (omega arith)
more_only test text (suc r) n exact inside passed = let same : (n ≡ suc r) × (0 < n) = exact.only n inside passed in omega arith

ended_only : (test : List ℕ → Bool) (text : List ℕ) (r n : ℕ) (stops done : Bool) → IsExact test text r → n ≤ length text →
    ended stops done (eqb (length (take n text)) 0) (test (take n text)) ≡ true → suc n ≡ reached stops done r
unfolding reached
ended_only test text r n true done exact inside passed = absurd (false≢true passed)
ended_only test text r n false true exact inside passed =
    omega (arith, length-take n text, eqb-true _ _ passed)
ended_only test text r n false false exact inside passed = more_only test text r n exact inside passed

ended_passes : (test : List ℕ → Bool) (text : List ℕ) (r n : ℕ) (stops done : Bool) → IsExact test text r → reached stops done r ≡ suc n →
    ended stops done (eqb (length (take n text)) 0) (test (take n text)) ≡ true
unfolding reached beyond
ended_passes test text r n true done exact is = absurd (omega arith)
ended_passes test text r zero false true exact is = refl
ended_passes test text r (suc n) false true exact is = absurd (omega arith)
ended_passes test text zero n false false exact is = absurd (omega arith)
ended_passes test text (suc r) n false false exact is =
    let same : suc r ≡ n = omega arith in
    subst (λ k. test (take k text) ≡ true) same (exact.passed (omega arith))

reached_inside : (size r : ℕ) (stops done : Bool) → r ≤ size → reached stops done r ≤ suc size
unfolding reached beyond
reached_inside size r true done inside = omega arith
reached_inside size r false true inside = omega arith
reached_inside size zero false false inside = omega arith
reached_inside size (suc r) false false inside = omega arith

exact_passed : (t test : List ℕ → Bool) (byte : ℕ) (text : List ℕ) (r n : ℕ) (stops done : Bool) → IsExact test text r →
    ((others : List ℕ) → t (byte ∷ others) ≡ ended stops done (eqb (length others) 0) (test others)) →
    reached stops done r ≡ n → 0 < n → t (take n (byte ∷ text)) ≡ true
exact_passed t test byte text r zero stops done exact step is above = absurd (omega arith)
exact_passed t test byte text r (suc n) stops done exact step is above = step (take n text) ∙ ended_passes test text r n stops done exact is

exact_only : (t test : List ℕ → Bool) (byte : ℕ) (text : List ℕ) (r n : ℕ) (stops done : Bool) → IsExact test text r →
    ((others : List ℕ) → t (byte ∷ others) ≡ ended stops done (eqb (length others) 0) (test others)) → t [] ≡ false →
    n ≤ suc (length text) → t (take n (byte ∷ text)) ≡ true → (n ≡ reached stops done r) × (0 < n)
exact_only t test byte text r zero stops done exact step none inside passed = absurd (false≢true (sym none ∙ passed))
exact_only t test byte text r (suc n) stops done exact step none inside passed =
    (ended_only test text r n stops done exact (omega arith) (sym (step (take n text)) ∙ passed), omega arith)

IsExact-step : (t test : List ℕ → Bool) (byte : ℕ) (text : List ℕ) (r : ℕ) (stops done : Bool) → IsExact test text r →
    ((others : List ℕ) → t (byte ∷ others) ≡ ended stops done (eqb (length others) 0) (test others)) → t [] ≡ false →
    IsExact t (byte ∷ text) (reached stops done r)
IsExact-step t test byte text r stops done exact step none = record {
  inside = reached_inside (length text) r stops done exact.inside;
  passed = λ above. exact_passed t test byte text r (reached stops done r) stops done exact step refl above;
  only = λ n inside passed. exact_only t test byte text r n stops done exact step none (omega arith) passed;
}

-- a literal behind its opening quote
pub closing-exact : (quote : ℕ) (escaped : Bool) (text : List ℕ) → IsExact (closes quote escaped) text (closing quote escaped text)
unfolding closing closes
closing-exact quote escaped [] = IsExact-empty (closes quote escaped) refl
closing-exact quote escaped (byte ∷ others) =
    IsExact-step (closes quote escaped) (closes quote (not escaped && eqb byte backslash)) byte others (closing quote (not escaped && eqb byte backslash) others)
    (eqb byte newline) (not escaped && eqb byte quote) (closing-exact quote (not escaped && eqb byte backslash) others) (λ others. refl) refl

-- a header name behind its opening byte
pub closing_name-exact : (close : ℕ) (text : List ℕ) → IsExact (closes_name close) text (closing_name close text)
unfolding closing_name closes_name
closing_name-exact close [] = IsExact-empty (closes_name close) refl
closing_name-exact close (byte ∷ others) =
    IsExact-step (closes_name close) (closes_name close) byte others (closing_name close others)
    (eqb byte newline) (eqb byte close) (closing_name-exact close others) (λ others. refl) refl

-- a comment behind `/*`
pub closing_comment-exact : (starred : Bool) (text : List ℕ) → IsExact (ends_comment starred) text (closing_comment starred text)
unfolding closing_comment ends_comment
closing_comment-exact starred [] = IsExact-empty (ends_comment starred) refl
closing_comment-exact starred (byte ∷ others) =
    IsExact-step (ends_comment starred) (ends_comment (eqb byte asterisk)) byte others (closing_comment (eqb byte asterisk) others)
    false (starred && eqb byte slash) (closing_comment-exact (eqb byte asterisk) others) (λ others. refl) refl

-- bytes that all pass
run_longest : (test : ℕ → Bool) (text : List ℕ) (n : ℕ) → n ≤ length text → list_all test (take n text) ≡ true → n ≤ run test text
unfolding run
run_longest test text zero inside passed = omega arith
run_longest test [] (suc n) inside passed = absurd (omega arith)
run_longest test (byte ∷ text) (suc n) inside passed =
    let parts : (test byte ≡ true) × (list_all test (take n text) ≡ true) = and_parts _ _ passed in
    rw parts.0 (omega (arith, run_longest test text n (omega arith) parts.1))

run_inside : (test : ℕ → Bool) (text : List ℕ) → run test text ≤ length text
unfolding run
run_inside test [] = omega arith
run_inside test (byte ∷ text) =
    cond_both (test byte) (suc (run test text)) 0 (λ k. k ≤ suc (length text)) (λ _. omega (arith, run_inside test text)) (λ _. omega arith)

run_passed : (test : ℕ → Bool) (text : List ℕ) → list_all test (take (run test text) text) ≡ true
unfolding run
run_passed test [] = refl
run_passed test (byte ∷ text) =
    cond_both (test byte) (suc (run test text)) 0 (λ k. list_all test (take k (byte ∷ text)) ≡ true)
    (λ e. and_from _ _ e (run_passed test text)) (λ _. refl)

pub run-longest : (test : ℕ → Bool) (text : List ℕ) → IsLongest (list_all test) text (run test text)
run-longest test text = record { inside = run_inside test text; passed = run_passed test text; longest = run_longest test text }

-- what continues a number
abbrev continues : Bool → ℕ → Bool
continues exponent byte = is_word byte || (eqb byte full_stop) || (exponent && is_sign byte)

number_longest : (exponent : Bool) (text : List ℕ) (n : ℕ) → n ≤ length text → continues_number exponent (take n text) ≡ true → n ≤ number_run exponent text
unfolding number_run continues_number
number_longest exponent text zero inside passed = omega arith
number_longest exponent [] (suc n) inside passed = absurd (omega arith)
number_longest exponent (byte ∷ text) (suc n) inside passed =
    let parts : (continues exponent byte ≡ true) × (continues_number (is_exponent byte) (take n text) ≡ true) = and_parts _ _ passed in
    rw parts.0 (omega (arith, number_longest (is_exponent byte) text n (omega arith) parts.1))

number_inside : (exponent : Bool) (text : List ℕ) → number_run exponent text ≤ length text
unfolding number_run
number_inside exponent [] = omega arith
number_inside exponent (byte ∷ text) =
    cond_both (continues exponent byte) (suc (number_run (is_exponent byte) text)) 0 (λ k. k ≤ suc (length text))
    (λ _. omega (arith, number_inside (is_exponent byte) text)) (λ _. omega arith)

number_passed : (exponent : Bool) (text : List ℕ) → continues_number exponent (take (number_run exponent text) text) ≡ true
unfolding number_run continues_number
number_passed exponent [] = refl
number_passed exponent (byte ∷ text) =
    cond_both (continues exponent byte) (suc (number_run (is_exponent byte) text)) 0 (λ k. continues_number exponent (take k (byte ∷ text)) ≡ true)
    (λ e. and_from _ _ e (number_passed (is_exponent byte) text)) (λ _. refl)

pub number_run-longest : (exponent : Bool) (text : List ℕ) → IsLongest (continues_number exponent) text (number_run exponent text)
number_run-longest exponent text = record { inside = number_inside exponent text; passed = number_passed exponent text; longest = number_longest exponent text }

-- a test behind a first byte
behind_longest : (first : ℕ → Bool) (test : List ℕ → Bool) (byte : ℕ) (text : List ℕ) (r : ℕ) →
    ((m : ℕ) → m ≤ length text → test (take m text) ≡ true → suc m ≤ r) →
    (n : ℕ) → n ≤ suc (length text) → behind first test (take n (byte ∷ text)) ≡ true → n ≤ r
unfolding behind
behind_longest first test byte text r most zero inside passed = omega arith
behind_longest first test byte text r most (suc n) inside passed =
    let parts : (first byte ≡ true) × (test (take n text) ≡ true) = and_parts _ _ passed in
    most n (omega arith) parts.1

behind_none : (first : ℕ → Bool) (test : List ℕ → Bool) (byte : ℕ) (text : List ℕ) (n : ℕ) → first byte ≡ false →
    behind first test (take n (byte ∷ text)) ≡ true → n ≤ 0
unfolding behind
behind_none first test byte text zero fails passed = omega arith
behind_none first test byte text (suc n) fails passed =
    let parts : (first byte ≡ true) × (test (take n text) ≡ true) = and_parts _ _ passed in
    absurd (false≢true (sym fails ∙ parts.0))

-- where the first byte fails, nothing passes
pub IsReach-behind_none : (first : ℕ → Bool) (test : List ℕ → Bool) (byte : ℕ) (text : List ℕ) → first byte ≡ false → IsReach (behind first test) (byte ∷ text) 0
IsReach-behind_none first test byte text fails = record {
  inside = omega arith;
  passed = λ above. absurd (omega arith);
  longest = λ n inside passed. behind_none first test byte text n fails passed;
}

-- one more than the longest that passes behind it
pub IsReach-behind_longest : (first : ℕ → Bool) (test : List ℕ → Bool) (byte : ℕ) (text : List ℕ) (r : ℕ) → first byte ≡ true → IsLongest test text r → IsReach (behind first test) (byte ∷ text) (suc r)
unfolding behind
IsReach-behind_longest first test byte text r holds far = record {
  inside = let i : r ≤ length text = far.inside in omega arith;
  passed = λ above. and_from _ _ holds far.passed;
  longest = behind_longest first test byte text (suc r) (λ m inside passed. let h : m ≤ r = far.longest m inside passed in omega arith);
}

-- the same where nothing may pass behind it, not even the empty text
pub IsReach-behind : (first : ℕ → Bool) (test : List ℕ → Bool) (byte : ℕ) (text : List ℕ) (r : ℕ) → first byte ≡ true → test [] ≡ false → IsReach test text r → IsReach (behind first test) (byte ∷ text) (beyond 1 r)
unfolding behind beyond
IsReach-behind first test byte text zero holds none far = record {
  inside = omega arith;
  passed = λ above. absurd (omega arith);
  longest = behind_longest first test byte text 0 (λ m inside passed.
      let h : m ≤ 0 = far.longest m inside passed in
      let nothing : take m text ≡ [] = subst (λ k. take k text ≡ []) (let e : 0 ≡ m = omega arith in e) (take-zero text) in
      absurd (false≢true (sym none ∙ (ap test (sym nothing) ∙ passed))));
}
IsReach-behind first test byte text (suc r) holds none far =
    let two : IsReach (behind first test) (byte ∷ text) (suc (suc r)) = record {
      inside = let i : suc r ≤ length text = far.inside in omega arith;
      passed = λ above. and_from _ _ holds (far.passed (omega arith));
      longest = behind_longest first test byte text (suc (suc r)) (λ m inside passed. let h : m ≤ suc r = far.longest m inside passed in omega arith);
    } in
    subst (λ k. IsReach (behind first test) (byte ∷ text) k) (let e : suc (suc r) ≡ 1 + suc r = omega arith in e) two

-- a text that doesn't begin with the closing byte
filled_longest : (close : ℕ) (test : List ℕ → Bool) (byte : ℕ) (text : List ℕ) (n : ℕ) → filled close test (take n (byte ∷ text)) ≡ true →
    (eqb byte close ≡ false) × (test (take n (byte ∷ text)) ≡ true)
unfolding filled
filled_longest close test byte text zero passed = absurd (false≢true passed)
filled_longest close test byte text (suc n) passed =
    let parts : (not (eqb byte close) ≡ true) × (test (byte ∷ take n text) ≡ true) = and_parts _ _ passed in
    (not-true _ parts.0, parts.1)

filled_passed : (close : ℕ) (test : List ℕ → Bool) (byte : ℕ) (text : List ℕ) (n : ℕ) → eqb byte close ≡ false → 0 < n → test (take n (byte ∷ text)) ≡ true →
    filled close test (take n (byte ∷ text)) ≡ true
unfolding filled
filled_passed close test byte text zero apart above passed = absurd (omega arith)
filled_passed close test byte text (suc n) apart above passed = and_from _ _ (not_from_false _ apart) passed

pub IsReach-filled : (close : ℕ) (test : List ℕ → Bool) (byte : ℕ) (text : List ℕ) (r : ℕ) → IsReach test (byte ∷ text) r →
    IsReach (filled close test) (byte ∷ text) (cond (eqb byte close) 0 r)
IsReach-filled close test byte text r far =
    cond_both (eqb byte close) 0 r (λ k. IsReach (filled close test) (byte ∷ text) k)
    (λ same. record {
      inside = omega arith;
      passed = λ above. absurd (omega arith);
      longest = λ n inside passed. absurd (false≢true (sym (filled_longest close test byte text n passed).0 ∙ same));
    })
    (λ apart. record {
      inside = far.inside;
      passed = λ above. filled_passed close test byte text r apart above (far.passed above);
      longest = λ n inside passed. far.longest n inside (filled_longest close test byte text n passed).1;
    })

-- either of two tests
either_passed : (t u : List ℕ → Bool) (text : List ℕ) (r s : ℕ) → IsReach t text r → IsReach u text s → 0 < max r s → (t (take (max r s) text) || u (take (max r s) text)) ≡ true
either_passed t u text r s first second above =
    elim (cases_lt r s) [
      | inl below ↦
          let e : s ≡ max r s = omega arith in
          or_right _ _ (subst (λ k. u (take k text) ≡ true) e (second.passed (omega arith)))
      | inr above' ↦
          let e : r ≡ max r s = omega arith in
          or_left _ _ (subst (λ k. t (take k text) ≡ true) e (first.passed (omega arith)))
    ]

pub IsReach-or : (t u : List ℕ → Bool) (text : List ℕ) (r s : ℕ) → IsReach t text r → IsReach u text s → IsReach (λ x. t x || u x) text (max r s)
IsReach-or t u text r s first second = record {
  inside = let i : r ≤ length text = first.inside in let j : s ≤ length text = second.inside in omega arith;
  passed = either_passed t u text r s first second;
  longest = λ n inside passed.
      elim (or_cases (t (take n text)) (u (take n text)) passed) [
        | inl one ↦ let h : n ≤ r = first.longest n inside one in omega arith
        | inr other ↦ let h : n ≤ s = second.longest n inside other in omega arith
      ];
}

-- what the combinators of lengths reach
pub prefixed-reach : (first : ℕ → Bool) (test : List ℕ → Bool) (far : List ℕ → ℕ) → test [] ≡ false → ((text : List ℕ) → IsReach test text (far text)) →
    (text : List ℕ) → IsReach (behind first test) text (prefixed first far text)
unfolding behind prefixed
prefixed-reach first test far none reach [] = IsReach-empty (behind first test) refl
prefixed-reach first test far none reach (byte ∷ text) =
    cond_both (first byte) (beyond 1 (far text)) 0 (λ k. IsReach (behind first test) (byte ∷ text) k)
    (λ holds. IsReach-behind first test byte text (far text) holds none (reach text))
    (λ fails. IsReach-behind_none first test byte text fails)

pub led-reach : (first : ℕ → Bool) (test : List ℕ → Bool) (far : List ℕ → ℕ) → ((text : List ℕ) → IsLongest test text (far text)) →
    (text : List ℕ) → IsReach (behind first test) text (led first far text)
unfolding behind led
led-reach first test far reach [] = IsReach-empty (behind first test) refl
led-reach first test far reach (byte ∷ text) =
    cond_both (first byte) (suc (far text)) 0 (λ k. IsReach (behind first test) (byte ∷ text) k)
    (λ holds. IsReach-behind_longest first test byte text (far text) holds (reach text))
    (λ fails. IsReach-behind_none first test byte text fails)

pub unless_closed-reach : (close : ℕ) (test : List ℕ → Bool) (far : List ℕ → ℕ) → ((text : List ℕ) → IsReach test text (far text)) →
    (text : List ℕ) → IsReach (filled close test) text (unless_closed close far text)
unfolding filled unless_closed
unless_closed-reach close test far reach [] = IsReach-empty (filled close test) refl
unless_closed-reach close test far reach (byte ∷ text) = IsReach-filled close test byte text (far (byte ∷ text)) (reach (byte ∷ text))

-- each class
pub identifier-reach : (text : List ℕ) → IsReach is_identifier text (identifier_length text)
unfolding is_identifier identifier_length
identifier-reach text = led-reach is_nondigit (list_all is_word) (run is_word) (run-longest is_word) text

digits-reach : (text : List ℕ) → IsReach (behind is_digit (continues_number false)) text (digits_length text)
unfolding digits_length
digits-reach text = led-reach is_digit (continues_number false) (number_run false) (number_run-longest false) text

pub number-reach : (text : List ℕ) → IsReach is_number text (number_length text)
unfolding is_number number_length behind
number-reach text =
    IsReach-or _ _ text _ _ (digits-reach text)
    (prefixed-reach (λ byte. eqb byte full_stop) (behind is_digit (continues_number false)) digits_length refl digits-reach text)

plain_character-reach : (text : List ℕ) → IsReach is_plain_character text (plain_character_length text)
unfolding is_plain_character plain_character_length filled
plain_character-reach text =
    prefixed-reach (λ byte. eqb byte apostrophe) (filled apostrophe (closes apostrophe false)) (unless_closed apostrophe (closing apostrophe false)) refl
    (unless_closed-reach apostrophe (closes apostrophe false) (closing apostrophe false)
    (λ rest. IsReach-from_IsExact _ rest _ (closing-exact apostrophe false rest))) text

plain_character_none : is_plain_character [] ≡ false
unfolding is_plain_character behind
plain_character_none = refl

pub character-reach : (text : List ℕ) → IsReach is_character text (character_length text)
unfolding is_character character_length
character-reach text =
    IsReach-or is_plain_character (behind is_prefix is_plain_character) text _ _ (plain_character-reach text)
    (prefixed-reach is_prefix is_plain_character plain_character_length plain_character_none plain_character-reach text)

plain_literal-reach : (text : List ℕ) → IsReach is_plain_literal text (plain_literal_length text)
unfolding is_plain_literal plain_literal_length closes
plain_literal-reach text =
    prefixed-reach (λ byte. eqb byte quotation_mark) (closes quotation_mark false) (closing quotation_mark false) refl
    (λ rest. IsReach-from_IsExact _ rest _ (closing-exact quotation_mark false rest)) text

plain_literal_none : is_plain_literal [] ≡ false
unfolding is_plain_literal behind
plain_literal_none = refl

behind_none_empty : (first : ℕ → Bool) (test : List ℕ → Bool) → behind first test [] ≡ false
unfolding behind
behind_none_empty first test = refl

pub literal-reach : (text : List ℕ) → IsReach is_literal text (literal_length text)
unfolding is_literal literal_length
literal-reach text =
    IsReach-or (λ x. is_plain_literal x || behind is_prefix is_plain_literal x)
    (behind (λ byte. eqb byte 117) (behind (λ byte. eqb byte 56) is_plain_literal)) text _ _
    (IsReach-or is_plain_literal (behind is_prefix is_plain_literal) text _ _ (plain_literal-reach text)
    (prefixed-reach is_prefix is_plain_literal plain_literal_length plain_literal_none plain_literal-reach text))
    (prefixed-reach (λ byte. eqb byte 117) (behind (λ byte. eqb byte 56) is_plain_literal) (prefixed (λ byte. eqb byte 56) plain_literal_length)
    (behind_none_empty _ _)
    (prefixed-reach (λ byte. eqb byte 56) is_plain_literal plain_literal_length plain_literal_none plain_literal-reach) text)

name-reach : (first close : ℕ) (text : List ℕ) → IsReach (behind (λ byte. eqb byte first) (filled close (closes_name close))) text (name_length first close text)
unfolding name_length filled
name-reach first close text =
    prefixed-reach (λ byte. eqb byte first) (filled close (closes_name close)) (unless_closed close (closing_name close)) refl
    (unless_closed-reach close (closes_name close) (closing_name close)
    (λ rest. IsReach-from_IsExact _ rest _ (closing_name-exact close rest))) text

pub header-reach : (text : List ℕ) → IsReach is_header text (header_length text)
unfolding is_header header_length
header-reach text = IsReach-or _ _ text _ _ (name-reach less greater text) (name-reach quotation_mark quotation_mark text)
