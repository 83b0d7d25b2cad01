-- The number that digits write, digit by digit.
use Rattle.std.proofs.Common.{◌≡◌, ℕ, suc, ◌+◌, ◌-◌, ◌*◌, ◌≤◌, ◌<◌, Bool, true, false, cond, ◌&&◌, List, [], ◌∷◌, length, Option, Some, None, nat_le, refl, ap, sym, ◌∙◌, if◌then◌else◌, arith, ◌⊎◌, inl, inr, ⊎_elim, get_or, drop, drop-cons}
use Rattle.std.specs.List.{list_all}
use Rattle.std.proofs.lemmas.Bool.{cases_Bool, and_from, and_parts, and_right, leb-true, leb-false, le-leb, lt-leb, cond-true, cond-false}
use Rattle.dm_token.specs.Bytes.{is_digit}
use Rattle.dm_words.specs.Requests.{IsNumber, number_behind, most_digits}
use Rattle.dm_words.specs.Readings.{greatest_number, with_digit, then_read, value_after, number_in}

-- more digits make no smaller number
grows : (number : ℕ) (digits : List ℕ) → number ≤ number_behind number digits
grows number [] = omega arith
grows number (digit ∷ digits) = omega (arith, grows (number * 10 + (digit - 48)) digits)

-- a further digit and the rest, tested in turn or at once
step : (digit small digits whole : Bool) (next : ℕ) (rest : ℕ → Option ℕ) (value : Option ℕ) → (small ≡ true → rest next ≡ cond (digits && whole) value None) → (small ≡ false → whole ≡ false)
    → then_read (cond (digit && small) (Some next) None) rest ≡ cond ((digit && digits) && whole) value None
step false small digits whole next rest value goes ends = refl
step true true digits whole next rest value goes ends = goes refl
step true false digits whole next rest value goes ends = sym (cond-false (digits && whole) value None (and_right digits whole (ends refl)))

-- all at once
at_once : (number : ℕ) (digits : List ℕ) → number ≤ greatest_number
    → value_after number digits ≡ (if list_all is_digit digits && nat_le (number_behind number digits) greatest_number then Some (number_behind number digits) else None)
at_once number [] small = sym (cond-true (nat_le number greatest_number) _ _ (le-leb number greatest_number small))
at_once number (digit ∷ digits) small =
    let next = number * 10 + (digit - 48) in
    step (is_digit digit) (nat_le next greatest_number) (list_all is_digit digits) (nat_le (number_behind next digits) greatest_number) next (λ more. value_after more digits) (Some (number_behind next digits))
    (λ fits. at_once next digits (leb-true next greatest_number fits))
    (λ over. let more = grows next digits in lt-leb (number_behind next digits) greatest_number (let above = leb-false next greatest_number over in omega arith))

-- where the next digit gives no number, none comes of the rest
pub stops : (number at : ℕ) (digits : List ℕ) → at < length digits → None ≡ with_digit number (get_or digits at 0) → value_after number (drop at digits) ≡ None
stops number at digits inside none =
    ap (value_after number) (drop-cons digits at 0 inside) ∙ ap (λ found. then_read found (λ more. value_after more (drop (suc at) digits))) (sym none)

-- a number is read
pub is_number-read : (text : List ℕ) (number : ℕ) → IsNumber text number → number_in text ≡ Some number
is_number-read [] number is = let some = is.some in absurd (omega arith)
is_number-read (digit ∷ digits) number is =
    let text = digit ∷ digits in
    cond-true (nat_le (length text) most_digits) _ None (le-leb (length text) most_digits is.few)
    ∙ at_once 0 text (omega arith)
    ∙ cond-true _ _ None (and_from _ _ is.digits (le-leb (number_behind 0 text) greatest_number (let same = is.is in let small = is.small in omega arith)))
    ∙ ap Some is.is

-- what is read is a number
chosen : (text : List ℕ) → 1 ≤ length text → nat_le (length text) most_digits ≡ true
    → number_in text ≡ (if list_all is_digit text && nat_le (number_behind 0 text) greatest_number then Some (number_behind 0 text) else None)
chosen [] some few = absurd (omega arith)
chosen (digit ∷ digits) some few = cond-true (nat_le (length (digit ∷ digits)) most_digits) _ None few ∙ at_once 0 (digit ∷ digits) (omega arith)

is_read : (text : List ℕ) (number : ℕ) → 1 ≤ length text → number_in text ≡ Some number → nat_le (length text) most_digits ≡ true
    → (let lawful = list_all is_digit text && nat_le (number_behind 0 text) greatest_number in (lawful ≡ true) ⊎ (lawful ≡ false)) → IsNumber text number
is_read text number some read few (inr bad) =
    let none : Some number ≡ None = sym read ∙ (chosen text some few ∙ cond-false _ _ None bad) in
    absurd cc
is_read text number some read few (inl good) =
    let same : Some (number_behind 0 text) ≡ Some number = sym (cond-true _ _ None good) ∙ (sym (chosen text some few) ∙ read) in
    let is : number_behind 0 text ≡ number = cc in
    let low : number_behind 0 text ≤ greatest_number =
    leb-true (number_behind 0 text) greatest_number (and_parts (list_all is_digit text) (nat_le (number_behind 0 text) greatest_number) good).1 in
    record { some = some; few = leb-true _ _ few; digits = (and_parts _ _ good).0; is = is; small = omega arith }

too_long : (text : List ℕ) → nat_le (length text) most_digits ≡ false → number_in text ≡ None
too_long [] over = refl
too_long (digit ∷ digits) over = cond-false (nat_le (length (digit ∷ digits)) most_digits) _ None over

pub read-is_number : (text : List ℕ) (number : ℕ) → number_in text ≡ Some number → IsNumber text number
read-is_number [] number read = absurd cc
read-is_number (digit ∷ digits) number read =
    ⊎_elim
    (λ few. is_read (digit ∷ digits) number (omega arith) read few (cases_Bool _))
    (λ over. let none : Some number ≡ None = sym read ∙ too_long (digit ∷ digits) over in absurd cc)
    (cases_Bool (nat_le (length (digit ∷ digits)) most_digits))

-- a text writes one number
pub number_once : (text : List ℕ) (a b : ℕ) → IsNumber text a → IsNumber text b → a ≡ b
number_once text a b left right = sym left.is ∙ right.is
