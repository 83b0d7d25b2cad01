-- The number that digits write, from a number on.
use Rattle.std.proofs.Common.{◌≡◌, ℕ, ◌+◌, ◌*◌, ◌<◌, ◌≤◌, List, [], ◌∷◌, length, get_or, drop, fold, None, sym, ◌∙◌, ap, arith}
use Rattle.std.proofs.Math.Nat.{mul-le-mul_right}
use Rattle.std.proofs.lemmas.List.{at_drop_more}
use Rattle.std.proofs.lemmas.Bool.Decides.{nat_tests}
use Rattle.dm_ctok.specs.Digits.{digit_value, up_to}

-- the number that a number and digits behind it write
abbrev pub from : ℕ → ℕ → List ℕ → ℕ
from base value digits = fold (λ value digit. base * value + digit_value digit) value digits

-- further digits make no number smaller
pub from-grows : (base value : ℕ) (digits : List ℕ) → 0 < base → value ≤ from base value digits
from-grows base value [] some = omega arith
from-grows base value (digit ∷ digits) some =
    let more = from-grows base (base * value + digit_value digit) digits some in
    let times : 1 * value ≤ base * value = mul-le-mul_right value (omega arith) in
    omega (arith, more, times)

-- the digits from a place on are the one there and the others
pub from-more : (base value : ℕ) (digits : List ℕ) (at digit : ℕ) → at < length digits → digit ≡ get_or digits at 0 → from base value (drop at digits) ≡ from base (base * value + digit_value digit) (drop (at + 1) digits)
from-more base value digits at digit inside is =
    at_drop_more (from base value) digits at 0 inside ∙ ap (λ d. from base (base * value + digit_value d) (drop (at + 1) digits)) (sym is)

-- no number up to the greatest is behind one that is greater
pub none-from : (base value most whole : ℕ) (digits : List ℕ) → 0 < base → most < value → from base value digits ≡ whole → None ≡ up_to most whole
none-from base value most whole digits some above is =
    let more = from-grows base value digits some in grind (arith, nat_tests)

-- what is no number up to the greatest is above it
pub none-up_to : (most value : ℕ) → None ≡ up_to most value → most < value
none-up_to most value none = grind (arith, nat_tests)
