-- The orders in which a run may take its steps, by number.
--     choices order n      the choices of the first n steps
use Rattle.std.specs.Prelude.{ℕ, zero, suc, ◌+◌, ◌*◌, ◌/◌, ◌%◌, ◌-◌, ◌^◌, List, [], ◌∷◌}

-- the number that the generator makes of another one
unfoldable pub turned : ℕ → ℕ
turned x = (x * 6364136223846793005 + 1442695040888963407) % 2 ^ 64

-- the choice that an order makes of the generator's number: the first step, the last one, or one of the first four
abbrev pub drawn : ℕ → ℕ → ℕ
drawn zero x = 0
drawn (suc zero) x = 2 ^ 64 - 1
drawn (suc (suc order)) x = x / 2 ^ 33 % 4

-- the choices of so many steps, behind a number of the generator
abbrev pub choices_behind : ℕ → ℕ → ℕ → List ℕ
choices_behind order x zero = []
choices_behind order x (suc n) = drawn order (turned x) ∷ choices_behind order (turned x) n

-- The choices of an order: the generator begins with the order's own number.
abbrev pub choices : ℕ → ℕ → List ℕ
choices order n = choices_behind order order n
