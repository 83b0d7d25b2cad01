-- How many steps the new program may still take before the old one has to move.
use Rattle.std.specs.Prelude.{◌≡◌, ℕ, ◌≤◌, ◌+◌, Bool, List}
use Rattle.std.proofs.Common.{arith}
use Rattle.dm_tree.specs.Trees.{Tree}
use Rattle.dm_central.specs.Agreement.{Entry, outside, inside}

pub at_least : (n : ℕ) → n ≤ n
at_least n = omega arith

pub less_still : (a b c : ℕ) → a + 1 ≤ b → b ≤ c → a ≤ c
less_still a b c h k = omega (arith, h, k)

pub smaller_still : (a b c : ℕ) → a + 1 ≤ b → b ≤ c → a + 1 ≤ c
smaller_still a b c h k = omega (arith, h, k)

pub step_fits : (a b c : ℕ) → a + 1 ≤ b → b + 2 ≤ c → (a + 2) + 1 ≤ c
step_fits a b c h k = omega (arith, h, k)

pub some_left : (a b c w : ℕ) → b + 1 ≤ c → a + c ≤ w → (a + b) + 1 ≤ w
some_left a b c w h k = omega (arith, h, k)

pub none_left : (a c w : ℕ) → 1 ≤ c → a + c ≤ w → a + 1 ≤ w
none_left a c w h k = omega (arith, h, k)

pub real_left : (a n : ℕ) → a ≤ n → a + 2 ≤ n + 5
real_left a n h = omega (arith, h)

pub begins_left : (a n w : ℕ) → a + (n + 5) ≤ w → (a + (n + 4)) + 1 ≤ w
begins_left a n w h = omega (arith, h)

pub stays_left : (a n w : ℕ) → a + (n + 5) ≤ w → a + 1 ≤ w
stays_left a n w h = omega (arith, h)

-- the added function is no other one
pub inside_not_outside : (entries : List Entry) (safe : Tree → Bool) → inside entries ≡ outside safe → ⊥
inside_not_outside entries safe e = cc
