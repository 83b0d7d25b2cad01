-- A node and its operands, taken out of an expression.
--     IsOperands count before after results locks      so many results were taken in front of the place
--     IsTaken choice before after taken      the node whose step has a number was taken with its operands
use Rattle.std.specs.Prelude.{◌≡◌, ℕ, ◌-◌, nat_lt, List, [], ◌∷◌, ◌++◌, map, length, if◌then◌else◌}
use Rattle.dm_row.specs.declared.item.Item.{Item}
use Rattle.dm_row.specs.declared.item.Item.TheVariants.{Done, Waits}
use Rattle.dm_row.specs.Counts.{ready_in, weight_in}
use Rattle.dm_expression.specs.declared.waiting.Waiting.{Waiting}
use Rattle.dm_expression.specs.declared.results.Results.{Results}
use Rattle.dm_expression.specs.declared.results.Results.TheVariants as results
use Rattle.dm_expression.specs.declared.results.Taken.{Taken}

-- results with their weights, as items
abbrev pub dones : {R N : Type 0} → List (R × ℕ) → List (Item R N)
dones [] = []
dones (one ∷ rest) = Done one.0 one.1 ∷ dones rest

abbrev pub results_of : {R : Type 0} → Results R → List R
results_of results.None = []
results_of (results.One a) = a ∷ []
results_of (results.Two a b) = a ∷ b ∷ []
results_of (results.Many all) = all.items

pub record IsOperands {R N : Type 0} (count : ℕ) (before after : List (Item R N) × List (Item R N)) (found : List R) : Type 0 where
  pub pairs : List (R × ℕ)
  pub in_front : before.0 ≡ after.0 ++ dones pairs
  pub behind : after.1 ≡ before.1
  pub results : map (λ one. one.0) pairs ≡ found
  pub as_many : length pairs ≡ count

-- a number, or that of the last
abbrev pub number_of : ℕ → ℕ → ℕ
number_of choice count = if nat_lt choice (count - 1) then choice else count - 1

pub record IsTaken {R : Type 0} (choice : ℕ) (before after : List (Item R Waiting) × List (Item R Waiting)) (taken : Taken R) : Type 0 where
  pub count : ℕ
  pub pairs : List (R × ℕ)
  pub same : before.0 ++ before.1 ≡ (after.0 ++ dones pairs) ++ Waits taken.node count ∷ after.1
  pub results : map (λ one. one.0) pairs ≡ results_of taken.operands
  pub locks : weight_in (dones {N = Waiting} pairs) ≡ taken.locks
  pub as_many : length pairs ≡ count
  pub chosen : ready_in 0 (after.0 ++ dones pairs) ≡ number_of choice (ready_in 0 (before.0 ++ before.1))
