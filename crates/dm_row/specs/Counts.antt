-- What rows count.
--     ready_in results items      how many nodes have all their operands directly in front of them
--     results_after results items      how many results stand directly behind the items
--     weight_in items      the sum of the results' weights
use Rattle.std.specs.Prelude.{ℕ, suc, ◌+◌, Bool, true, false, nat_le, List, [], ◌∷◌, Option, Some, None}
use Rattle.dm_row.specs.declared.item.Item.{Item}
use Rattle.dm_row.specs.declared.item.Item.TheVariants.{Done, Waits}
use Rattle.dm_row.specs.declared.item.Passed.{Passed}
use Rattle.dm_row.specs.declared.item.Ahead.{Ahead}

-- 1 where something holds
abbrev pub one_if : Bool → ℕ
one_if true = 1
one_if false = 0

-- A node has its operands where at least as many results stand directly in front of it. `results` says how many stand directly in front
-- of the items.
abbrev pub ready_in : {R N : Type 0} → ℕ → List (Item R N) → ℕ
ready_in results [] = 0
ready_in results (Done result weight ∷ rest) = ready_in (suc results) rest
ready_in results (Waits node operands ∷ rest) = one_if (nat_le operands results) + ready_in 0 rest

abbrev pub results_after : {R N : Type 0} → ℕ → List (Item R N) → ℕ
results_after results [] = results
results_after results (Done result weight ∷ rest) = results_after (suc results) rest
results_after results (Waits node operands ∷ rest) = results_after 0 rest

-- the weights of the results
abbrev pub weight_by : {R N : Type 0} → Item R N → ℕ
weight_by (Done result weight) = weight
weight_by (Waits node operands) = 0

abbrev pub weight_in : {R N : Type 0} → List (Item R N) → ℕ
weight_in [] = 0
weight_in (item ∷ rest) = weight_by item + weight_in rest

-- ---- the counts of the code

-- behind one item more
abbrev pub passed : {R N : Type 0} → Passed → Item R N → Passed
passed counts (Done result weight) = record { results = counts.results + 1; ready = counts.ready; weight = counts.weight + weight }
passed counts (Waits node operands) = record { results = 0; ready = counts.ready + one_if (nat_le operands counts.results); weight = counts.weight }

abbrev pub count_by : Option ℕ → ℕ → ℕ → ℕ
count_by (Some operands) results ready = one_if (nat_le operands results) + ready
count_by None results ready = ready

abbrev pub count_ahead : Ahead → ℕ → ℕ
count_ahead counts results = count_by counts.operands (results + counts.results) counts.ready

-- in front of one item more
abbrev pub led : {R N : Type 0} → Ahead → Item R N → Ahead
led counts (Done result weight) = record { results = counts.results + 1; operands = counts.operands; ready = counts.ready }
led counts (Waits node operands) = record { results = 0; operands = Some operands; ready = count_ahead counts 0 }

-- whether the first item is a node that has its operands, where so many results stand directly in front of it
abbrev pub is_next_ready : {R N : Type 0} → ℕ → List (Item R N) → Bool
is_next_ready results [] = false
is_next_ready results (Done result weight ∷ rest) = false
is_next_ready results (Waits node operands ∷ rest) = nat_le operands results
