-- What is left of an expression when a node was taken out.
--     first_locks, own_locks, last_locks      the locks in front of the node, of its operands, and behind it
--     operands_left see locks row taken pairs      the operands, with their locks
--     hole_left see types locks row taken      the tree without the node
use Rattle.std.specs.Prelude.{ℕ, List, [], ◌∷◌, take, drop}
use Rattle.dm_type.specs.Tables.{Table}
use Rattle.dm_meaning.specs.Running.{Hole}
use Rattle.dm_row.specs.declared.item.Item.{Item}
use Rattle.dm_row.specs.Counts.{weight_in}
use Rattle.dm_postfix.specs.Postfix.{Evaluated, hole_of}
use Rattle.dm_expression.specs.declared.results.Taken.{Taken}
use Rattle.dm_expression.specs.declared.waiting.Waiting.{Waiting}
use Rattle.dm_expression.specs.Standing.{viewed}

abbrev pub own_locks : {R L : Type 0} → List L → List (Item R Waiting) × List (Item R Waiting) → Taken R → List L
own_locks locks row taken = take taken.locks (drop (weight_in row.0) locks)

-- those of the results in front of the node, and of those behind it
abbrev pub first_locks : {R L : Type 0} → List L → List (Item R Waiting) × List (Item R Waiting) → List L
first_locks locks row = take (weight_in row.0) locks

abbrev pub last_locks : {R L : Type 0} → List L → List (Item R Waiting) × List (Item R Waiting) → Taken R → List L
last_locks locks row taken = drop taken.locks (drop (weight_in row.0) locks)

-- results with their locks
abbrev pub seen : {R L : Type 0} → (R → List L → Evaluated) → List L → List (R × ℕ) → List Evaluated
seen see locks [] = []
seen see locks (one ∷ rest) = see one.0 (take one.1 locks) ∷ seen see (drop one.1 locks) rest

abbrev pub operands_left : {R L : Type 0} → (R → List L → Evaluated) → List L → List (Item R Waiting) × List (Item R Waiting) → Taken R → List (R × ℕ) → List Evaluated
operands_left see locks row taken pairs = seen see (own_locks locks row taken) pairs

abbrev pub hole_left : {R L : Type 0} → (R → List L → Evaluated) → Table → List L → List (Item R Waiting) × List (Item R Waiting) → Taken R → Hole
hole_left see types locks row taken =
    hole_of (viewed see types (first_locks locks row) row.0) (viewed see types (last_locks locks row taken) row.1)
