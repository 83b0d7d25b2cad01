-- How much a program that calls the added function has to do: no full expression of it is larger than the bodies of all its functions.
use Rattle.std.specs.Prelude.{ℕ, zero, suc, ◌+◌, ◌≤◌, ◌==◌, Bool, true, false, List, [], ◌∷◌, Option, Some, None, if◌then◌else◌}
use Rattle.std.proofs.Common.{arith}
use Rattle.dm_tree.specs.Trees.{trees_of}
use Rattle.dm_meaning.specs.Programs.{Definition, Program, declaration_of, definition_in}
use Rattle.dm_meaning.specs.Running.{begun, all_begun}
use Rattle.dm_meaning.specs.States.{evaluates, Task}
use Rattle.dm_meaning.specs.Steps.{is_main}
use Rattle.dm_meaning.specs.Units.{main_in}
use Rattle.dm_meaning.specs.Called.{Called}
use Rattle.dm_meaning.proofs.ShrinkLemmas.{left_in, all_left_in}

-- ---- how much expressions have to do

-- the expressions in a body, all together
abbrev pub body_left : Definition → ℕ
body_left definition = all_left_in (all_begun (trees_of definition.body))

abbrev pub bodies_left : List Definition → ℕ
bodies_left [] = 0
bodies_left (first ∷ rest) = body_left first + bodies_left rest

-- no expression of the new program has more to do
abbrev pub limit : Called → ℕ
limit change = bodies_left change.functions

-- a function that is found has no more
abbrev pub IsSmall : ℕ → Option Definition → Type 0
IsSmall n None = Unit {0}
IsSmall n (Some definition) = body_left definition ≤ n

first_small : (n m : ℕ) → n ≤ n + m
first_small n m = omega arith

later_small : (n m k : ℕ) → k ≤ m → k ≤ n + m
later_small n m k h = omega (arith, h)

small_still : (n m : ℕ) (o : Option Definition) → IsSmall m o → IsSmall (n + m) o
small_still n m None h = tt
small_still n m (Some definition) h = later_small n m (body_left definition) h

small_if : (b : Bool) (first : Definition) (rest : Option Definition) (m : ℕ) → IsSmall m rest → IsSmall (body_left first + m) (if b then Some first else rest)
small_if true first rest m h = first_small (body_left first) m
small_if false first rest m h = small_still (body_left first) m rest h

pub definition_small : (definitions : List Definition) (d : ℕ) → IsSmall (bodies_left definitions) (definition_in definitions d)
definition_small [] d = tt
definition_small (first ∷ rest) d = small_if (first.function == d) first (definition_in rest d) (bodies_left rest) (definition_small rest d)

pub main_small : (program : Program) (definitions : List Definition) → IsSmall (bodies_left definitions) (main_in program definitions)
main_small program [] = tt
main_small program (first ∷ rest) = small_if (is_main (declaration_of program first.function)) first (main_in program rest) (bodies_left rest) (main_small program rest)

-- ---- how long the old program may wait

-- so many times a number
abbrev pub times : ℕ → ℕ → ℕ
times c zero = zero
times c (suc n) = c + times c n

times_more : (c m n : ℕ) → m ≤ n → times c m ≤ times c n
times_more c zero n h = omega arith
times_more c (suc m) zero h = absurd (too_few h)
  where
    too_few : suc m ≤ zero → ⊥
    too_few k = omega (arith, k)
times_more c (suc m) (suc n) h = let later = times_more c m n (omega (arith, h)) in omega (arith, later)

-- what a full expression may still cost, by what it has to do: a call of the added function takes its own steps, and five to come and go
abbrev pub share : Called → ℕ → ℕ
share change n = times (left_in (begun change.body) + 5) n

abbrev pub task_left : Task → ℕ
task_left (evaluates place run use_of) = left_in run
task_left task = 0

abbrev pub tasks_left : List Task → ℕ
tasks_left [] = 0
tasks_left (task ∷ tasks) = task_left task

-- what any expression may cost, after a step of the old program
abbrev pub most : Called → ℕ
most change = share change (limit change) + (left_in (begun change.body) + 5)

both_more : (a b c d : ℕ) → a ≤ b → c ≤ d → a + c ≤ b + d
both_more a b c d h k = omega (arith, h, k)

call_fits : (c m n w : ℕ) → times c (suc m) ≤ times c n → times c n ≤ w → times c m + c ≤ w
call_fits c m n w h k = omega (arith, h, k)

-- the expression around a call, and the call
pub most_inside : (change : Called) (n v : ℕ) → n ≤ limit change → v ≤ left_in (begun change.body) + 5 → share change n + v ≤ most change
most_inside change n v h k =
    both_more (share change n) (share change (limit change)) v (left_in (begun change.body) + 5) (times_more (left_in (begun change.body) + 5) n (limit change) h) k

-- a call is paid for
pub share_called : (change : Called) (m n w : ℕ) → m + 1 ≤ n → share change n ≤ w → share change m + (left_in (begun change.body) + 5) ≤ w
share_called change m n w h k =
    call_fits (left_in (begun change.body) + 5) m n w (times_more (left_in (begun change.body) + 5) (suc m) n (omega (arith, h))) k
