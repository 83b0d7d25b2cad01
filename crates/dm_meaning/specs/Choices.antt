-- One run of the machine: each step by a number, which chooses among the steps from the left.
--     after program choices state      the state to which the choices lead
use Rattle.std.specs.Prelude.{ℕ, zero, suc, ◌+◌, List, [], ◌∷◌, length, Option, Some, None}
use Rattle.dm_meaning.specs.Memory.{Memory}
use Rattle.dm_meaning.specs.Programs.{Program, Definition}
use Rattle.dm_meaning.specs.States.{State}
use Rattle.dm_meaning.specs.Steps.{next}
use Rattle.dm_meaning.specs.Units.{start, main_of}

-- the state at a number, counted from 0, or the last where there are fewer; where there is none, the state stays
abbrev pub chosen : State → ℕ → List State → State
chosen state n [] = state
chosen state n (first ∷ []) = first
chosen state zero (first ∷ second ∷ rest) = first
chosen state (suc n) (first ∷ second ∷ rest) = chosen state n (second ∷ rest)

-- objects in the order in which they are made
abbrev pub in_order : Memory → ℕ → ℕ
in_order memory i = length memory + i

-- one step
abbrev pub stepped : Program → ℕ → State → State
stepped program choice state = chosen state choice (next (in_order state.world.memory) program state)

-- a step for each choice
abbrev pub after : Program → List ℕ → State → State
after program [] state = state
after program (choice ∷ choices) state = after program choices (stepped program choice state)

-- from the beginning of a run
abbrev pub after_start : Program → List ℕ → List ℕ → Option Definition → Option State
after_start program choices input None = None
after_start program choices input (Some main) = Some (after program choices (start (λ i. i) program main input))

abbrev pub run_by : Program → List ℕ → List ℕ → Option State
run_by program choices input = after_start program choices input (main_of program)
