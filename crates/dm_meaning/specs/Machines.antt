-- Machines whose steps are free choices, and their runs (5.1.2.3).
--     Standing      whether a state goes on, has ended, or is undefined
--     Machine      states, how runs begin, and steps
--     Goes machine n s t      n steps lead from s to t
--     RunsTo, RunsWithin      a run on an input leads to a state in so many steps, or in at most so many
--     Ends, IsWrong, IsUnfinished      what a run on an input may come to
use Rattle.std.specs.Prelude.{◌≡◌, ℕ, zero, suc, ◌≤◌, List}
use Rattle.dm_token.specs.declared.place.Place.{Place}
use Rattle.dm_meaning.specs.declared.cause.Cause.{Cause}

-- how a state stands
pub data Standing : Type 0 where
  -- it goes on: there is a step
  going : Standing
  -- the program has ended with this status
  exited : ℕ → Standing
  -- its last step has undefined behaviour
  undefined : Cause → Place → Standing

-- A machine with free choices.
pub record Machine : Type 1 where
  pub State : Type 0
  -- a run on this input may begin in this state
  pub Begins : List ℕ → State → Type 0
  -- a step may lead from one state to another
  pub Step : State → State → Type 0
  pub standing : State → Standing
  -- what has been written so far
  pub output : State → List ℕ

-- n steps may lead from one state to another
unfoldable pub Goes : (machine : Machine) → ℕ → machine.State → machine.State → Type 0
Goes machine zero s t = s ≡ t
Goes machine (suc n) s t = (u : machine.State) × machine.Step s u × Goes machine n u t

-- A run of n steps on an input that leads to a state.
pub record RunsTo (machine : Machine) (input : List ℕ) (n : ℕ) (t : machine.State) : Type 0 where
  pub start : machine.State
  pub begins : machine.Begins input start
  pub goes : Goes machine n start t

-- A run on an input leads to a state in so many steps, or in fewer where it has ended there.
pub record RunsWithin (machine : Machine) (input : List ℕ) (n : ℕ) (t : machine.State) : Type 0 where
  pub taken : ℕ
  pub run : RunsTo machine input taken t
  pub few : taken ≤ n
  pub all : machine.standing t ≡ going → taken ≡ n

-- some run on the input ends with this output and status
abbrev pub Ends : Machine → List ℕ → List ℕ → ℕ → Type 0
Ends machine input output status =
    (n : ℕ) × (t : machine.State) × RunsTo machine input n t × (machine.standing t ≡ exited status) × (machine.output t ≡ output)

-- some run on the input is undefined
abbrev pub IsWrong : Machine → List ℕ → Type 0
IsWrong machine input =
    (n : ℕ) × (t : machine.State) × RunsTo machine input n t × (cause : Cause) × (place : Place) × (machine.standing t ≡ undefined cause place)

-- some run of n steps on the input hasn't ended, and has this output so far
abbrev pub IsUnfinished : Machine → List ℕ → ℕ → List ℕ → Type 0
IsUnfinished machine input n output =
    (t : machine.State) × RunsTo machine input n t × (machine.standing t ≡ going) × (machine.output t ≡ output)
