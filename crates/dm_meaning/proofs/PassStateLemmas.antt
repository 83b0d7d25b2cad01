-- The objects of the added function's parameters, and the steps of a state's expression.
--     AreHeld change entries      the parameters have names of their own, and values
--     step_of_expression      a step of the expression under evaluation is one of its state
use Rattle.std.specs.Prelude.{◌≡◌, refl, ℕ, ◌+◌, false, List, [], ◌∷◌, ◌++◌}
use Rattle.dm_token.specs.declared.place.Place.{Place}
use Rattle.dm_meaning.specs.Among.{IsAmong}
use Rattle.dm_meaning.specs.Machines.{Standing, going, exited, undefined}
use Rattle.dm_meaning.specs.Causes.{is_unset}
use Rattle.dm_meaning.specs.Programs.{Program}
use Rattle.dm_meaning.specs.Running.{Run, done, to_do, Hole, begun, locks_in}
use Rattle.dm_meaning.specs.Expressions.{Move, moves}
use Rattle.dm_meaning.specs.States.{Use, Task, State}
use Rattle.dm_meaning.specs.Steps.{moved, scene_of, expression_steps, steps_from}
use Rattle.dm_meaning.specs.Called.{Called}
use Rattle.dm_meaning.proofs.AmongLemmas.{among-map}
use Rattle.dm_meaning.proofs.ShrinkLemmas.{left_in}
use Rattle.dm_meaning.proofs.PassRunLemmas.{Entry}
use Rattle.dm_meaning.proofs.EntryLemmas.{AreNamed}

-- ---- parameters

-- the parameters of the added function's frames, from the last
abbrev pub Spare : Type 0
Spare = List (List Entry)

abbrev pub flat : Spare → List Entry
flat [] = []
flat (first ∷ rest) = first ++ flat rest

-- the added function's parameters have names and values, and the names are others than the program's
pub record AreHeld (change : Called) (entries : List Entry) : Type 0 where
  pub named : AreNamed entries
  pub set : (entry : Entry) → IsAmong entry entries → is_unset entry.value ≡ false
  pub own : (entry : Entry) → IsAmong entry entries → (d : ℕ) → change.rename d ≡ entry.parameter → ⊥

-- what the added function's expression has to do at most
abbrev pub size : Called → ℕ
size change = left_in (begun change.body)

-- ---- steps of a machine

-- a step of an expression is one of its state
pub step_of_expression : (program : Program) (names : ℕ → ℕ) (state : State) (rest : List Task) (place : Place) (use_of : Use) (run : Run) (m : Move Run Hole)
    → IsAmong m (moves (scene_of program state) state.world (locks_in run) run) → IsAmong (moved program names state rest place use_of m) (expression_steps program names state rest place use_of run)
step_of_expression program names state rest place use_of (done kind result locks) m h = absurd h
step_of_expression program names state rest place use_of (to_do doing kind at parts) m h = among-map (moved program names state rest place use_of) m _ h

pub from_steps : (standing : Standing) (states : List State) (x : State) → IsAmong x (steps_from standing states) → (standing ≡ going) × IsAmong x states
from_steps going states x h = (refl, h)
from_steps (exited status) states x h = absurd h
from_steps (undefined cause place) states x h = absurd h
