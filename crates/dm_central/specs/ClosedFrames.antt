-- States in which the objects that certain declarations name are closed, in the frame that is running and in all that wait.
--     CallersHave P callers      this holds of the objects of each frame that waits, and of those that its tasks save
--     AreClosedIn test state objects      those of the objects are closed whose declarations the test picks out
--     AreAllClosed test state      so are those of all frames, and no pointer leads to what hasn't been made
use Rattle.std.specs.Prelude.{◌≡◌, ℕ, Bool, true, List, [], ◌∷◌, None}
use Rattle.dm_meaning.specs.Among.{IsAmong}
use Rattle.dm_meaning.specs.Memory.{look_up}
use Rattle.dm_meaning.specs.Operations.{Objects}
use Rattle.dm_meaning.specs.States.{Caller, State}
use Rattle.dm_rewrite.specs.ClosedStates.{IsUnreached, IsClosedState}
use Rattle.dm_central.specs.Waiting.{FrameHas}

abbrev pub CallersHave : (Objects → Type 0) → List Caller → Type 0
CallersHave P [] = Unit {0}
CallersHave P (caller ∷ callers) = FrameHas P caller.frame × CallersHave P callers

abbrev pub AreClosedIn : (ℕ → Bool) → State → Objects → Type 0
AreClosedIn test state objects = (entry : ℕ × ℕ) → IsAmong entry objects → test entry.0 ≡ true → IsClosedState entry.1 entry.0 state

-- Whatever such a declaration will name, nothing leads to it before it is made.
pub record AreAllClosed (test : ℕ → Bool) (state : State) : Type 0 where
  pub unmade : (d : ℕ) → test d ≡ true → (n : ℕ) → look_up state.world.memory n ≡ None → IsUnreached n d state
  pub frame : FrameHas (AreClosedIn test state) state.frame
  pub callers : CallersHave (AreClosedIn test state) state.callers
