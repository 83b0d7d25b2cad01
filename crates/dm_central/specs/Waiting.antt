-- Frames that wait while functions above them run.
--     FrameKeeps P N R frame      P holds of the frame's objects, and of those that its tasks save, N of the names of the objects that its tasks
--                                 initialise, and R of its full expressions
--     FrameHas P frame      this holds of the frame's objects, and of those that its tasks save
--     IsWaiting starts state      the objects of each frame were made after the functions below it were called, in these worlds, and the objects
--                                 that were there then still are, unless their own frame ends them
use Rattle.std.specs.Prelude.{◌≡◌, ◌⊎◌, ℕ, List, [], ◌∷◌, None}
use Rattle.dm_meaning.specs.Among.{IsAmong}
use Rattle.dm_meaning.specs.Lifetimes.{numbers_of}
use Rattle.dm_meaning.specs.Memory.{look_up}
use Rattle.dm_meaning.specs.MoreObjects.{IsMade, ObjectsMade}
use Rattle.dm_meaning.specs.Operations.{World, Objects}
use Rattle.dm_meaning.specs.Running.{Run}
use Rattle.dm_meaning.specs.States.{Use, initialises, Task, initials, evaluates, again, tests, ends, ends_switch, Frame, Caller, State}
use Rattle.dm_meaning.specs.Values.{Name}
use Rattle.dm_rewrite.specs.KeptMemory.{HasSameObjects}

abbrev pub UseHas : (Name → Type 0) → Use → Type 0
UseHas N (initialises at kind) = N at.name
UseHas N use_of = Unit {0}

abbrev pub TaskKeeps : (Objects → Type 0) → (Name → Type 0) → (Run → Type 0) → Task → Type 0
TaskKeeps P N R (initials at kind initialiser expressions) = N at.name
TaskKeeps P N R (evaluates place run use_of) = R run × UseHas N use_of
TaskKeeps P N R (again objects loop) = P objects
TaskKeeps P N R (tests objects loop) = P objects
TaskKeeps P N R (ends objects) = P objects
TaskKeeps P N R (ends_switch objects) = P objects
TaskKeeps P N R task = Unit {0}

abbrev pub TasksKeep : (Objects → Type 0) → (Name → Type 0) → (Run → Type 0) → List Task → Type 0
TasksKeep P N R [] = Unit {0}
TasksKeep P N R (task ∷ tasks) = TaskKeeps P N R task × TasksKeep P N R tasks

abbrev pub FrameKeeps : (Objects → Type 0) → (Name → Type 0) → (Run → Type 0) → Frame → Type 0
FrameKeeps P N R frame = P frame.objects × TasksKeep P N R frame.tasks

abbrev pub any_name : Name → Type 0
any_name name = Unit {0}

abbrev pub any_run : Run → Type 0
any_run run = Unit {0}

abbrev pub FrameHas : (Objects → Type 0) → Frame → Type 0
FrameHas P frame = FrameKeeps P any_name any_run frame

-- ---- frames that wait

abbrev pub IsEntry : Objects → Objects → ℕ × ℕ → Type 0
IsEntry statics objects entry = IsAmong entry statics ⊎ IsAmong entry objects

-- no object is that of two declarations, none of a frame is of static storage duration, and the frame's hadn't been made in these worlds
pub record AreOwn (statics : Objects) (starts : List World) (objects : Objects) : Type 0 where
  pub apart : (x y : ℕ × ℕ) → IsEntry statics objects x → IsEntry statics objects y → x.1 ≡ y.1 → x.0 ≡ y.0
  pub local : (x y : ℕ × ℕ) → IsAmong x statics → IsAmong y objects → x.1 ≡ y.1 → ⊥
  pub missing : (start : World) → IsAmong start starts → (n : ℕ) → IsAmong n (numbers_of objects) → look_up start.memory n ≡ None

-- what was made still is, and what could be used still can
pub record HasLasted (start now : World) : Type 0 where
  pub made : (n : ℕ) → IsMade start.memory n → IsMade now.memory n
  pub same : HasSameObjects start.memory now.memory

abbrev pub CallersOwn : Objects → List World → List Caller → Type 0
CallersOwn statics [] [] = Unit {0}
CallersOwn statics (start ∷ starts) (caller ∷ callers) = FrameHas (AreOwn statics starts) caller.frame × CallersOwn statics starts callers
CallersOwn statics starts callers = ⊥

pub record IsWaiting (starts : List World) (state : State) : Type 0 where
  pub statics : ObjectsMade state.world.memory state.statics
  pub frame : FrameHas (AreOwn state.statics starts) state.frame
  pub callers : CallersOwn state.statics starts state.callers
  pub since : (start : World) → IsAmong start starts → HasLasted start state.world
