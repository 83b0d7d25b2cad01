-- States whose memory has objects that nothing in them names: what a step does to these, and that it is the step without them (6.2.4p2).
--     IsSettled state      whatever the state names has been made
--     IsSpare more memory n block      an object that the first memory has and the second lacks
--     Grown more memory after later      two memories, the second without some objects, after the same change
--     Spared program state later more      a step beside more objects is one without them
use Rattle.std.specs.Prelude.{◌≡◌, ℕ, List, [], ◌∷◌, Some, None}
use Rattle.dm_type.specs.CTypes.{void}
use Rattle.dm_meaning.specs.Among.{IsAmong}
use Rattle.dm_meaning.specs.Values.{Name, numbered, literal_of, elsewhere, At, unset}
use Rattle.dm_meaning.specs.Memory.{Memory, Block, look_up}
use Rattle.dm_meaning.specs.Programs.{Program}
use Rattle.dm_meaning.specs.Operations.{of_value, Objects}
use Rattle.dm_meaning.specs.Running.{Run, done, Hole, filled_in, locks_in}
use Rattle.dm_meaning.specs.States.{Use, initialises, Task, initials, evaluates, again, tests, ends, ends_switch, Frame, Caller, State}
use Rattle.dm_meaning.specs.Steps.{Step}
use Rattle.dm_meaning.specs.Extending.{HasAll}
use Rattle.dm_meaning.specs.Lifetimes.{numbers_of}

-- ---- what has been made

-- an object of this number has been made, alive or not
abbrev pub IsMade : Memory → ℕ → Type 0
IsMade memory n = (block : Block) × (look_up memory n ≡ Some block)

-- the object of a name, if the program makes it
abbrev pub IsMadeName : Memory → Name → Type 0
IsMadeName memory (numbered n) = IsMade memory n
IsMadeName memory (literal_of bytes unit) = Unit {0}
IsMadeName memory (elsewhere identifier) = Unit {0}

abbrev pub ObjectsMade : Memory → Objects → Type 0
ObjectsMade memory objects = (n : ℕ) → IsAmong n (numbers_of objects) → IsMade memory n

abbrev pub LocksMade : Memory → List At → Type 0
LocksMade memory locks = (lock : At) → IsAmong lock locks → IsMadeName memory lock.name

-- ---- states

-- what the value of a full expression is for
abbrev pub UseSettled : Memory → Use → Type 0
UseSettled memory (initialises at kind) = IsMadeName memory at.name
UseSettled memory use_of = Unit {0}

-- what a task names
abbrev pub TaskSettled : Memory → Task → Type 0
TaskSettled memory (initials at kind initialiser expressions) = IsMadeName memory at.name
TaskSettled memory (evaluates place run use_of) = LocksMade memory (locks_in run) × UseSettled memory use_of
TaskSettled memory (again objects loop) = ObjectsMade memory objects
TaskSettled memory (tests objects loop) = ObjectsMade memory objects
TaskSettled memory (ends objects) = ObjectsMade memory objects
TaskSettled memory (ends_switch objects) = ObjectsMade memory objects
TaskSettled memory task = Unit {0}

abbrev pub TasksSettled : Memory → List Task → Type 0
TasksSettled memory [] = Unit {0}
TasksSettled memory (task ∷ tasks) = TaskSettled memory task × TasksSettled memory tasks

abbrev pub FrameSettled : Memory → Frame → Type 0
FrameSettled memory frame = ObjectsMade memory frame.objects × TasksSettled memory frame.tasks

-- a tree with a value without locks in place of the part that is left out
abbrev pub unfilled : Hole → Run
unfilled hole = filled_in hole (done void (of_value unset) [])

abbrev pub CallerSettled : Memory → Caller → Type 0
CallerSettled memory caller = FrameSettled memory caller.frame × LocksMade memory (locks_in (unfilled caller.hole)) × UseSettled memory caller.use_of

abbrev pub CallersSettled : Memory → List Caller → Type 0
CallersSettled memory [] = Unit {0}
CallersSettled memory (caller ∷ callers) = CallerSettled memory caller × CallersSettled memory callers

-- the objects that the frames name and that are locked have been made
pub record IsSettled (state : State) : Type 0 where
  pub frame : FrameSettled state.world.memory state.frame
  pub callers : CallersSettled state.world.memory state.callers

-- ---- memories of which one has more objects

-- an object that the first memory has, as it is there, and the second lacks
abbrev pub IsSpare : Memory → Memory → ℕ → Block → Type 0
IsSpare more memory n block = (look_up more n ≡ Some block) × (look_up memory n ≡ None)

-- After the same change, one memory still has the objects of the other, those that were made are still there, and the spare ones are as
-- they were.
pub record Grown (more memory after later : Memory) : Type 0 where
  pub has : HasAll after later
  pub made : (n : ℕ) → IsMade memory n → IsMade later n
  pub spare : (n : ℕ) (block : Block) → IsSpare more memory n block → IsSpare after later n block

-- the state with another memory
abbrev pub with_memory : State → Memory → State
with_memory state memory = record state { world = record state.world { memory = memory } }

-- a step from a state with more objects in memory is one from the state without them
pub record Spared (program : Program) (state later : State) (more : Memory) : Type 0 where
  pub next : State
  pub after : Memory
  pub step : Step program state next
  pub is : later ≡ with_memory next after
  pub settled : IsSettled next
  pub grown : Grown more state.world.memory after next.world.memory
