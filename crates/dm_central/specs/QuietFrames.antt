-- Functions that write nothing that was there when they were called, and the frames in which they run.
--     IsQuietRun program quiet objects run      the tree under evaluation writes nothing
--     WritesNothing quiet tree      the tree neither stores nor calls others than these functions
--     AreQuiet program quiet      each body of these functions is one `return` of such a tree
--     AreQuietFrames program quiet state      their frames evaluate it, and what a frame of theirs calls is one of them
use Rattle.std.specs.Prelude.{◌≡◌, ◌⊎◌, ℕ, Bool, true, false, List, [], ◌∷◌, ◌++◌}
use Rattle.dm_token.specs.declared.place.Place.{Place}
use Rattle.dm_type.specs.CTypes.{CType}
use Rattle.dm_tree.specs.Trees.{Label, function, store, update, count, call, return, Spans, Tree, Trees, node, no_trees, more_trees, parts_of}
use Rattle.dm_meaning.specs.Among.{IsAmong}
use Rattle.dm_meaning.specs.Operations.{of_value, Objects}
use Rattle.dm_meaning.specs.Programs.{Program, Definition}
use Rattle.dm_meaning.specs.Running.{Run, done, begun, filled_in}
use Rattle.dm_meaning.specs.States.{returns, Task, begins, evaluates, hands_back, Frame, Caller, State}
use Rattle.dm_meaning.specs.Values.{Value}
use Rattle.dm_rewrite.specs.Effects.{Effect, Stage, effects_of}

-- where no object is closed
abbrev pub quiet_stage : Program → (ℕ → Bool) → Objects → Stage
quiet_stage program quiet objects = record { scene = record { program = program; objects = objects }; closed = []; quiet = quiet }

abbrev pub IsQuietRun : Program → (ℕ → Bool) → Objects → Run → Type 0
IsQuietRun program quiet objects run = (effect : Effect) → IsAmong effect (effects_of (quiet_stage program quiet objects) run) → ⊥

-- ---- trees of which nothing is evaluated

-- the node stores nothing, and calls such functions alone, by their names
abbrev pub is_quiet_node : (ℕ → Bool) → Label → Trees → Bool
is_quiet_node quiet store parts = false
is_quiet_node quiet (update op works) parts = false
is_quiet_node quiet (count plus before) parts = false
is_quiet_node quiet call (more_trees (node (function g) kind spans no_trees) rest) = quiet g
is_quiet_node quiet call parts = false
is_quiet_node quiet label parts = true

-- no node does otherwise, also where it isn't evaluated
abbrev mutual
  pub WritesNothing : (ℕ → Bool) → Tree → Type 0
  WritesNothing quiet (node label kind spans parts) = (is_quiet_node quiet label parts ≡ true) × AllWriteNothing quiet parts

  pub AllWriteNothing : (ℕ → Bool) → Trees → Type 0
  AllWriteNothing quiet no_trees = Unit {0}
  AllWriteNothing quiet (more_trees first rest) = WritesNothing quiet first × AllWriteNothing quiet rest

-- ---- programs

-- whatever the names in it stand for
abbrev pub IsQuietTree : Program → (ℕ → Bool) → Tree → Type 0
IsQuietTree program quiet tree = (objects : Objects) → IsQuietRun program quiet objects (begun tree)

pub record ReturnsQuietly (program : Program) (quiet : ℕ → Bool) (definition : Definition) : Type 0 where
  pub kind : CType
  pub spans : Spans
  pub value : Tree
  pub returns_it : parts_of definition.body ≡ node return kind spans (more_trees value no_trees) ∷ []
  pub quietly : IsQuietTree program quiet value

abbrev pub AreQuiet : Program → (ℕ → Bool) → Type 0
AreQuiet program quiet = (definition : Definition) → IsAmong definition program.functions → quiet definition.function ≡ true → ReturnsQuietly program quiet definition

-- ---- frames

-- the `return` begins, its tree is evaluated, or the function gives the value
abbrev pub QuietTasks : Program → (ℕ → Bool) → Objects → List Task → Type 0
QuietTasks program quiet objects tasks =
    ((kind : CType) × (spans : Spans) × (value : Tree) × (tasks ≡ begins (node return kind spans (more_trees value no_trees)) ∷ []) × IsQuietTree program quiet value)
    ⊎ (((place : Place) × (run : Run) × (tasks ≡ evaluates place run returns ∷ []) × IsQuietRun program quiet objects run)
    ⊎ ((value : Value) × (tasks ≡ hands_back value ∷ [])))

abbrev pub FrameIsQuiet : Program → (ℕ → Bool) → Objects → Frame → Type 0
FrameIsQuiet program quiet statics frame = quiet frame.function ≡ true → QuietTasks program quiet (statics ++ frame.objects) frame.tasks

-- one that waits for the function g
pub record CallerIsQuiet (program : Program) (quiet : ℕ → Bool) (statics : Objects) (g : ℕ) (caller : Caller) : Type 0 where
  pub above : quiet g ≡ true
  pub tasks : caller.frame.tasks ≡ []
  pub use_of : caller.use_of ≡ returns
  pub resumes : (value : Value) → IsQuietRun program quiet (statics ++ caller.frame.objects) (filled_in caller.hole (done caller.kind (of_value value) []))

abbrev pub CallersAreQuiet : Program → (ℕ → Bool) → Objects → ℕ → List Caller → Type 0
CallersAreQuiet program quiet statics g [] = Unit {0}
CallersAreQuiet program quiet statics g (caller ∷ callers) =
    (quiet caller.frame.function ≡ true → CallerIsQuiet program quiet statics g caller) × CallersAreQuiet program quiet statics caller.frame.function callers

pub record AreQuietFrames (program : Program) (quiet : ℕ → Bool) (state : State) : Type 0 where
  pub frame : FrameIsQuiet program quiet state.statics state.frame
  pub callers : CallersAreQuiet program quiet state.statics state.frame.function state.callers
