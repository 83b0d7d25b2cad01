-- What a tree under evaluation may still write, by the names in it.
--     Effect      an object that is written by its name, or any that isn't closed
--     Stage      what is known where the tree stands
--     effects_of stage run      what the tree may write, or has written and locks
--     Writes world after effects      nothing is written, or a place in one of the objects that are named
--     ChangesOnly stage effects world later      a later world is the same, but for what trees with these effects may write
--     LeavesNoMore stage effects move      after a step the tree may write no more than before
use Rattle.std.specs.Prelude.{◌≡◌, ◌⊎◌, ℕ, Bool, List, [], ◌∷◌, ◌++◌, Option, Some, None, if◌then◌else◌}
use Rattle.dm_tree.specs.Trees.{object, store, update, count, call}
use Rattle.dm_meaning.specs.Among.{IsAmong}
use Rattle.dm_meaning.specs.Values.{Name, numbered, At, Value}
use Rattle.dm_meaning.specs.Memory.{contents_at, written}
use Rattle.dm_meaning.specs.Operations.{of_value, designates, World, Objects, Scene, object_named}
use Rattle.dm_meaning.specs.Running.{Doing, evaluates, Run, done, to_do, Runs, no_runs, more_runs, Hole, filled_in}
use Rattle.dm_meaning.specs.Expressions.{Move, goes, calls, fails, exits, function_named}
use Rattle.dm_rewrite.specs.KeptMemory.{IsThere, HasSameObjects}

pub data Effect : Type 0 where
  -- this object, by its name; or a part of it is locked
  on_object : ℕ → Effect
  -- any object that isn't closed: by a pointer, or in a function that is called
  on_others : Effect

-- What names stand for, which objects are closed, as no pointer leads to them, and which functions are quiet, as they write nothing that was
-- there when they were called.
pub record Stage : Type 0 where
  pub scene : Scene
  pub closed : List ℕ
  pub quiet : ℕ → Bool

-- ---- what is written

abbrev pub by_number : Option ℕ → List Effect
by_number None = []
by_number (Some n) = on_object n ∷ []

abbrev pub by_name : Name → List Effect
by_name (numbered n) = on_object n ∷ []
by_name name = []

-- in what the left operand of an assignment designates
abbrev pub target_effects : Objects → Run → List Effect
target_effects objects (to_do (evaluates (object d)) kind place parts) = by_number (object_named objects d)
target_effects objects (done kind (designates at) locks) = by_name at.name
target_effects objects run = on_others ∷ []

abbrev pub call_effects : (ℕ → Bool) → Option ℕ → List Effect
call_effects quiet None = on_others ∷ []
call_effects quiet (Some f) = if quiet f then [] else on_others ∷ []

-- by the node itself
abbrev pub own_effects : Stage → Doing → Runs → List Effect
own_effects stage (evaluates store) (more_runs left rest) = target_effects stage.scene.objects left
own_effects stage (evaluates (update op works)) (more_runs left rest) = target_effects stage.scene.objects left
own_effects stage (evaluates (count plus before)) (more_runs left rest) = target_effects stage.scene.objects left
own_effects stage (evaluates call) (more_runs named rest) = call_effects stage.quiet (function_named named)
own_effects stage doing parts = []

abbrev pub lock_effects : List At → List Effect
lock_effects [] = []
lock_effects (lock ∷ locks) = by_name lock.name ++ lock_effects locks

abbrev mutual
  pub effects_of : Stage → Run → List Effect
  effects_of stage (done kind result locks) = lock_effects locks
  effects_of stage (to_do doing kind place parts) = own_effects stage doing parts ++ effects_in stage parts

  pub effects_in : Stage → Runs → List Effect
  effects_in stage no_runs = []
  effects_in stage (more_runs first rest) = effects_of stage first ++ effects_in stage rest

-- ---- what a step writes

pub record WritesAt (world after : World) (effects : List Effect) : Type 0 where
  pub at : At
  pub value : Value
  pub is : after.memory ≡ written world.memory at value
  pub among : (n : ℕ) → at.name ≡ numbered n → IsAmong (on_object n) effects

abbrev pub Writes : World → World → List Effect → Type 0
Writes world after effects = (after.memory ≡ world.memory) ⊎ WritesAt world after effects

-- ---- what stays

-- the effect may be one on the object of this number
abbrev pub Hits : List ℕ → Effect → ℕ → Type 0
Hits closed (on_object m) n = m ≡ n
Hits closed on_others n = IsAmong n closed → ⊥

abbrev pub IsFree : List ℕ → List Effect → ℕ → Type 0
IsFree closed effects n = (effect : Effect) → IsAmong effect effects → Hits closed effect n → ⊥

-- all objects that can be used are still there, and those on which there is no effect hold what they held
pub record ChangesOnly (stage : Stage) (effects : List Effect) (world later : World) : Type 0 where
  pub same_objects : HasSameObjects world.memory later.memory
  pub same : (at : At) (n : ℕ) → at.name ≡ numbered n → IsFree stage.closed effects n → IsThere world.memory at.name
      → contents_at later.memory at ≡ contents_at world.memory at

-- ---- effects that shrink

-- what is free of the ones is free of the others
abbrev pub IsNoMore : Stage → List Effect → List Effect → Type 0
IsNoMore stage was now = (n : ℕ) → IsFree stage.closed was n → IsFree stage.closed now n

-- A call has no more effects than the tree, and so has the tree in which its value is in its place, whatever the call has locked.
abbrev pub LeavesNoMore : Stage → List Effect → Move Run Hole → Type 0
LeavesNoMore stage effects (goes after later) = IsNoMore stage effects (effects_of stage later)
LeavesNoMore stage effects (calls f arguments kind hole) =
    ((effect : Effect) → IsAmong effect (call_effects stage.quiet (Some f)) → IsAmong effect effects)
    × ((value : Value) (locks : List At) → IsNoMore stage (call_effects stage.quiet (Some f)) (lock_effects locks)
    → IsNoMore stage effects (effects_of stage (filled_in hole (done kind (of_value value) locks))))
LeavesNoMore stage effects (fails cause place) = Unit {0}
LeavesNoMore stage effects (exits status) = Unit {0}
