-- What a step of a program may write, by what its next task names.
--     next_effects stage state      of the first task that takes a step
--     StillHolds memory n block      the object of this number holds what the block does
use Rattle.std.specs.Prelude.{◌≡◌, ℕ, Bool, List, [], ◌∷◌, ◌++◌, Some}
use Rattle.dm_meaning.specs.Memory.{Memory, Block, look_up}
use Rattle.dm_meaning.specs.Programs.{Program}
use Rattle.dm_meaning.specs.States.{Use, initialises, Task, initials, evaluates, State}
use Rattle.dm_meaning.specs.Statements.{unfolded}
use Rattle.dm_meaning.specs.Steps.{scene_of}
use Rattle.dm_rewrite.specs.Effects.{Effect, Stage, by_name, effects_of}

-- where the frame that is running stands
abbrev pub stage_of : Program → List ℕ → (ℕ → Bool) → State → Stage
stage_of program closed quiet state = record { scene = scene_of program state; closed = closed; quiet = quiet }

abbrev pub use_effects : Use → List Effect
use_effects (initialises at kind) = by_name at.name
use_effects use_of = []

-- a full expression, with what its value is stored in, or an initialiser
abbrev pub task_effects : Stage → Task → List Effect
task_effects stage (evaluates place run use_of) = effects_of stage run ++ use_effects use_of
task_effects stage (initials at kind initialiser expressions) = by_name at.name
task_effects stage task = []

abbrev pub first_effects : Stage → List Task → List Effect
first_effects stage [] = []
first_effects stage (task ∷ rest) = task_effects stage task

abbrev pub next_effects : Stage → State → List Effect
next_effects stage state = first_effects stage (unfolded state.frame.tasks)

-- whether it is alive or not
pub record StillHolds (memory : Memory) (n : ℕ) (block : Block) : Type 0 where
  pub found : Block
  pub is : look_up memory n ≡ Some found
  pub contents : found.contents ≡ block.contents
