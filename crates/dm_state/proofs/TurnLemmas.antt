-- What a step in a frame leaves in its state.
use Rattle.std.proofs.Common.{◌≡◌, ℕ, List, Option, map, ap, ◌∙◌}
use Rattle.dm_type.specs.Tables.{Table}
use Rattle.dm_memory.specs.declared.blocks.Block.{Block}
use Rattle.dm_memory.specs.Blocks.{view_of_blocks}
use Rattle.dm_meaning.specs.Machines.{going}
use Rattle.dm_meaning.specs.States as states
use Rattle.dm_meaning.specs.Statements.{Turned, onward}
use Rattle.dm_meaning.specs.Steps.{turned}
use Rattle.dm_frame.specs.declared.frame.Frame.{Frame}
use Rattle.dm_state.specs.declared.full.Full.{Full}
use Rattle.dm_state.specs.declared.running.Running.{Running}
use Rattle.dm_state.specs.Standing.{world_of}
use Rattle.dm_state.specs.Turns.{state_with}
use Rattle.dm_state.specs.Views.{tasks_with, view_of_caller, view_of_running}

abbrev placed : Table → Running → List Block → Frame → ℕ → List states.Task → states.State
placed table old blocks frame function tasks = record {
  standing = going;
  frame = record { function = function; objects = frame.objects; tasks = tasks };
  callers = map (view_of_caller table) old.callers;
  statics = old.statics;
  world = world_of table blocks old.streams;
}

pub view-turned : (table : Table) (old : Running) (tasks left : List states.Task) (frame : Frame) (full : Option Full) (blocks : List Block) (turn : Turned)
    → frame.function ≡ old.frame.function → tasks_with table full frame ≡ left → onward frame.objects left (view_of_blocks table blocks) ≡ turn
    → view_of_running table (record { frame = frame; full = full; callers = old.callers; statics = old.statics; blocks = blocks; streams = old.streams }) ≡ turned (state_with table tasks old) turn
view-turned table old tasks left frame full blocks turn function with_full is =
    ap (placed table old blocks frame frame.function) with_full
    ∙ (ap (λ f. placed table old blocks frame f left) function ∙ ap (turned (state_with table tasks old)) is)
