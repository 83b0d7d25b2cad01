-- What a step leaves in a frame.
--     FrameFits table frame      its tasks fit the table and its objects
--     IsBegun table begun frame blocks turned      what is left in the frame and to evaluate is what the definition leaves
use Rattle.std.specs.Prelude.{◌≡◌, List, ◌++◌, length, Option}
use Rattle.dm_type.specs.Tables.{Table}
use Rattle.dm_memory.specs.declared.blocks.Block.{Block}
use Rattle.dm_memory.specs.Blocks.{view_of_blocks, AreKnown}
use Rattle.dm_meaning.specs.States as states
use Rattle.dm_meaning.specs.Statements.{Turned, onward}
use Rattle.dm_frame.specs.declared.frame.Frame.{Frame}
use Rattle.dm_frame.specs.declared.task.Begun.{Begun}
use Rattle.dm_frame.specs.Tasks.{view_of_begun, view_of_tasks, BegunFits, TasksFit}

-- its tasks
abbrev pub tasks_of : Table → Frame → List states.Task
tasks_of table frame = view_of_tasks table frame.objects frame.tasks

-- the frame itself
abbrev pub view_of_frame : Table → Frame → states.Frame
view_of_frame table frame = record { function = frame.function; objects = frame.objects; tasks = tasks_of table frame }

-- its tasks are of the table, and name no more objects than it has
abbrev pub FrameFits : Table → Frame → Type 0
FrameFits table frame = TasksFit table (length frame.objects) frame.tasks

-- with a full expression that begins, if one does
abbrev pub onward_with : Table → Option Begun → Frame → List Block → Turned
onward_with table begun frame blocks = onward frame.objects (view_of_begun table begun ++ tasks_of table frame) (view_of_blocks table blocks)

-- The frame, the objects and the expression that begins are what the definition leaves, and fit.
pub record IsBegun (table : Table) (begun : Option Begun) (frame : Frame) (blocks : List Block) (turned : Turned) : Type 0 where
  pub same : onward_with table begun frame blocks ≡ turned
  pub frame_fits : FrameFits table frame
  pub begun_fits : BegunFits table begun
  pub blocks_fit : AreKnown table blocks

-- The frame and the objects are what the definition leaves, and fit.
pub record IsLeft (table : Table) (frame : Frame) (blocks : List Block) (turned : Turned) : Type 0 where
  pub same : onward frame.objects (tasks_of table frame) (view_of_blocks table blocks) ≡ turned
  pub fits : FrameFits table frame
  pub known : AreKnown table blocks
