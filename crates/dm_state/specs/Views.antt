-- The state of the machine for which a state that goes on stands.
--     run_of table expression      the tree under evaluation
--     hole_in_one table expression      the tree without the call that is waited for
--     view_of_running table running      the state
use Rattle.std.specs.Prelude.{List, [], ◌∷◌, ◌++◌, map, take, drop, Option, Some, None}
use Rattle.dm_type.specs.Tables.{Table, type_of}
use Rattle.dm_tree.specs.Views.{view}
use Rattle.dm_meaning.specs.Machines.{going}
use Rattle.dm_meaning.specs.Running.{Run, Hole}
use Rattle.dm_meaning.specs.States as states
use Rattle.dm_meaning.specs.Statements.{evaluation}
use Rattle.dm_value.specs.declared.place.At.{At}
use Rattle.dm_operate.specs.declared.evaluation.Operand.{Operand}
use Rattle.dm_row.specs.Counts.{weight_in}
use Rattle.dm_postfix.specs.Postfix.{hole_of, tree_of}
use Rattle.dm_expression.specs.declared.expression.Expression.{Expression}
use Rattle.dm_expression.specs.Standing.{viewed}
use Rattle.dm_frame.specs.declared.frame.Frame.{Frame}
use Rattle.dm_frame.specs.Frames.{tasks_of, view_of_frame}
use Rattle.dm_frame.specs.Tasks.{view_of_use}
use Rattle.dm_state.specs.declared.full.Full.{Full}
use Rattle.dm_state.specs.declared.full.Full.TheVariants.{Begins, Goes}
use Rattle.dm_state.specs.declared.running.Caller.{Caller}
use Rattle.dm_state.specs.declared.running.Running.{Running}
use Rattle.dm_state.specs.Standing.{see, world_of}

abbrev pub run_of : Table → Expression Operand At → Run
run_of table expression = tree_of (viewed (see table) table expression.locks.items (expression.row.0 ++ expression.row.1))

-- the locks of the results in front of the place, and of those behind it
abbrev pub front_locks : Expression Operand At → List At
front_locks expression = take (weight_in expression.row.0) expression.locks.items

abbrev pub back_locks : Expression Operand At → List At
back_locks expression = drop (weight_in expression.row.0) expression.locks.items

abbrev pub hole_in_one : Table → Expression Operand At → Hole
hole_in_one table expression =
    hole_of (viewed (see table) table (front_locks expression) expression.row.0) (viewed (see table) table (back_locks expression) expression.row.1)

abbrev pub view_of_full : Table → Full → states.Task
view_of_full table (Begins begun) = evaluation (view table begun.tree.now) (view_of_use table begun.use_of)
view_of_full table (Goes one) = states.evaluates one.place (run_of table one.expression) (view_of_use table one.use_of)

-- the full expression under evaluation is the next task, if there is one
abbrev pub tasks_with : Table → Option Full → Frame → List states.Task
tasks_with table None frame = tasks_of table frame
tasks_with table (Some full) frame = view_of_full table full ∷ tasks_of table frame

abbrev pub frame_with : Table → Option Full → Frame → states.Frame
frame_with table full frame = record { function = frame.function; objects = frame.objects; tasks = tasks_with table full frame }

abbrev pub view_of_caller : Table → Caller → states.Caller
view_of_caller table one = record {
  frame = view_of_frame table one.frame;
  place = one.place;
  kind = type_of table one.kind;
  hole = hole_in_one table one.expression;
  use_of = view_of_use table one.use_of;
}

abbrev pub view_of_running : Table → Running → states.State
view_of_running table running = record {
  standing = going;
  frame = frame_with table running.full running.frame;
  callers = map (view_of_caller table) running.callers;
  statics = running.statics;
  world = world_of table running.blocks running.streams;
}
