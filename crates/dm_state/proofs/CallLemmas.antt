-- A function is called, and the one that calls waits.
use Rattle.std.proofs.Common.{◌≡◌, ℕ, List, ◌∷◌, Option, Some, None, map, ap, ◌∙◌}
use Rattle.dm_token.specs.declared.place.Place.{Place}
use Rattle.dm_type.specs.Tables.{Table, type_of}
use Rattle.dm_meaning.specs.Machines.{going}
use Rattle.dm_meaning.specs.Memory.{Memory}
use Rattle.dm_meaning.specs.Programs.{Definition, Program}
use Rattle.dm_meaning.specs.States as states
use Rattle.dm_meaning.specs.Steps.{opened, opened_frame, opened_memory}
use Rattle.dm_meaning.specs.Values.{Value}
use Rattle.dm_value.specs.declared.place.At.{At}
use Rattle.dm_memory.specs.declared.blocks.Block.{Block}
use Rattle.dm_memory.specs.Blocks.{view_of_blocks}
use Rattle.dm_operate.specs.declared.evaluation.Operand.{Operand}
use Rattle.dm_expression.specs.declared.expression.Expression.{Expression}
use Rattle.dm_frame.specs.declared.frame.Frame.{Frame}
use Rattle.dm_frame.specs.declared.task.Use.{Use}
use Rattle.dm_frame.specs.Frames.{tasks_of, view_of_frame}
use Rattle.dm_frame.specs.Tasks.{view_of_use}
use Rattle.dm_state.specs.declared.full.Full.{Full}
use Rattle.dm_state.specs.declared.running.Caller.{Caller}
use Rattle.dm_state.specs.declared.running.Running.{Running}
use Rattle.dm_state.specs.Turns.{state_with}
use Rattle.dm_state.specs.Views.{hole_in_one, view_of_caller, view_of_running}

module _ (table : Table) (old : Running) (tasks : List states.Task) where
  abbrev built : states.Frame → List Caller → Memory → states.State
  built frame callers memory = record {
    standing = going;
    frame = frame;
    callers = map (view_of_caller table) callers;
    statics = old.statics;
    world = record { memory = memory; input = old.streams.input.now; output = old.streams.output };
  }

  -- the one that calls
  abbrev pub waits : Place → ℕ → Expression Operand At → Use → Caller
  waits place kind expression use_of = record { frame = old.frame; place = place; kind = kind; expression = expression; use_of = use_of }

  pub view-opened : (program : Program) (names : ℕ → ℕ) (definition : Definition) (arguments : List Value) (frame : Frame) (full : Option Full) (callers : List Caller) (blocks : List Block)
      (place : Place) (kind : ℕ) (expression : Expression Operand At) (use_of : Use)
      → full ≡ None → callers ≡ waits place kind expression use_of ∷ old.callers → view_of_frame table frame ≡ opened_frame program names definition
      → view_of_blocks table blocks ≡ opened_memory program names definition arguments (view_of_blocks table old.blocks)
      → view_of_running table (record { frame = frame; full = full; callers = callers; statics = old.statics; blocks = blocks; streams = old.streams })
      ≡ opened program names (state_with table tasks old) (tasks_of table old.frame) place (view_of_use table use_of) (type_of table kind) (hole_in_one table expression) arguments (Some definition)
  view-opened program names definition arguments frame full callers blocks place kind expression use_of none pushed same memory =
      ap (λ (full : Option Full). view_of_running table (record { frame = frame; full = full; callers = callers; statics = old.statics; blocks = blocks; streams = old.streams })) none
      ∙ (ap (λ (callers : List Caller). built (view_of_frame table frame) callers (view_of_blocks table blocks)) pushed
      ∙ (ap (λ (one : states.Frame). built one (waits place kind expression use_of ∷ old.callers) (view_of_blocks table blocks)) same
      ∙ ap (built (opened_frame program names definition) (waits place kind expression use_of ∷ old.callers)) memory))
