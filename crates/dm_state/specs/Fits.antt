-- What fits a table of types.
--     RunningFits table running      the types in a state are of the table, and its expressions stand for trees
use Rattle.std.specs.Prelude.{ℕ, List, Option, Some, None}
use Rattle.std.specs.List.{AllByRecursion}
use Rattle.dm_type.specs.Tables.{Table, IsId}
use Rattle.dm_meaning.specs.Running.{Run}
use Rattle.dm_memory.specs.Blocks.{AreKnown}
use Rattle.dm_expression.specs.Standing.{Lacks}
use Rattle.dm_frame.specs.Frames.{FrameFits}
use Rattle.dm_frame.specs.Tasks.{ExpressionFits, UseFits}
use Rattle.dm_state.specs.declared.full.Full.{Full}
use Rattle.dm_state.specs.declared.full.Full.TheVariants.{Begins, Goes}
use Rattle.dm_state.specs.declared.full.Ongoing.{Ongoing}
use Rattle.dm_state.specs.declared.running.Caller.{Caller}
use Rattle.dm_state.specs.declared.running.Running.{Running}
use Rattle.dm_state.specs.Standing.{see, Fits, IsUnder}
use Rattle.dm_state.specs.Views.{front_locks, back_locks, hole_in_one}

pub record OngoingFits (table : Table) (one : Ongoing) : Type 0 where
  pub run : Run
  pub under : IsUnder table one.expression run
  pub fits : Fits table one.expression
  pub use_fits : UseFits table one.use_of

abbrev pub FullFits : Table → Option Full → Type 0
FullFits table None = Unit {0}
FullFits table (Some (Begins begun)) = ExpressionFits table begun.tree.now × UseFits table begun.use_of
FullFits table (Some (Goes one)) = OngoingFits table one

pub record CallerFits (table : Table) (one : Caller) : Type 0 where
  pub frame : FrameFits table one.frame
  pub kind : IsId table one.kind
  pub lacks : Lacks (see table) table one.expression.row (front_locks one.expression) (back_locks one.expression) (hole_in_one table one.expression)
  pub fits : Fits table one.expression
  pub use_fits : UseFits table one.use_of

-- the expression lacks a call of this type at its place
pub record LacksCall (table : Table) (kind : ℕ) (one : Ongoing) : Type 0 where
  pub is_type : IsId table kind
  pub lacks : Lacks (see table) table one.expression.row (front_locks one.expression) (back_locks one.expression) (hole_in_one table one.expression)
  pub fits : Fits table one.expression
  pub use_fits : UseFits table one.use_of

abbrev pub CallersFit : Table → List Caller → Type 0
CallersFit table callers = AllByRecursion (CallerFits table) callers

pub record RunningFits (table : Table) (running : Running) : Type 0 where
  pub frame : FrameFits table running.frame
  pub full : FullFits table running.full
  pub callers : CallersFit table running.callers
  pub blocks : AreKnown table running.blocks
