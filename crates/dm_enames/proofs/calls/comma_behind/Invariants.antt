-- The tree so far, and what follows it.
use Rattle.std.proofs.Common.{◌≡◌, List, length, map}
use Rattle.dm_type.specs.declared.shape.Shape.{Shape}
use Rattle.dm_type.specs.Tables.{Table}
use Rattle.dm_typing.specs.Fitting.{IsNumbered, AreNumbered}
use Rattle.dm_typing.specs.Typing.{comma_tree}
use Rattle.dm_typing.specs.Views.{view_over, setting_of}
use Rattle.dm_enames.proofs.calls.comma_behind.Given as goal

abbrev pub invariant-loop-second : goal.invariant-loop-second
invariant-loop-second l = record {
  left : (later : List Shape) → comma_tree (setting_of l.typer) l.at (view_over later l.tree) (map (view_over later) l.queue.items)
      ≡ comma_tree (setting_of l.typer) l.at (view_over later l.fn.first) (map (view_over later) l.fn.others.items);
  numbered : (types : Table) → IsNumbered types l.fn.first → AreNumbered types l.fn.others.items → IsNumbered types l.tree × AreNumbered types l.queue.items;
}

abbrev pub decreases-loop-second : goal.decreases-loop-second
decreases-loop-second l = length l.queue.items
