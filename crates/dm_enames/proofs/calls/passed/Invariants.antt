-- The arguments so far, and those that are still to pass.
use Rattle.std.proofs.Common.{◌≡◌, List, length, map, All}
use Rattle.dm_type.specs.declared.shape.Shape.{Shape}
use Rattle.dm_type.specs.CTypes.{all_of}
use Rattle.dm_type.specs.Tables.{IsId}
use Rattle.dm_typing.specs.Fitting.{AreNumbered}
use Rattle.dm_typing.specs.Rules.{passed}
use Rattle.dm_typing.specs.Views.{Begins, type_over, view_over, known_over}
use Rattle.dm_enames.proofs.CallStepLemmas.{behind_these}
use Rattle.dm_enames.proofs.calls.passed.Given as goal

abbrev pub invariant-loop-value : goal.invariant-loop-value
invariant-loop-value l = record {
  left : (later : List Shape) → Begins l.known.types.shapes later
      → behind_these (map (view_over later) l.passed) (passed (known_over later l.known) (map (view_over later) l.queue.items) (all_of (map (type_over later) l.rest)))
      ≡ passed (known_over later l.known) (map (view_over later) l.fn.values) (all_of (map (type_over later) l.fn.parameters));
  so_far : AreNumbered l.known.types l.passed;
  values : AreNumbered l.known.types l.queue.items;
  parameters : All (IsId l.known.types) l.rest;
}

abbrev pub decreases-loop-value : goal.decreases-loop-value
decreases-loop-value l = length l.queue.items
