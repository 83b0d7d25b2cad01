-- What is added so far and what is left are together what is to be added.
use Rattle.std.proofs.Common.{◌≡◌, ◌++◌, ◌≤◌, ℕ, map, length, IsTrue}
use denote.Param.Weighed.{most}
use Rattle.dm_type.specs.Tables.{Table}
use Rattle.dm_tree.specs.declared.tree.Local.{size-Local}
use Rattle.dm_tree.specs.TypeNumbers.{all_pass, are_known_in_local}
use Rattle.dm_tree.specs.Views.{expressions_of_locals, view, view_of_local}
use Rattle.dm_agree.specs.Parts.{nows, are_all_known, AreBelow}
use Rattle.dm_agree.proofs.parts.push_locals.Given as goal

abbrev pub invariant-loop-local : goal.invariant-loop-local
invariant-loop-local l = record {
  same : (types : Table) → map (view types) (nows l.parts.items) ++ expressions_of_locals (map (view_of_local types) l.left)
      ≡ map (view types) (nows l.initial.parts.items) ++ expressions_of_locals (map (view_of_local types) l.fn.locals);
  known : (n : ℕ) → IsTrue (are_all_known n (nows l.initial.parts.items)) → IsTrue (all_pass (map (are_known_in_local n) l.fn.locals))
      → IsTrue (are_all_known n (nows l.parts.items)) × IsTrue (all_pass (map (are_known_in_local n) l.left));
  below : (depth : ℕ) → AreBelow depth (nows l.initial.parts.items) → most size-Local l.fn.locals ≤ depth
      → AreBelow depth (nows l.parts.items) × (most size-Local l.left ≤ depth);
}

abbrev pub decreases-loop-local : goal.decreases-loop-local
decreases-loop-local l = length l.left
