-- What is added so far and what is left are together what is to be added.
use Rattle.std.proofs.Common.{◌≡◌, ◌++◌, ◌≤◌, ◌+◌, ◌*◌, ℕ, map, length, IsTrue}
use denote.Param.Weighed.{most}
use Rattle.dm_type.specs.Tables.{Table}
use Rattle.dm_tree.specs.declared.tree.Initial.{size-Initial}
use Rattle.dm_tree.specs.TypeNumbers.{all_pass}
use Rattle.dm_tree.specs.Views.{expressions_of_items, view}
use Rattle.dm_meaning.specs.Wholes.{view_of_initial}
use Rattle.dm_agree.specs.Parts.{nows, are_all_known, are_known_in_initial, AreBelow}
use Rattle.dm_agree.proofs.parts.+pushing.Given as goal

abbrev pub invariant-push_initials-loop-one : goal.invariant-push_initials-loop-one
invariant-push_initials-loop-one l = record {
  same : (types : Table) → map (view types) (nows l.parts.items) ++ expressions_of_items (map (view_of_initial types) l.left)
      ≡ map (view types) (nows l.initial.parts.items) ++ expressions_of_items (map (view_of_initial types) l.fn.initials);
  known : (n : ℕ) → IsTrue (are_all_known n (nows l.initial.parts.items)) → IsTrue (all_pass (map (are_known_in_initial n) l.fn.initials))
      → IsTrue (are_all_known n (nows l.parts.items)) × IsTrue (all_pass (map (are_known_in_initial n) l.left));
  below : (depth : ℕ) → AreBelow depth (nows l.initial.parts.items) → most size-Initial l.fn.initials ≤ depth
      → AreBelow depth (nows l.parts.items) × (most size-Initial l.left ≤ depth);
  deep : most size-Initial l.left ≤ most size-Initial l.fn.initials;
}

abbrev pub decreases-push_initial : goal.decreases-push_initial
decreases-push_initial l = 2 * size-Initial l.initial.now

abbrev pub decreases-push_initials : goal.decreases-push_initials
decreases-push_initials l = 2 * most size-Initial l.initials.now + 1

abbrev pub decreases-push_initials-loop-one : goal.decreases-push_initials-loop-one
decreases-push_initials-loop-one l = length l.left
