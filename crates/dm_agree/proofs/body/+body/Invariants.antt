-- What is left of the body is the tree that is left exactly where all of it is, and what is found so far and what stands there are all.
-- Each call is of smaller trees, or comes nearer to one.
use Rattle.std.proofs.Common.{◌≡◌, ◌≤◌, ◌↔◌, ◌+◌, ◌*◌, ◌++◌, IsTrue, length, drop, map}
use denote.Param.Weighed.{most}
use Rattle.dm_tree.specs.declared.tree.Core.{size-Core}
use Rattle.dm_tree.specs.Trees.{label_of, spans_of, trees}
use Rattle.dm_tree.specs.Views.{view}
use Rattle.dm_tree.specs.TypeNumbers.{are_known}
use Rattle.dm_agree.specs.Agreement.{SameBody, SameBodies}
use Rattle.dm_agree.specs.Arguments.{arguments_in, arguments_below, nothing_here, seen_all, trees_in}
use Rattle.dm_agree.specs.Comparing.{rewriting}
use Rattle.dm_agree.specs.Parts.{nows, are_all_known}
use Rattle.dm_agree.proofs.body.+body.Given as goal

abbrev pub decreases-is_same_body : goal.decreases-is_same_body
decreases-is_same_body l = 5 * size-Core l.body.now + 2

abbrev pub decreases-is_same_there : goal.decreases-is_same_there
decreases-is_same_there l = 5 * size-Core l.body.now + 1

abbrev pub decreases-are_same_parts : goal.decreases-are_same_parts
decreases-are_same_parts l = 5 * most size-Core (nows l.parts.now) + 4

abbrev pub decreases-is_same_part : goal.decreases-is_same_part
decreases-is_same_part l = 5 * size-Core l.part.now + 3

abbrev pub invariant-is_same_body-loop-at : goal.invariant-is_same_body-loop-at
invariant-is_same_body-loop-at l =
    let it = rewriting l.it in
    let old_types = l.it.old_types.now in
    record {
      body : IsTrue (are_known (length l.it.new_types.now.shapes) l.at);
      old : IsTrue (are_known (length old_types.shapes) l.other);
      small : size-Core l.at ≤ size-Core l.fn.body;
      same : SameBody it l.pattern.parameters.now l.pattern.run.now nothing_here (view l.it.new_types.now l.at) (view old_types l.other)
          ↔ SameBody it l.pattern.parameters.now l.pattern.run.now nothing_here (view l.it.new_types.now l.fn.body) (view old_types l.fn.old);
      found : seen_all old_types l.found.items ++ arguments_in it l.pattern.run.now nothing_here (view old_types l.other)
          ≡ seen_all old_types l.initial.found.items ++ arguments_in it l.pattern.run.now nothing_here (view old_types l.fn.old);
      known : IsTrue (are_all_known (length old_types.shapes) (trees_in l.initial.found.items)) → IsTrue (are_all_known (length old_types.shapes) (trees_in l.found.items));
    }

abbrev pub decreases-is_same_body-loop-at : goal.decreases-is_same_body-loop-at
decreases-is_same_body-loop-at l = size-Core l.at

abbrev pub invariant-are_same_parts-loop-left : goal.invariant-are_same_parts-loop-left
invariant-are_same_parts-loop-left l =
    let it = rewriting l.it in
    let old_types = l.it.old_types.now in
    let label = label_of (view old_types l.above) in
    let spans = spans_of (view old_types l.above) in
    record {
      counts : length l.parts ≡ length l.others;
      small : l.left ≤ length l.parts;
      same : SameBodies it l.pattern.parameters.now l.pattern.run.now label spans (trees (map (view l.it.new_types.now) (nows (drop l.left l.parts)))) (trees (map (view old_types) (nows (drop l.left l.others))));
      found : seen_all old_types l.found.items
          ≡ seen_all old_types l.initial.found.items ++ arguments_below it l.pattern.run.now label spans (trees (map (view old_types) (nows (drop l.left l.others))));
      known : IsTrue (are_all_known (length old_types.shapes) (trees_in l.initial.found.items)) → IsTrue (are_all_known (length old_types.shapes) (trees_in l.found.items));
    }

abbrev pub decreases-are_same_parts-loop-left : goal.decreases-are_same_parts-loop-left
decreases-are_same_parts-loop-left l = l.left
