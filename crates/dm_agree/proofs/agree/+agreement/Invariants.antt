-- What is left agrees where all do. Each call is of smaller trees, or comes nearer to one.
use Rattle.std.proofs.Common.{◌≡◌, ◌≤◌, ◌↔◌, ◌+◌, ◌*◌, [], IsTrue, length, drop, map}
use denote.Param.Weighed.{most}
use Rattle.dm_tree.specs.declared.tree.Core.{size-Core}
use Rattle.dm_tree.specs.Trees.{label_of, spans_of}
use Rattle.dm_tree.specs.Views.{view}
use Rattle.dm_tree.specs.TypeNumbers.{are_known}
use Rattle.dm_agree.specs.Agreement.{Agrees}
use Rattle.dm_agree.specs.Arguments.{AllPassed, seen_all}
use Rattle.dm_agree.specs.Comparing.{rewriting}
use Rattle.dm_agree.specs.Parts.{nows}
use Rattle.dm_agree.proofs.AgreeLemmas.{ListsAgree, PartsAgree}
use Rattle.dm_agree.proofs.agree.+agreement.Given as goal

abbrev pub decreases-agrees : goal.decreases-agrees
decreases-agrees l = 7 * size-Core l.new.now + 3

abbrev pub decreases-agrees_apart_from_runs : goal.decreases-agrees_apart_from_runs
decreases-agrees_apart_from_runs l = 7 * size-Core l.new.now + 2

abbrev pub decreases-node_agrees : goal.decreases-node_agrees
decreases-node_agrees l = 7 * size-Core l.new.now + 1

abbrev pub invariant-agrees_apart_from_runs-loop-at : goal.invariant-agrees_apart_from_runs-loop-at
invariant-agrees_apart_from_runs-loop-at l = record {
  new : IsTrue (are_known (length l.it.new_types.now.shapes) l.at);
  old : IsTrue (are_known (length l.it.old_types.now.shapes) l.other);
  small : size-Core l.at ≤ size-Core l.fn.new;
  agree : Agrees (rewriting l.it) [] (view l.it.new_types.now l.at) (view l.it.old_types.now l.other) ↔ Agrees (rewriting l.it) [] (view l.it.new_types.now l.fn.new) (view l.it.old_types.now l.fn.old);
}

abbrev pub decreases-agrees_apart_from_runs-loop-at : goal.decreases-agrees_apart_from_runs-loop-at
decreases-agrees_apart_from_runs-loop-at l = size-Core l.at

abbrev pub decreases-all_agree : goal.decreases-all_agree
decreases-all_agree l = 7 * most size-Core (nows l.parts.now) + 5

abbrev pub decreases-lists_agree : goal.decreases-lists_agree
decreases-lists_agree l = 7 * most size-Core l.list.now + 5

abbrev pub invariant-lists_agree-loop-i : goal.invariant-lists_agree-loop-i
invariant-lists_agree-loop-i l =
    (length l.list ≡ length l.others)
    × (ListsAgree (rewriting l.it) (label_of (view l.it.old_types.now l.above)) (spans_of (view l.it.old_types.now l.above)) l.it.new_types.now l.it.old_types.now (drop l.i l.list) (drop l.i l.others)
    ↔ ListsAgree (rewriting l.it) (label_of (view l.it.old_types.now l.above)) (spans_of (view l.it.old_types.now l.above)) l.it.new_types.now l.it.old_types.now l.list l.others)

abbrev pub decreases-part_agrees : goal.decreases-part_agrees
decreases-part_agrees l = 7 * size-Core l.part.now + 4

abbrev pub invariant-all_agree-loop-i : goal.invariant-all_agree-loop-i
invariant-all_agree-loop-i l =
    (length l.parts ≡ length l.others)
    × (PartsAgree (rewriting l.it) (label_of (view l.it.old_types.now l.above)) (spans_of (view l.it.old_types.now l.above)) l.it.new_types.now l.it.old_types.now (drop l.i l.parts) (drop l.i l.others)
    ↔ PartsAgree (rewriting l.it) (label_of (view l.it.old_types.now l.above)) (spans_of (view l.it.old_types.now l.above)) l.it.new_types.now l.it.old_types.now l.parts l.others)

abbrev pub decreases-agrees_at_run : goal.decreases-agrees_at_run
decreases-agrees_at_run l = 7 * size-Core l.new.now + 2

abbrev pub decreases-calls_added : goal.decreases-calls_added
decreases-calls_added l = 7 * size-Core l.new.now + 1

abbrev pub decreases-substitutes : goal.decreases-substitutes
decreases-substitutes l = 7 * most size-Core l.arguments.now + 6

abbrev pub decreases-all_pass : goal.decreases-all_pass
decreases-all_pass l = 7 * most size-Core l.arguments.now + 5

abbrev pub decreases-argument_agrees : goal.decreases-argument_agrees
decreases-argument_agrees l = 7 * most size-Core l.arguments.now + 4

abbrev pub invariant-all_pass-loop-one : goal.invariant-all_pass-loop-one
invariant-all_pass-loop-one l =
    AllPassed (rewriting l.it) (map (view l.it.new_types.now) l.arguments) (seen_all l.it.old_types.now (drop l.one-index l.found))
    ↔ AllPassed (rewriting l.it) (map (view l.it.new_types.now) l.arguments) (seen_all l.it.old_types.now l.found)
