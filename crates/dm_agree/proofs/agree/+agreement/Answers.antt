-- Part by part, and where a run stands what was added.
use Rattle.std.proofs.Common.{rules, ◌≡◌, ◌↔◌, ◌+◌, ◌++◌, ℕ, suc, Bool, true, IsTrue, IfOk, List, [], length, map, drop, Bor, Option, Some, None, slice_get, refl, sym, ap, ◌∙◌, subst, arith}
use Rattle.std.proofs.lemmas.Bool.{false≢true}
use Rattle.std.proofs.lemmas.Option.{slice_get_past, slice_get_read}
use denote.Param.Weighed.{most}
use Rattle.dm_runs.specs.declared.run.Run.{Run}
use Rattle.dm_type.specs.Tables.{Table}
use Rattle.dm_tree.specs.declared.tree.Core.{Core, out-Core, size-Core}
use Rattle.dm_tree.specs.declared.tree.Form.TheVariants as form
use Rattle.dm_tree.specs.Trees.{Label, Spans, Tree, Trees, no_trees, more_trees, label_of, kind_of, spans_of, trees_of, trees}
use Rattle.dm_tree.specs.TypeNumbers.{are_known}
use Rattle.dm_tree.specs.Views.{view}
use Rattle.dm_tree.proofs.ViewLemmas.{known-form, known-first-Comma, known-second-Comma}
use Rattle.dm_effect.specs.Entities.{function_first}
use Rattle.dm_agree.specs.declared.body.Argument.{Argument as CodeArgument}
use Rattle.dm_agree.specs.Agreement.{Rewriting, SameNode, Here, here_at, SameBody, PassesFrom, Agrees, AllAgree}
use Rattle.dm_agree.specs.Arguments.{Argument, AllPassed, Passed, arguments_in, nothing_here, seen_all}
use Rattle.dm_agree.specs.Comparing.{added_of, rewriting}
use Rattle.dm_agree.specs.Index.{first_parameter}
use Rattle.dm_agree.specs.Parts.{nows, are_all_known}
use Rattle.dm_agree.specs.Runs.{runs_in}
use Rattle.dm_agree.specs.Standing.{runs_below}
use Rattle.dm_agree.proofs.AgreeLemmas.{ListsAgree, lengths-agree, next-listed, known-listed, size-listed, known-together, size-together, operands-agree, apart-runs, at-nothing, at-function, at-enumerator, at-constant, seen-parts, PartsAgree, counts-agree, next-part, known-get, none-found, size-get, form-size, comma-parts, comma-sizes, with-known}
use Rattle.dm_agree.proofs.ArgumentLemmas.{arguments-pass, nothing-there, read-there, run-there}
use Rattle.dm_agree.proofs.CallLemmas.{at-call, argument-known, argument-seen, argument-size, next-passed, found-known, no-argument-seen, one-argument}
use Rattle.dm_agree.proofs.PartLemmas.{if-ok}
use Rattle.dm_agree.proofs.StepLemmas.{denied, itself, never, through}
use Rattle.dm_agree.proofs.agree.+agreement.Goals as goal

-- ---- a node

pub node_agrees-all_agree-requires : goal.node_agrees-all_agree-requires
node_agrees-all_agree-requires t c =
    let it = c.args.it.now in
    let same = ap (λ (parts : List (Bor Core)). most size-Core (nows parts)) c.deref.ensures.value in
    let below = c.in_ok-parts.ensures.below in
    let smaller = form-size c.args.new.now in
    let here = c.decreases in (
      omega (arith, same, below, smaller, here),
      (
        ap (λ (parts : List (Bor Core)). are_all_known (length it.new_types.now.shapes) (nows parts)) c.deref.ensures.value
            ∙ c.in_ok-parts.ensures.known (length it.new_types.now.shapes) (known-form (length it.new_types.now.shapes) c.args.new.now c.requires.new),
        (
          ap (λ (parts : List (Bor Core)). are_all_known (length it.old_types.now.shapes) (nows parts)) c.deref-2.ensures.value
              ∙ c.in_ok-others.ensures.known (length it.old_types.now.shapes) (known-form (length it.old_types.now.shapes) c.args.old.now c.requires.old),
          c.requires.added,
        ),
      ),
    )

with-parts : (R : Rewriting) (label : Label) (spans : Spans) (test : Bool) (a b c d : Trees) → a ≡ b → c ≡ d → (IsTrue test ↔ AllAgree R label spans a c) → IsTrue test ↔ AllAgree R label spans b d
with-parts R label spans test a b c d first second says =
    subst (λ (one : Trees). IsTrue test ↔ AllAgree R label spans one d) first (subst (λ (one : Trees). IsTrue test ↔ AllAgree R label spans a one) second says)

pub node_agrees-returns : goal.node_agrees-returns
node_agrees-returns t c =
    let it = c.args.it.now in
    let R = rewriting it in
    let new = view it.new_types.now c.args.new.now in
    let old = view it.old_types.now c.args.old.now in
    let node : SameNode R (label_of new) (kind_of new) old = c.is_same_node.ensures.0 c.if-not-is_same_node.false in
    let parts = seen-parts it.new_types.now c.args.new.now c.deref.result.now c.in_ok-parts.parts.items c.deref.ensures.value (c.in_ok-parts.ensures.same it.new_types.now) in
    let others = seen-parts it.old_types.now c.args.old.now c.deref-2.result.now c.in_ok-others.others.items c.deref-2.ensures.value (c.in_ok-others.ensures.same it.old_types.now) in
    if-ok c.all_agree.result
    (λ answer says. through (with-known answer node (with-parts R (label_of old) (spans_of old) answer _ _ _ _ parts others says)) (apart-runs R new old)) c.all_agree.ensures

pub node_agrees-lists_agree-requires : goal.node_agrees-lists_agree-requires
node_agrees-lists_agree-requires t c =
    let it = c.args.it.now in
    let pair = c.in-Some-Some in
    let below = pair.ensures.below in
    let front = (size-together pair.operands.front.now pair.operands.back.now).0 in
    let smaller = form-size c.args.new.now in
    let here = c.decreases in
    let known = pair.ensures.known (length it.new_types.now.shapes) (known-form (length it.new_types.now.shapes) c.args.new.now c.requires.new) in
    let others_known = pair.ensures'.known (length it.old_types.now.shapes) (known-form (length it.old_types.now.shapes) c.args.old.now c.requires.old) in (
      omega (arith, below, front, smaller, here),
      (
        (known-together (length it.new_types.now.shapes) pair.operands.front.now pair.operands.back.now known).0,
        ((known-together (length it.old_types.now.shapes) pair.others.front.now pair.others.back.now others_known).0, c.requires.added),
      ),
    )

pub node_agrees-returns-then-not-agree : goal.node_agrees-returns-then-not-agree
node_agrees-returns-then-not-agree t c =
    let it = c.args.it.now in
    let pair = c.in-Some-Some in
    let whole = operands-agree (rewriting it) it.new_types.now it.old_types.now c.args.new.now c.args.old.now pair.operands.front.now pair.operands.back.now pair.others.front.now pair.others.back.now
    (c.is_same_node.ensures.0 c.if-not-is_same_node.false) (pair.ensures.same it.new_types.now) (pair.ensures'.same it.old_types.now) c.if-operands-others.true in
    denied c.in_ok-agree.agree c.in_ok-agree.ensures c.if-not-agree.true (λ agrees. (whole.1 agrees).0)

pub node_agrees-lists_agree-requires-then-operands-others : goal.node_agrees-lists_agree-requires-then-operands-others
node_agrees-lists_agree-requires-then-operands-others t c =
    let it = c.args.it.now in
    let pair = c.in-Some-Some in
    let below = pair.ensures.below in
    let behind = (size-together pair.operands.front.now pair.operands.back.now).1 in
    let smaller = form-size c.args.new.now in
    let here = c.decreases in
    let known = pair.ensures.known (length it.new_types.now.shapes) (known-form (length it.new_types.now.shapes) c.args.new.now c.requires.new) in
    let others_known = pair.ensures'.known (length it.old_types.now.shapes) (known-form (length it.old_types.now.shapes) c.args.old.now c.requires.old) in (
      omega (arith, below, behind, smaller, here),
      (
        (known-together (length it.new_types.now.shapes) pair.operands.front.now pair.operands.back.now known).1,
        ((known-together (length it.old_types.now.shapes) pair.others.front.now pair.others.back.now others_known).1, c.requires.added),
      ),
    )

pub node_agrees-returns-then-operands-others : goal.node_agrees-returns-then-operands-others
node_agrees-returns-then-operands-others t c =
    let it = c.args.it.now in
    let pair = c.in-Some-Some in
    let whole = operands-agree (rewriting it) it.new_types.now it.old_types.now c.args.new.now c.args.old.now pair.operands.front.now pair.operands.back.now pair.others.front.now pair.others.back.now
    (c.is_same_node.ensures.0 c.if-not-is_same_node.false) (pair.ensures.same it.new_types.now) (pair.ensures'.same it.old_types.now) c.if-operands-others.true in
    let front = c.in_ok-agree.ensures.0 c.if-not-agree.false in
    if-ok c.lists_agree-then-operands-others.result
    (λ answer behind. (λ passed. whole.0 (front, behind.0 passed), λ agrees. behind.1 (whole.1 agrees).1)) c.lists_agree-then-operands-others.ensures

-- ---- the trees of lists

pub lists_agree-returns-then-list-others : goal.lists_agree-returns-then-list-others
lists_agree-returns-then-list-others t c =
    let it = c.args.it.now in
    let above = view it.old_types.now c.args.above.now in
    never (λ agree. c.if-list-others.true (lengths-agree (rewriting it) (label_of above) (spans_of above) it.new_types.now it.old_types.now c.args.list.now c.args.others.now agree))

pub lists_agree-part_agrees-requires : goal.lists_agree-part_agrees-requires
lists_agree-part_agrees-requires t c =
    let it = c.args.it.now in
    let lt = c.loop-i-test.true in
    let counts = c.loop-i.invariant.0 in
    let size = size-listed c.args.list.now c.loop-i.i c.index-list-i.result lt c.index-list-i.is in
    let here = c.decreases in (
      omega (arith, size, here),
      (
        known-listed (length it.new_types.now.shapes) c.args.list.now c.loop-i.i c.index-list-i.result lt c.index-list-i.is c.requires.new,
        (
          known-listed (length it.old_types.now.shapes) c.args.others.now c.loop-i.i c.index-others-i.result (omega (arith, lt, counts)) c.index-others-i.is c.requires.old,
          c.requires.added,
        ),
      ),
    )

pub lists_agree-returns-then-not-branch : goal.lists_agree-returns-then-not-branch
lists_agree-returns-then-not-branch t c =
    let it = c.args.it.now in
    let above = view it.old_types.now c.args.above.now in
    let lt = c.loop-i-test.true in
    let counts = c.loop-i.invariant.0 in
    let next = next-listed (rewriting it) (label_of above) (spans_of above) it.new_types.now it.old_types.now c.args.list.now c.args.others.now c.loop-i.i c.index-list-i.result c.index-others-i.result lt (omega (arith, lt, counts))
    c.index-list-i.is c.index-others-i.is in
    denied c.in_ok-part_agrees.field-0 c.in_ok-part_agrees.ensures c.if-not-branch.true (λ whole. (next.1 (c.loop-i.invariant.1.1 whole)).0)

pub lists_agree-loop-i-preserved : goal.lists_agree-loop-i-preserved
lists_agree-loop-i-preserved t c =
    let it = c.args.it.now in
    let R = rewriting it in
    let above = view it.old_types.now c.args.above.now in
    let lt = c.loop-i-test.true in
    let counts = c.loop-i.invariant.0 in
    let next = next-listed R (label_of above) (spans_of above) it.new_types.now it.old_types.now c.args.list.now c.args.others.now c.loop-i.i c.index-list-i.result c.index-others-i.result lt (omega (arith, lt, counts))
    c.index-list-i.is c.index-others-i.is in
    let more : suc c.loop-i.i ≡ c.loop-i.i + 1 = omega arith in (
      counts,
      subst (λ (n : ℕ). ListsAgree R (label_of above) (spans_of above) it.new_types.now it.old_types.now (drop n c.args.list.now) (drop n c.args.others.now)
          ↔ ListsAgree R (label_of above) (spans_of above) it.new_types.now it.old_types.now c.args.list.now c.args.others.now) more
          (λ rest. c.loop-i.invariant.1.0 (next.0 (c.in_ok-part_agrees.ensures.0 c.if-not-branch.false, rest)), λ whole. (next.1 (c.loop-i.invariant.1.1 whole)).1),
    )

-- ---- commas

-- a comma, by its operands
comma-agrees : (R : Rewriting) (new old : Table) (at other left right first second : Core) → (out-Core at).form ≡ form.Comma left right → (out-Core other).form ≡ form.Comma first second
    → (SameNode R (label_of (view new at)) (kind_of (view new at)) (view old other)
    × (Agrees R (runs_below R.runs (label_of (view old other)) (spans_of (view old other)) (view old first)) (view new left) (view old first)
    × (Agrees R (runs_below R.runs (label_of (view old other)) (spans_of (view old other)) (view old second)) (view new right) (view old second) × Unit {0})))
    ↔ Agrees R [] (view new at) (view old other)
comma-agrees R new old at other left right first second is other_is =
    let label = label_of (view old other) in
    let spans = spans_of (view old other) in
    let node : Type 0 = SameNode R (label_of (view new at)) (kind_of (view new at)) (view old other) in
    let parts : Type 0 = AllAgree R label spans (more_trees (view new left) (more_trees (view new right) no_trees)) (more_trees (view old first) (more_trees (view old second) no_trees)) in
    through (subst (λ (one : Trees). (node × parts) ↔ (node × AllAgree R label spans one (trees_of (view old other)))) (sym (comma-parts new at left right is))
    (subst (λ (one : Trees). (node × parts) ↔ (node × AllAgree R label spans (more_trees (view new left) (more_trees (view new right) no_trees)) one)) (sym (comma-parts old other first second other_is)) itself))
    (apart-runs R (view new at) (view old other))

pub agrees_apart_from_runs-returns-then-not-is_same_node : goal.agrees_apart_from_runs-returns-then-not-is_same_node
agrees_apart_from_runs-returns-then-not-is_same_node t c =
    let it = c.args.it.now in
    let at = view it.new_types.now c.loop-at.at.now in
    let other = view it.old_types.now c.loop-at.other.now in
    denied c.is_same_node.result c.is_same_node.ensures c.if-not-is_same_node.true (λ whole. ((apart-runs (rewriting it) at other).1 (c.loop-at.invariant.agree.1 whole)).0)

pub agrees_apart_from_runs-part_agrees-requires : goal.agrees_apart_from_runs-part_agrees-requires
agrees_apart_from_runs-part_agrees-requires t c =
    let it = c.args.it.now in
    let here = c.in-Comma-Comma in
    let invariant = c.loop-at.invariant in
    let sizes = comma-sizes c.loop-at.at.now here.left here.right here.is-0 in
    let last = ap size-Core c.get-last.ensures in
    let small = invariant.small in
    let second = sizes.1 in
    let measure = c.decreases in (
      omega (arith, last, small, second, measure),
      (
        subst (λ (core : Core). IsTrue (are_known (length it.new_types.now.shapes) core)) (sym c.get-last.ensures) (known-second-Comma _ _ _ _ here.is-0 (known-form _ _ invariant.new)),
        (
          subst (λ (core : Core). IsTrue (are_known (length it.old_types.now.shapes) core)) (sym c.get-other_last.ensures) (known-second-Comma _ _ _ _ here.is-1 (known-form _ _ invariant.old)),
          c.requires.added,
        ),
      ),
    )

pub agrees_apart_from_runs-returns-then-not-agree : goal.agrees_apart_from_runs-returns-then-not-agree
agrees_apart_from_runs-returns-then-not-agree t c =
    let it = c.args.it.now in
    let here = c.in-Comma-Comma in
    let comma = comma-agrees (rewriting it) it.new_types.now it.old_types.now c.loop-at.at.now c.loop-at.other.now c.get-front.result.now c.get-last.result.now c.get-other_front.result.now c.get-other_last.result.now
    (here.is-0 ∙ (λ i. form.Comma (sym c.get-front.ensures i) (sym c.get-last.ensures i))) (here.is-1 ∙ (λ i. form.Comma (sym c.get-other_front.ensures i) (sym c.get-other_last.ensures i))) in
    denied c.in_ok-agree.agree c.in_ok-agree.ensures c.if-not-agree.true (λ whole. (comma.1 (c.loop-at.invariant.agree.1 whole)).1.1.0)

pub agrees_apart_from_runs-part_agrees-requires-then-not-clear : goal.agrees_apart_from_runs-part_agrees-requires-then-not-clear
agrees_apart_from_runs-part_agrees-requires-then-not-clear t c =
    let it = c.args.it.now in
    let here = c.in-Comma-Comma in
    let invariant = c.loop-at.invariant in
    let sizes = comma-sizes c.loop-at.at.now here.left here.right here.is-0 in
    let front = ap size-Core c.get-front.ensures in
    let small = invariant.small in
    let first = sizes.0 in
    let measure = c.decreases in (
      omega (arith, front, small, first, measure),
      (
        subst (λ (core : Core). IsTrue (are_known (length it.new_types.now.shapes) core)) (sym c.get-front.ensures) (known-first-Comma _ _ _ _ here.is-0 (known-form _ _ invariant.new)),
        (
          subst (λ (core : Core). IsTrue (are_known (length it.old_types.now.shapes) core)) (sym c.get-other_front.ensures) (known-first-Comma _ _ _ _ here.is-1 (known-form _ _ invariant.old)),
          c.requires.added,
        ),
      ),
    )

pub agrees_apart_from_runs-returns-then-not-clear : goal.agrees_apart_from_runs-returns-then-not-clear
agrees_apart_from_runs-returns-then-not-clear t c =
    let it = c.args.it.now in
    let here = c.in-Comma-Comma in
    let comma = comma-agrees (rewriting it) it.new_types.now it.old_types.now c.loop-at.at.now c.loop-at.other.now c.get-front.result.now c.get-last.result.now c.get-other_front.result.now c.get-other_last.result.now
    (here.is-0 ∙ (λ i. form.Comma (sym c.get-front.ensures i) (sym c.get-last.ensures i))) (here.is-1 ∙ (λ i. form.Comma (sym c.get-other_front.ensures i) (sym c.get-other_last.ensures i))) in
    let node = c.is_same_node.ensures.0 c.if-not-is_same_node.false in
    let last = c.in_ok-agree.ensures.0 c.if-not-agree.false in
    if-ok c.part_agrees-then-not-clear.result
    (λ answer front. (λ passed. c.loop-at.invariant.agree.0 (comma.0 (node, (front.0 passed, (last, tt)))), λ whole. front.1 (comma.1 (c.loop-at.invariant.agree.1 whole)).1.0))
    c.part_agrees-then-not-clear.ensures

pub agrees_apart_from_runs-loop-at-preserved : goal.agrees_apart_from_runs-loop-at-preserved
agrees_apart_from_runs-loop-at-preserved t c =
    let it = c.args.it.now in
    let R = rewriting it in
    let here = c.in-Comma-Comma in
    let invariant = c.loop-at.invariant in
    let front = view it.new_types.now c.get-front.result.now in
    let other_front = view it.old_types.now c.get-other_front.result.now in
    let comma = comma-agrees R it.new_types.now it.old_types.now c.loop-at.at.now c.loop-at.other.now c.get-front.result.now c.get-last.result.now c.get-other_front.result.now c.get-other_last.result.now
    (here.is-0 ∙ (λ i. form.Comma (sym c.get-front.ensures i) (sym c.get-last.ensures i))) (here.is-1 ∙ (λ i. form.Comma (sym c.get-other_front.ensures i) (sym c.get-other_last.ensures i))) in
    let none = (c.in_ok-clear.ensures it.old_types.now).0 c.if-not-clear.false in
    let node = c.is_same_node.ensures.0 c.if-not-is_same_node.false in
    let last = c.in_ok-agree.ensures.0 c.if-not-agree.false in
    let sizes = comma-sizes c.loop-at.at.now here.left here.right here.is-0 in
    let first = sizes.0 in
    let small = invariant.small in
    let size = ap size-Core c.get-front.ensures in
    record {
      new = subst (λ (core : Core). IsTrue (are_known (length it.new_types.now.shapes) core)) (sym c.get-front.ensures) (known-first-Comma _ _ _ _ here.is-0 (known-form _ _ invariant.new));
      old = subst (λ (core : Core). IsTrue (are_known (length it.old_types.now.shapes) core)) (sym c.get-other_front.ensures) (known-first-Comma _ _ _ _ here.is-1 (known-form _ _ invariant.old));
      small = omega (arith, first, small, size);
      agree = (
        λ agrees. invariant.agree.0 (comma.0 (node, (subst (λ (runs : List Run). Agrees R runs front other_front) (sym none) agrees, (last, tt)))),
        λ whole. subst (λ (runs : List Run). Agrees R runs front other_front) none (comma.1 (invariant.agree.1 whole)).1.0,
      );
    }

pub agrees_apart_from_runs-node_agrees-requires : goal.agrees_apart_from_runs-node_agrees-requires
agrees_apart_from_runs-node_agrees-requires t c =
    let small = c.loop-at.invariant.small in
    let measure = c.decreases in
    (omega (arith, small, measure), (c.loop-at.invariant.new, (c.loop-at.invariant.old, c.requires.added)))

pub agrees_apart_from_runs-returns : goal.agrees_apart_from_runs-returns
agrees_apart_from_runs-returns t c = if-ok c.node_agrees.result (λ answer says. through says c.loop-at.invariant.agree) c.node_agrees.ensures

-- ---- parts

pub all_agree-returns-then-parts-others : goal.all_agree-returns-then-parts-others
all_agree-returns-then-parts-others t c =
    let it = c.args.it.now in
    let above = view it.old_types.now c.args.above.now in
    never (λ agree. c.if-parts-others.true (counts-agree (rewriting it) (label_of above) (spans_of above) it.new_types.now it.old_types.now c.args.parts.now c.args.others.now agree))

pub all_agree-part_agrees-requires : goal.all_agree-part_agrees-requires
all_agree-part_agrees-requires t c =
    let it = c.args.it.now in
    let lt = c.loop-i-test.true in
    let counts = c.loop-i.invariant.0 in
    let size = size-get c.args.parts.now c.loop-i.i c.index-parts-i.result lt c.index-parts-i.is in
    let here = c.decreases in (
      omega (arith, size, here),
      (
        known-get (length it.new_types.now.shapes) c.args.parts.now c.loop-i.i c.index-parts-i.result lt c.index-parts-i.is c.requires.new,
        (
          known-get (length it.old_types.now.shapes) c.args.others.now c.loop-i.i c.index-others-i.result (omega (arith, lt, counts)) c.index-others-i.is c.requires.old,
          c.requires.added,
        ),
      ),
    )

pub all_agree-returns-then-not-branch : goal.all_agree-returns-then-not-branch
all_agree-returns-then-not-branch t c =
    let it = c.args.it.now in
    let above = view it.old_types.now c.args.above.now in
    let lt = c.loop-i-test.true in
    let counts = c.loop-i.invariant.0 in
    let next = next-part (rewriting it) (label_of above) (spans_of above) it.new_types.now it.old_types.now c.args.parts.now c.args.others.now c.loop-i.i c.index-parts-i.result c.index-others-i.result lt (omega (arith, lt, counts))
    c.index-parts-i.is c.index-others-i.is in
    denied c.in_ok-part_agrees.field-0 c.in_ok-part_agrees.ensures c.if-not-branch.true (λ whole. (next.1 (c.loop-i.invariant.1.1 whole)).0)

pub all_agree-loop-i-preserved : goal.all_agree-loop-i-preserved
all_agree-loop-i-preserved t c =
    let it = c.args.it.now in
    let R = rewriting it in
    let above = view it.old_types.now c.args.above.now in
    let lt = c.loop-i-test.true in
    let counts = c.loop-i.invariant.0 in
    let next = next-part R (label_of above) (spans_of above) it.new_types.now it.old_types.now c.args.parts.now c.args.others.now c.loop-i.i c.index-parts-i.result c.index-others-i.result lt (omega (arith, lt, counts))
    c.index-parts-i.is c.index-others-i.is in
    let more : suc c.loop-i.i ≡ c.loop-i.i + 1 = omega arith in (
      counts,
      subst (λ (n : ℕ). PartsAgree R (label_of above) (spans_of above) it.new_types.now it.old_types.now (drop n c.args.parts.now) (drop n c.args.others.now)
          ↔ PartsAgree R (label_of above) (spans_of above) it.new_types.now it.old_types.now c.args.parts.now c.args.others.now) more
          (λ rest. c.loop-i.invariant.1.0 (next.0 (c.in_ok-part_agrees.ensures.0 c.if-not-branch.false, rest)), λ whole. (next.1 (c.loop-i.invariant.1.1 whole)).1),
    )

pub part_agrees-returns : goal.part_agrees-returns
part_agrees-returns t c =
    let it = c.args.it.now in
    let new = view it.new_types.now c.args.part.now in
    let old = view it.old_types.now c.args.other.now in
    subst (λ (runs : List Run). IfOk c.agrees.result (λ answer. IsTrue answer ↔ Agrees (rewriting it) runs new old)) (ap runs_in c.deref.ensures.value ∙ c.in_ok-runs.ensures it.old_types.now) c.agrees.ensures

-- ---- where a run stands

pub agrees_at_run-returns-in-Nothing : goal.agrees_at_run-returns-in-Nothing
agrees_at_run-returns-in-Nothing t c =
    let it = c.args.it.now in
    never (at-nothing (rewriting it) (ap (added_of it.new_types.now) c.in-Nothing.is) c.args.run.now (runs_in c.args.inner.now) (view it.new_types.now c.args.new.now) (view it.old_types.now c.args.old.now))

pub agrees_at_run-returns-in-Function : goal.agrees_at_run-returns-in-Function
agrees_at_run-returns-in-Function t c =
    let it = c.args.it.now in
    let one = c.in-Function.function in
    if-ok c.calls_added.result
    (λ answer says. through says (at-function (rewriting it) one.number one.parameters.now (view it.new_types.now one.body.now) (ap (added_of it.new_types.now) c.in-Function.is)
    c.args.run.now (runs_in c.args.inner.now) (view it.new_types.now c.args.new.now) (view it.old_types.now c.args.old.now)))
    c.calls_added.ensures

pub agrees_at_run-returns-then-is_enumerator : goal.agrees_at_run-returns-then-is_enumerator
agrees_at_run-returns-then-is_enumerator t c =
    let it = c.args.it.now in
    let new = view it.new_types.now c.args.new.now in
    let old = view it.old_types.now c.args.old.now in
    let whole = at-enumerator (rewriting it) c.in-Enumerator.number c.in-Enumerator.value (ap (added_of it.new_types.now) c.in-Enumerator.is) c.args.run.now (runs_in c.args.inner.now) new old in
    let named = (c.is_enumerator.ensures it.new_types.now).0 c.if-is_enumerator.true in
    let valued = c.is_of_value.ensures in
    (λ passed. let both = valued.0 passed in whole.0 (named.0, both.0, named.1, both.1), λ agrees. let all = whole.1 agrees in valued.1 (all.1, all.3))

pub agrees_at_run-returns-else-is_enumerator : goal.agrees_at_run-returns-else-is_enumerator
agrees_at_run-returns-else-is_enumerator t c =
    let it = c.args.it.now in
    let new = view it.new_types.now c.args.new.now in
    let old = view it.old_types.now c.args.old.now in
    let whole = at-enumerator (rewriting it) c.in-Enumerator.number c.in-Enumerator.value (ap (added_of it.new_types.now) c.in-Enumerator.is) c.args.run.now (runs_in c.args.inner.now) new old in
    (λ passed. absurd (false≢true (sym c.if-is_enumerator.false ∙ passed)), λ agrees. let all = whole.1 agrees in (c.is_enumerator.ensures it.new_types.now).1 (all.0, all.2))

pub agrees_at_run-returns-then-is_read_of : goal.agrees_at_run-returns-then-is_read_of
agrees_at_run-returns-then-is_read_of t c =
    let it = c.args.it.now in
    let new = view it.new_types.now c.args.new.now in
    let old = view it.old_types.now c.args.old.now in
    let whole = at-constant (rewriting it) c.in-Constant.number c.in-Constant.value (ap (added_of it.new_types.now) c.in-Constant.is) c.args.run.now (runs_in c.args.inner.now) new old in
    let named = (c.is_read_of.ensures it.new_types.now).0 c.if-is_read_of.true in
    let valued = c.is_of_value-then-is_read_of.ensures in
    (λ passed. let both = valued.0 passed in whole.0 ((named.0, both.0, named.1), both.1), λ agrees. let all = whole.1 agrees in valued.1 (all.0.1, all.1))

pub agrees_at_run-returns-else-is_read_of : goal.agrees_at_run-returns-else-is_read_of
agrees_at_run-returns-else-is_read_of t c =
    let it = c.args.it.now in
    let new = view it.new_types.now c.args.new.now in
    let old = view it.old_types.now c.args.old.now in
    let whole = at-constant (rewriting it) c.in-Constant.number c.in-Constant.value (ap (added_of it.new_types.now) c.in-Constant.is) c.args.run.now (runs_in c.args.inner.now) new old in
    (λ passed. absurd (false≢true (sym c.if-is_read_of.false ∙ passed)), λ agrees. let all = whole.1 agrees in (c.is_read_of.ensures it.new_types.now).1 (all.0.0, all.0.2))

-- ---- calls

pub calls_added-returns-then-not-is_function : goal.calls_added-returns-then-not-is_function
calls_added-returns-then-not-is_function t c =
    let it = c.args.it.now in
    let function = c.args.function.now in
    let call = at-call (rewriting it) function.number function.parameters.now (view it.new_types.now function.body.now) c.args.run.now (runs_in c.args.inner.now) (view it.old_types.now c.args.old.now)
    it.new_types.now c.args.new.now c.in-Call.named c.in-Call.arguments c.in-Call.is in
    let named = subst (λ (core : Core). IsTrue c.is_function.result ↔ (function_first (more_trees (view it.new_types.now core) (trees (map (view it.new_types.now) c.in-Call.arguments))) ≡ Some function.number))
    c.get.ensures (c.is_function.ensures it.new_types.now (trees (map (view it.new_types.now) c.in-Call.arguments))) in
    denied c.is_function.result named c.if-not-is_function.true (λ whole. (call.1 whole).0)

pub calls_added-returns-then-not-is_same_kind : goal.calls_added-returns-then-not-is_same_kind
calls_added-returns-then-not-is_same_kind t c =
    let it = c.args.it.now in
    let function = c.args.function.now in
    let call = at-call (rewriting it) function.number function.parameters.now (view it.new_types.now function.body.now) c.args.run.now (runs_in c.args.inner.now) (view it.old_types.now c.args.old.now)
    it.new_types.now c.args.new.now c.in-Call.named c.in-Call.arguments c.in-Call.is in
    denied c.is_same_kind.result c.is_same_kind.ensures c.if-not-is_same_kind.true (λ whole. (call.1 whole).1.0)

pub calls_added-returns-else-not-is_same_kind : goal.calls_added-returns-else-not-is_same_kind
calls_added-returns-else-not-is_same_kind t c =
    let it = c.args.it.now in
    let function = c.args.function.now in
    let R = rewriting it in
    let body = view it.new_types.now function.body.now in
    let old = view it.old_types.now c.args.old.now in
    let call = at-call R function.number function.parameters.now body c.args.run.now (runs_in c.args.inner.now) old it.new_types.now c.args.new.now c.in-Call.named c.in-Call.arguments c.in-Call.is in
    let named = subst (λ (core : Core). IsTrue c.is_function.result ↔ (function_first (more_trees (view it.new_types.now core) (trees (map (view it.new_types.now) c.in-Call.arguments))) ≡ Some function.number))
    c.get.ensures (c.is_function.ensures it.new_types.now (trees (map (view it.new_types.now) c.in-Call.arguments))) in
    let kind = c.is_same_kind.ensures.0 c.if-not-is_same_kind.false in
    let passes = subst (λ (arguments : List Core). IfOk c.substitutes.result (λ answer. IsTrue answer
    ↔ (SameBody R function.parameters.now c.args.run.now (here_at c.args.run.now (runs_in c.args.inner.now) old) body old
    × PassesFrom R 0 (trees (map (view it.new_types.now) arguments)) c.args.run.now (runs_in c.args.inner.now) old))) c.items.ensures c.substitutes.ensures in
    if-ok c.substitutes.result
    (λ answer says. through (λ passed. (named.0 c.if-not-is_function.false, (kind, says.0 passed)), λ all. says.1 all.1.1) call) passes

-- ---- what a call passes

pub substitutes-returns-then-not-reads_parameter : goal.substitutes-returns-then-not-reads_parameter
substitutes-returns-then-not-reads_parameter t c =
    let it = c.args.it.now in
    let function = c.args.function.now in
    let run = c.args.run.now in
    let inner = runs_in c.args.inner.now in
    let old = view it.old_types.now c.args.old.now in
    let there = subst (λ (one : Run). first_parameter (here_at one inner old).occurrences ≡ Some c.in-Some.parameter) c.in_ok-occurrences.ensures (sym (c.at.ensures it.old_types.now) ∙ c.in-Some.is) in
    let read = read-there (rewriting it) function.parameters.now run (here_at run inner old) (view it.new_types.now function.body.now) old c.in-Some.parameter there in
    denied c.reads_parameter.result c.reads_parameter.ensures c.if-not-reads_parameter.true (λ whole. read.1 whole.0)

pub substitutes-returns-in-Some : goal.substitutes-returns-in-Some
substitutes-returns-in-Some t c =
    let it = c.args.it.now in
    let function = c.args.function.now in
    let run = c.args.run.now in
    let inner = runs_in c.args.inner.now in
    let old = view it.old_types.now c.args.old.now in
    let there = subst (λ (one : Run). first_parameter (here_at one inner old).occurrences ≡ Some c.in-Some.parameter) c.in_ok-occurrences.ensures (sym (c.at.ensures it.old_types.now) ∙ c.in-Some.is) in
    let read = read-there (rewriting it) function.parameters.now run (here_at run inner old) (view it.new_types.now function.body.now) old c.in-Some.parameter there in
    let body = read.0 (c.reads_parameter.ensures.0 c.if-not-reads_parameter.false) in
    let one = one-argument (rewriting it) run inner old (map (view it.new_types.now) c.args.arguments.now) c.in-Some.parameter there in
    if-ok c.argument_agrees.result (λ answer says. (λ passed. (body, one.0 (says.0 passed)), λ whole. says.1 (one.1 whole.1))) c.argument_agrees.ensures

pub substitutes-returns-then-not-is_empty : goal.substitutes-returns-then-not-is_empty
substitutes-returns-then-not-is_empty t c =
    let it = c.args.it.now in
    let run = c.args.run.now in
    let inner = runs_in c.args.inner.now in
    let old = view it.old_types.now c.args.old.now in
    let none = subst (λ (one : Run). first_parameter (here_at one inner old).occurrences ≡ None) c.in_ok-occurrences.ensures (sym (c.at.ensures it.old_types.now) ∙ c.in-None.is) in
    let says : IsTrue c.is_empty.result ↔ (length c.args.inner.now ≡ 0) = search rules in
    never (λ whole. run-there (rewriting it) c.args.function.now.parameters.now run (here_at run inner old) (view it.new_types.now c.args.function.now.body.now) old none
    (λ gone. false≢true (sym c.if-not-is_empty.true ∙ says.1 ((none-found c.args.inner.now).1 gone))) whole.0)

pub substitutes-returns-then-not-same : goal.substitutes-returns-then-not-same
substitutes-returns-then-not-same t c =
    let it = c.args.it.now in
    let run = c.args.run.now in
    let inner = runs_in c.args.inner.now in
    let parameters = c.args.function.now.parameters.now in
    let body = view it.new_types.now c.args.function.now.body.now in
    let old = view it.old_types.now c.args.old.now in
    let none = subst (λ (one : Run). first_parameter (here_at one inner old).occurrences ≡ None) c.in_ok-occurrences.ensures (sym (c.at.ensures it.old_types.now) ∙ c.in-None.is) in
    let says : IsTrue c.is_empty.result ↔ (length c.args.inner.now ≡ 0) = search rules in
    let nothing = nothing-there (here_at run inner old) none ((none-found c.args.inner.now).0 (says.0 c.if-not-is_empty.false)) in
    let same = subst (λ (one : Run). IsTrue c.in_ok-same-in-None.same ↔ SameBody (rewriting it) parameters one nothing_here body old) c.in_ok-occurrences.ensures c.in_ok-same-in-None.ensures.same in
    denied c.in_ok-same-in-None.same same c.if-not-same.true (λ whole. subst (λ (here : Here). SameBody (rewriting it) parameters run here body old) nothing whole.0)

pub substitutes-returns : goal.substitutes-returns
substitutes-returns t c =
    let it = c.args.it.now in
    let R = rewriting it in
    let run = c.args.run.now in
    let inner = runs_in c.args.inner.now in
    let parameters = c.args.function.now.parameters.now in
    let body = view it.new_types.now c.args.function.now.body.now in
    let old = view it.old_types.now c.args.old.now in
    let arguments = map (view it.new_types.now) c.args.arguments.now in
    let none = subst (λ (one : Run). first_parameter (here_at one inner old).occurrences ≡ None) c.in_ok-occurrences.ensures (sym (c.at.ensures it.old_types.now) ∙ c.in-None.is) in
    let says : IsTrue c.is_empty.result ↔ (length c.args.inner.now ≡ 0) = search rules in
    let nothing = nothing-there (here_at run inner old) none ((none-found c.args.inner.now).0 (says.0 c.if-not-is_empty.false)) in
    let same = subst (λ (one : Run). IsTrue c.in_ok-same-in-None.same ↔ SameBody R parameters one nothing_here body old) c.in_ok-occurrences.ensures c.in_ok-same-in-None.ensures.same in
    let there = subst (λ (here : Here). SameBody R parameters run here body old) (sym nothing) (same.0 c.if-not-same.false) in
    let found : seen_all it.old_types.now c.deref.result.now ≡ arguments_in R run (here_at run inner old) old
    = ap (seen_all it.old_types.now) c.deref.ensures.value
    ∙ (c.in_ok-same-in-None.ensures.found c.if-not-same.false
    ∙ (ap (λ (before : List CodeArgument). seen_all it.old_types.now before ++ arguments_in R c.in_ok-occurrences.occurrences nothing_here old) c.new-found.ensures.items
    ∙ (ap (λ (one : Run). arguments_in R one nothing_here old) c.in_ok-occurrences.ensures ∙ ap (λ (here : Here). arguments_in R run here old) (sym nothing)))) in
    let pass = subst (λ (all : List Argument). AllPassed R arguments all ↔ PassesFrom R 0 (trees arguments) run inner old) (sym found) (arguments-pass R run inner old arguments) in
    if-ok c.all_pass.result (λ answer passes. (λ passed. (there, pass.0 (passes.0 passed)), λ whole. passes.1 (pass.1 whole.1))) c.all_pass.ensures

-- ---- arguments one by one

pub all_pass-argument_agrees-requires : goal.all_pass-argument_agrees-requires
all_pass-argument_agrees-requires t c =
    let here = c.decreases in (
      omega (arith, here),
      (
        c.requires.arguments,
        (found-known (length c.args.it.now.old_types.now.shapes) c.args.found.now c.loop-one.one-index c.one-item.result c.loop-one-test.true c.one-item.is c.requires.old, c.requires.added),
      ),
    )

pub all_pass-returns-then-not-branch : goal.all_pass-returns-then-not-branch
all_pass-returns-then-not-branch t c =
    let it = c.args.it.now in
    let arguments = map (view it.new_types.now) c.args.arguments.now in
    let one = c.one-item.result in
    let next = next-passed (rewriting it) arguments it.old_types.now c.args.found.now c.loop-one.one-index one c.loop-one-test.true c.one-item.is in
    let says = subst (λ (runs : List (Bor Run)). IsTrue c.in_ok-argument_agrees.field-0
    ↔ Passed (rewriting it) (slice_get arguments one.parameter) (record { runs = runs_in runs; tree = view it.old_types.now one.tree.now })) c.deref.ensures.value c.in_ok-argument_agrees.ensures in
    denied c.in_ok-argument_agrees.field-0 says c.if-not-branch.true (λ whole. (next.1 (c.loop-one.invariant.1 whole)).0)

pub all_pass-loop-one-preserved : goal.all_pass-loop-one-preserved
all_pass-loop-one-preserved t c =
    let it = c.args.it.now in
    let arguments = map (view it.new_types.now) c.args.arguments.now in
    let one = c.one-item.result in
    let next = next-passed (rewriting it) arguments it.old_types.now c.args.found.now c.loop-one.one-index one c.loop-one-test.true c.one-item.is in
    let says = subst (λ (runs : List (Bor Run)). IsTrue c.in_ok-argument_agrees.field-0
    ↔ Passed (rewriting it) (slice_get arguments one.parameter) (record { runs = runs_in runs; tree = view it.old_types.now one.tree.now })) c.deref.ensures.value c.in_ok-argument_agrees.ensures in
    let more : suc c.loop-one.one-index ≡ c.loop-one.one-index + 1 = omega arith in
    subst (λ (n : ℕ). AllPassed (rewriting it) arguments (seen_all it.old_types.now (drop n c.args.found.now)) ↔ AllPassed (rewriting it) arguments (seen_all it.old_types.now c.args.found.now)) more
    (λ rest. c.loop-one.invariant.0 (next.0 (says.0 c.if-not-branch.false, rest)), λ whole. (next.1 (c.loop-one.invariant.1 whole)).1)

pub argument_agrees-agrees-requires : goal.argument_agrees-agrees-requires
argument_agrees-agrees-requires t c =
    let it = c.args.it.now in
    let at : slice_get c.args.arguments.now c.args.parameter ≡ Some c.in-Some.argument.now
    = slice_get_read c.args.arguments.now (length c.args.arguments.now) c.args.parameter c.in-Some.argument.now refl (search rules) (search rules) in
    let size = argument-size c.args.arguments.now c.args.parameter c.in-Some.argument.now at in
    let here = c.decreases in
    (omega (arith, size, here), (argument-known (length it.new_types.now.shapes) c.args.arguments.now c.args.parameter c.in-Some.argument.now at c.requires.arguments, (c.requires.old, c.requires.added)))

pub argument_agrees-returns-in-Some : goal.argument_agrees-returns-in-Some
argument_agrees-returns-in-Some t c =
    let it = c.args.it.now in
    let at : slice_get c.args.arguments.now c.args.parameter ≡ Some c.in-Some.argument.now
    = slice_get_read c.args.arguments.now (length c.args.arguments.now) c.args.parameter c.in-Some.argument.now refl (search rules) (search rules) in
    subst (λ (argument : Option Tree). IfOk c.agrees.result (λ answer. IsTrue answer ↔ Passed (rewriting it) argument (record { runs = runs_in c.args.runs.now; tree = view it.old_types.now c.args.old.now })))
    (sym (argument-seen it.new_types.now c.args.arguments.now c.args.parameter c.in-Some.argument.now at)) c.agrees.ensures

pub argument_agrees-returns-in-None : goal.argument_agrees-returns-in-None
argument_agrees-returns-in-None t c =
    let it = c.args.it.now in
    let none : slice_get c.args.arguments.now c.args.parameter ≡ None = slice_get_past c.args.arguments.now c.args.parameter (search rules) in
    subst (λ (argument : Option Tree). IsTrue true ↔ Passed (rewriting it) argument (record { runs = runs_in c.args.runs.now; tree = view it.old_types.now c.args.old.now }))
    (sym (no-argument-seen it.new_types.now c.args.arguments.now c.args.parameter none)) (λ passed. tt, λ nothing. refl)
