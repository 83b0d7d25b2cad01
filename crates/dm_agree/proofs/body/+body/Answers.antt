-- Part by part, and where an occurrence stands a read of its parameter.
use Rattle.std.proofs.Common.{rules, ◌≡◌, ◌↔◌, ◌++◌, ◌-◌, ℕ, suc, [], ◌∷◌, IsTrue, List, length, map, drop, append_assoc, Bor, sym, ap, ◌∙◌, subst, arith}
use Rattle.std.proofs.lemmas.Bool.{false≢true}
use Rattle.std.proofs.lemmas.List.{map-append}
use denote.Param.Weighed.{most}
use Rattle.dm_runs.specs.declared.run.Run.{Run}
use Rattle.dm_tree.specs.declared.tree.Core.{Core, size-Core}
use Rattle.dm_tree.specs.declared.tree.Form.TheVariants as form
use Rattle.dm_tree.specs.Trees.{Trees, label_of, kind_of, spans_of, trees}
use Rattle.dm_tree.specs.TypeNumbers.{are_known}
use Rattle.dm_tree.specs.Views.{view}
use Rattle.dm_tree.proofs.ViewLemmas.{known-form, known-first-Comma}
use Rattle.dm_agree.specs.Agreement.{SameNode, Here, SameBody, here_below}
use Rattle.dm_agree.specs.Arguments.{Argument, arguments_below, arguments_in, seen, seen_all}
use Rattle.dm_agree.specs.Comparing.{rewriting}
use Rattle.dm_agree.specs.Parts.{nows, are_all_known}
use Rattle.dm_agree.proofs.AgreeLemmas.{comma-sizes, form-size, known-get, none-found, seen-parts, size-get, with-known}
use Rattle.dm_agree.proofs.ArgumentLemmas.{argument-there, body-there, nothing-there, read-there, run-there}
use Rattle.dm_agree.proofs.BodyLemmas.{arguments-apart, arguments-next, bodies-count, bodies-drop, bodies-next, comma-arguments, comma-same, PartsSame, with-bodies}
use Rattle.dm_agree.proofs.StepLemmas.{denied, never, through}
use Rattle.dm_agree.proofs.body.+body.Goals as goal

-- ---- parts

pub are_same_parts-returns-then-parts-others-clause-same : goal.are_same_parts-returns-then-parts-others-clause-same
are_same_parts-returns-then-parts-others-clause-same t c =
    let it = c.args.it.now in
    let above = view it.old_types.now c.args.above.now in
    never (λ same. c.if-parts-others.true
    (bodies-count (rewriting it) c.args.pattern.now.parameters.now c.args.pattern.now.run.now it.new_types.now it.old_types.now (label_of above) (spans_of above) c.args.parts.now c.args.others.now same))

pub are_same_parts-is_same_part-requires : goal.are_same_parts-is_same_part-requires
are_same_parts-is_same_part-requires t c =
    let it = c.args.it.now in
    let some = c.loop-left-test.true in
    let small = c.loop-left.invariant.small in
    let counts = c.loop-left.invariant.counts in
    let i = c.loop-left.left - 1 in
    let size = size-get c.args.parts.now i c.index-parts-left.result (omega (arith, some, small)) c.index-parts-left.is in
    let here = c.decreases in (
      omega (arith, size, here),
      (
        known-get (length it.new_types.now.shapes) c.args.parts.now i c.index-parts-left.result (omega (arith, some, small)) c.index-parts-left.is c.requires.body,
        known-get (length it.old_types.now.shapes) c.args.others.now i c.index-others-left.result (omega (arith, some, small, counts)) c.index-others-left.is c.requires.old,
      ),
    )

pub are_same_parts-returns-then-not-same-clause-same : goal.are_same_parts-returns-then-not-same-clause-same
are_same_parts-returns-then-not-same-clause-same t c =
    let it = c.args.it.now in
    let above = view it.old_types.now c.args.above.now in
    let some = c.loop-left-test.true in
    let small = c.loop-left.invariant.small in
    let counts = c.loop-left.invariant.counts in
    let i = c.loop-left.left - 1 in
    let next = bodies-next (rewriting it) c.args.pattern.now.parameters.now c.args.pattern.now.run.now it.new_types.now it.old_types.now (label_of above) (spans_of above)
    c.args.parts.now c.args.others.now i c.index-parts-left.result c.index-others-left.result (omega (arith, some, small)) (omega (arith, some, small, counts)) c.index-parts-left.is c.index-others-left.is in
    denied c.in_ok-same.same c.in_ok-same.ensures.same c.if-not-same.true
    (λ whole. (next.1 (bodies-drop (rewriting it) c.args.pattern.now.parameters.now c.args.pattern.now.run.now it.new_types.now it.old_types.now (label_of above) (spans_of above) i c.args.parts.now c.args.others.now whole)).0)

pub are_same_parts-loop-left-preserved : goal.are_same_parts-loop-left-preserved
are_same_parts-loop-left-preserved t c =
    let it = c.args.it.now in
    let R = rewriting it in
    let parameters = c.args.pattern.now.parameters.now in
    let run = c.args.pattern.now.run.now in
    let above = view it.old_types.now c.args.above.now in
    let invariant = c.loop-left.invariant in
    let some = c.loop-left-test.true in
    let small = invariant.small in
    let counts = invariant.counts in
    let i = c.loop-left.left - 1 in
    let more : suc i ≡ c.loop-left.left = omega (arith, some) in
    let first = c.index-parts-left.result in
    let second = c.index-others-left.result in
    let next = bodies-next R parameters run it.new_types.now it.old_types.now (label_of above) (spans_of above)
    c.args.parts.now c.args.others.now i first second (omega (arith, some, small)) (omega (arith, some, small, counts)) c.index-parts-left.is c.index-others-left.is in
    let arguments = arguments-next R parameters run it.new_types.now it.old_types.now (label_of above) (spans_of above)
    c.args.parts.now c.args.others.now i first second (omega (arith, some, small)) (omega (arith, some, small, counts)) c.index-parts-left.is c.index-others-left.is in
    let before = seen_all it.old_types.now c.args.found.now.items in
    let here = arguments_in R run (here_below R run (label_of above) (spans_of above) (view it.old_types.now second.now)) (view it.old_types.now second.now) in
    let behind : ℕ → List Argument = λ n. arguments_below R run (label_of above) (spans_of above) (trees (map (view it.old_types.now) (nows (drop n c.args.others.now)))) in
    record {
      counts = counts;
      small = omega (arith, small);
      same = next.0 (
        c.in_ok-same.ensures.same.0 c.if-not-same.false,
        subst (λ (n : ℕ). PartsSame R parameters run it.new_types.now it.old_types.now (label_of above) (spans_of above) (drop n c.args.parts.now) (drop n c.args.others.now)) (sym more) invariant.same,
      );
      found = c.in_ok-same.ensures.found c.if-not-same.false
          ∙ (ap (λ (so_far : List Argument). so_far ++ here) (invariant.found ∙ ap (λ (n : ℕ). before ++ behind n) (sym more))
          ∙ (append_assoc before (behind (suc i)) here ∙ ap (λ (all : List Argument). before ++ all) (sym arguments)));
      known = λ so_far. c.in_ok-same.ensures.known (invariant.known so_far);
    }

-- ---- commas

pub is_same_body-returns-then-not-same-clause-same : goal.is_same_body-returns-then-not-same-clause-same
is_same_body-returns-then-not-same-clause-same t c =
    let it = c.args.it.now in
    let here = c.in-Comma-Comma in
    let comma = comma-same (rewriting it) c.args.pattern.now.parameters.now c.args.pattern.now.run.now it.new_types.now it.old_types.now
    c.loop-at.at.now c.loop-at.other.now c.get-front.result.now c.get-last.result.now c.get-other_front.result.now c.get-other_last.result.now
    (here.is-0 ∙ (λ i. form.Comma (sym c.get-front.ensures i) (sym c.get-last.ensures i))) (here.is-1 ∙ (λ i. form.Comma (sym c.get-other_front.ensures i) (sym c.get-other_last.ensures i))) in
    denied c.in_ok-same.same c.in_ok-same.ensures.same c.if-not-same.true (λ whole. (comma.1 (c.loop-at.invariant.same.1 whole)).1.1.0)

pub is_same_body-is_same_part-requires-then-not-clear : goal.is_same_body-is_same_part-requires-then-not-clear
is_same_body-is_same_part-requires-then-not-clear t c =
    let it = c.args.it.now in
    let here = c.in-Comma-Comma in
    let invariant = c.loop-at.invariant in
    let sizes = comma-sizes c.loop-at.at.now here.left here.right here.is-0 in
    let front = ap size-Core c.get-front.ensures in
    let small = invariant.small in
    let first = sizes.0 in
    let measure = c.decreases in (
      omega (arith, front, small, first, measure),
      (
        subst (λ (core : Core). IsTrue (are_known (length it.new_types.now.shapes) core)) (sym c.get-front.ensures) (known-first-Comma _ _ _ _ here.is-0 (known-form _ _ invariant.body)),
        subst (λ (core : Core). IsTrue (are_known (length it.old_types.now.shapes) core)) (sym c.get-other_front.ensures) (known-first-Comma _ _ _ _ here.is-1 (known-form _ _ invariant.old)),
      ),
    )

pub is_same_body-returns-then-not-clear-clause-same : goal.is_same_body-returns-then-not-clear-clause-same
is_same_body-returns-then-not-clear-clause-same t c =
    let it = c.args.it.now in
    let here = c.in-Comma-Comma in
    let invariant = c.loop-at.invariant in
    let comma = comma-same (rewriting it) c.args.pattern.now.parameters.now c.args.pattern.now.run.now it.new_types.now it.old_types.now
    c.loop-at.at.now c.loop-at.other.now c.get-front.result.now c.get-last.result.now c.get-other_front.result.now c.get-other_last.result.now
    (here.is-0 ∙ (λ i. form.Comma (sym c.get-front.ensures i) (sym c.get-last.ensures i))) (here.is-1 ∙ (λ i. form.Comma (sym c.get-other_front.ensures i) (sym c.get-other_last.ensures i))) in
    let node = c.is_same_node.ensures.0 c.if-not-is_same_node.false in
    let last = c.in_ok-same.ensures.same.0 c.if-not-same.false in
    let front = c.in_ok-same-2.ensures.same in
    (λ passed. invariant.same.0 (comma.0 (node, (front.0 passed, (last, tt)))), λ whole. front.1 (comma.1 (invariant.same.1 whole)).1.0)

pub is_same_body-returns-then-not-clear-clause-found : goal.is_same_body-returns-then-not-clear-clause-found
is_same_body-returns-then-not-clear-clause-found t c passed =
    let it = c.args.it.now in
    let R = rewriting it in
    let run = c.args.pattern.now.run.now in
    let here = c.in-Comma-Comma in
    let other = view it.old_types.now c.loop-at.other.now in
    let first = view it.old_types.now c.get-other_front.result.now in
    let second = view it.old_types.now c.get-other_last.result.now in
    let arguments = comma-arguments R c.args.pattern.now.parameters.now run it.new_types.now it.old_types.now
    c.loop-at.at.now c.loop-at.other.now c.get-front.result.now c.get-last.result.now c.get-other_front.result.now c.get-other_last.result.now
    (here.is-0 ∙ (λ i. form.Comma (sym c.get-front.ensures i) (sym c.get-last.ensures i))) (here.is-1 ∙ (λ i. form.Comma (sym c.get-other_front.ensures i) (sym c.get-other_last.ensures i))) in
    let before = seen_all it.old_types.now c.loop-at.found.items in
    let later = arguments_in R run (here_below R run (label_of other) (spans_of other) second) second in
    let earlier = arguments_in R run (here_below R run (label_of other) (spans_of other) first) first in
    c.in_ok-same-2.ensures.found passed
    ∙ (ap (λ (so_far : List Argument). so_far ++ earlier) (c.in_ok-same.ensures.found c.if-not-same.false)
    ∙ (append_assoc before later earlier ∙ (ap (λ (all : List Argument). before ++ all) (sym arguments) ∙ c.loop-at.invariant.found)))

pub is_same_body-loop-at-preserved : goal.is_same_body-loop-at-preserved
is_same_body-loop-at-preserved t c =
    let it = c.args.it.now in
    let R = rewriting it in
    let parameters = c.args.pattern.now.parameters.now in
    let run = c.args.pattern.now.run.now in
    let at = c.in-Comma-Comma in
    let invariant = c.loop-at.invariant in
    let other = view it.old_types.now c.loop-at.other.now in
    let front = view it.new_types.now c.get-front.result.now in
    let first = view it.old_types.now c.get-other_front.result.now in
    let second = view it.old_types.now c.get-other_last.result.now in
    let comma = comma-same R parameters run it.new_types.now it.old_types.now
    c.loop-at.at.now c.loop-at.other.now c.get-front.result.now c.get-last.result.now c.get-other_front.result.now c.get-other_last.result.now
    (at.is-0 ∙ (λ i. form.Comma (sym c.get-front.ensures i) (sym c.get-last.ensures i))) (at.is-1 ∙ (λ i. form.Comma (sym c.get-other_front.ensures i) (sym c.get-other_last.ensures i))) in
    let arguments = comma-arguments R parameters run it.new_types.now it.old_types.now
    c.loop-at.at.now c.loop-at.other.now c.get-front.result.now c.get-last.result.now c.get-other_front.result.now c.get-other_last.result.now
    (at.is-0 ∙ (λ i. form.Comma (sym c.get-front.ensures i) (sym c.get-last.ensures i))) (at.is-1 ∙ (λ i. form.Comma (sym c.get-other_front.ensures i) (sym c.get-other_last.ensures i))) in
    let nothing = c.in_ok-clear.ensures c.if-not-clear.false it.old_types.now in
    let node = c.is_same_node.ensures.0 c.if-not-is_same_node.false in
    let last = c.in_ok-same.ensures.same.0 c.if-not-same.false in
    let sizes = comma-sizes c.loop-at.at.now at.left at.right at.is-0 in
    let less = sizes.0 in
    let small = invariant.small in
    let size = ap size-Core c.get-front.ensures in
    let before = seen_all it.old_types.now c.loop-at.found.items in
    let later = arguments_in R run (here_below R run (label_of other) (spans_of other) second) second in
    record {
      body = subst (λ (core : Core). IsTrue (are_known (length it.new_types.now.shapes) core)) (sym c.get-front.ensures) (known-first-Comma _ _ _ _ at.is-0 (known-form _ _ invariant.body));
      old = subst (λ (core : Core). IsTrue (are_known (length it.old_types.now.shapes) core)) (sym c.get-other_front.ensures) (known-first-Comma _ _ _ _ at.is-1 (known-form _ _ invariant.old));
      small = omega (arith, less, small, size);
      same = (
        λ same. invariant.same.0 (comma.0 (node, (subst (λ (here : Here). SameBody R parameters run here front first) (sym nothing) same, (last, tt)))),
        λ whole. subst (λ (here : Here). SameBody R parameters run here front first) nothing (comma.1 (invariant.same.1 whole)).1.0,
      );
      found = ap (λ (here : Here). seen_all it.old_types.now c.is_same_part.new.found.items ++ arguments_in R run here first) (sym nothing)
          ∙ (ap (λ (so_far : List Argument). so_far ++ arguments_in R run (here_below R run (label_of other) (spans_of other) first) first) (c.in_ok-same.ensures.found c.if-not-same.false)
          ∙ (append_assoc before later (arguments_in R run (here_below R run (label_of other) (spans_of other) first) first)
          ∙ (ap (λ (all : List Argument). before ++ all) (sym arguments) ∙ invariant.found)));
      known = λ so_far. c.in_ok-same.ensures.known (invariant.known so_far);
    }

-- ---- one part

pub is_same_part-returns-then-not-is_empty-clause-same : goal.is_same_part-returns-then-not-is_empty-clause-same
is_same_part-returns-then-not-is_empty-clause-same t c =
    let it = c.args.it.now in
    let above = view it.old_types.now c.args.above.now in
    let other = view it.old_types.now c.args.other.now in
    let run = c.args.pattern.now.run.now in
    let says : IsTrue c.is_empty.result ↔ (length c.in_ok-runs.runs.items ≡ 0) = search rules in
    never (run-there (rewriting it) c.args.pattern.now.parameters.now run (here_below (rewriting it) run (label_of above) (spans_of above) other) (view it.new_types.now c.args.part.now) other
    (sym (c.below-2.ensures it.old_types.now) ∙ c.in-None.is)
    (λ gone. false≢true (sym c.if-not-is_empty.true ∙ says.1 ((none-found c.in_ok-runs.runs.items).1 (c.in_ok-runs.ensures it.old_types.now ∙ gone)))))

pub is_same_part-returns-in_ok-push-in-Some-clause-same : goal.is_same_part-returns-in_ok-push-in-Some-clause-same
is_same_part-returns-in_ok-push-in-Some-clause-same t c =
    let it = c.args.it.now in
    let above = view it.old_types.now c.args.above.now in
    let other = view it.old_types.now c.args.other.now in
    let run = c.args.pattern.now.run.now in
    through c.reads_parameter.ensures
    (read-there (rewriting it) c.args.pattern.now.parameters.now run (here_below (rewriting it) run (label_of above) (spans_of above) other) (view it.new_types.now c.args.part.now) other c.in-Some.parameter
    (sym (c.below-2.ensures it.old_types.now) ∙ c.in-Some.is))

pub is_same_part-returns-in_ok-push-in-Some-clause-found : goal.is_same_part-returns-in_ok-push-in-Some-clause-found
is_same_part-returns-in_ok-push-in-Some-clause-found t c passed =
    let it = c.args.it.now in
    let above = view it.old_types.now c.args.above.now in
    let other = view it.old_types.now c.args.other.now in
    let run = c.args.pattern.now.run.now in
    let p = c.in-Some.parameter in
    let before = seen_all it.old_types.now c.args.found.now.items in
    ap (seen_all it.old_types.now) c.in_ok-push-in-Some.ensures.items
    ∙ (map-append (seen it.old_types.now) c.args.found.now.items _
    ∙ (ap (λ (runs : List Run). before ++ record { parameter = p; left = record { runs = runs; tree = other } } ∷ []) (c.in_ok-runs.ensures it.old_types.now)
    ∙ ap (λ (here : List Argument). before ++ here)
    (sym (argument-there (rewriting it) run (here_below (rewriting it) run (label_of above) (spans_of above) other) other p (sym (c.below-2.ensures it.old_types.now) ∙ c.in-Some.is)))))

pub is_same_part-returns-in_ok-same-in-None-clause-same : goal.is_same_part-returns-in_ok-same-in-None-clause-same
is_same_part-returns-in_ok-same-in-None-clause-same t c =
    let it = c.args.it.now in
    let above = view it.old_types.now c.args.above.now in
    let other = view it.old_types.now c.args.other.now in
    let run = c.args.pattern.now.run.now in
    let says : IsTrue c.is_empty.result ↔ (length c.in_ok-runs.runs.items ≡ 0) = search rules in
    let nothing = nothing-there (here_below (rewriting it) run (label_of above) (spans_of above) other) (sym (c.below-2.ensures it.old_types.now) ∙ c.in-None.is)
    (sym (c.in_ok-runs.ensures it.old_types.now) ∙ (none-found c.in_ok-runs.runs.items).0 (says.0 c.if-not-is_empty.false)) in
    subst (λ (here : Here). IsTrue c.in_ok-same-in-None.same ↔ SameBody (rewriting it) c.args.pattern.now.parameters.now run here (view it.new_types.now c.args.part.now) other)
    (sym nothing) c.in_ok-same-in-None.ensures.same

pub is_same_part-returns-in_ok-same-in-None-clause-found : goal.is_same_part-returns-in_ok-same-in-None-clause-found
is_same_part-returns-in_ok-same-in-None-clause-found t c passed =
    let it = c.args.it.now in
    let above = view it.old_types.now c.args.above.now in
    let other = view it.old_types.now c.args.other.now in
    let run = c.args.pattern.now.run.now in
    let says : IsTrue c.is_empty.result ↔ (length c.in_ok-runs.runs.items ≡ 0) = search rules in
    let nothing = nothing-there (here_below (rewriting it) run (label_of above) (spans_of above) other) (sym (c.below-2.ensures it.old_types.now) ∙ c.in-None.is)
    (sym (c.in_ok-runs.ensures it.old_types.now) ∙ (none-found c.in_ok-runs.runs.items).0 (says.0 c.if-not-is_empty.false)) in
    c.in_ok-same-in-None.ensures.found passed ∙ ap (λ (here : Here). seen_all it.old_types.now c.args.found.now.items ++ arguments_in (rewriting it) run here other) (sym nothing)

-- ---- a node

pub is_same_there-are_same_parts-requires : goal.is_same_there-are_same_parts-requires
is_same_there-are_same_parts-requires t c =
    let it = c.args.it.now in
    let same = ap (λ (parts : List (Bor Core)). most size-Core (nows parts)) c.deref.ensures.value in
    let below = c.in_ok-parts.ensures.below in
    let smaller = form-size c.args.body.now in
    let here = c.decreases in (
      omega (arith, same, below, smaller, here),
      (
        ap (λ (parts : List (Bor Core)). are_all_known (length it.new_types.now.shapes) (nows parts)) c.deref.ensures.value
            ∙ c.in_ok-parts.ensures.known (length it.new_types.now.shapes) (known-form (length it.new_types.now.shapes) c.args.body.now c.requires.body),
        ap (λ (parts : List (Bor Core)). are_all_known (length it.old_types.now.shapes) (nows parts)) c.deref-2.ensures.value
            ∙ c.in_ok-others.ensures.known (length it.old_types.now.shapes) (known-form (length it.old_types.now.shapes) c.args.old.now c.requires.old),
      ),
    )

pub is_same_there-returns-clause-same : goal.is_same_there-returns-clause-same
is_same_there-returns-clause-same t c =
    let it = c.args.it.now in
    let R = rewriting it in
    let new = view it.new_types.now c.args.body.now in
    let old = view it.old_types.now c.args.old.now in
    let node : SameNode R (label_of new) (kind_of new) old = c.is_same_node.ensures.0 c.if-not-is_same_node.false in
    let parts = seen-parts it.new_types.now c.args.body.now c.deref.result.now c.in_ok-parts.parts.items c.deref.ensures.value (c.in_ok-parts.ensures.same it.new_types.now) in
    let others = seen-parts it.old_types.now c.args.old.now c.deref-2.result.now c.in_ok-others.others.items c.deref-2.ensures.value (c.in_ok-others.ensures.same it.old_types.now) in
    through (with-known c.in_ok-same.same node
    (with-bodies R c.args.pattern.now.parameters.now c.args.pattern.now.run.now it.new_types.now it.old_types.now (label_of old) (spans_of old) c.in_ok-same.same _ _ _ _ parts others c.in_ok-same.ensures.same))
    (body-there R c.args.pattern.now.parameters.now c.args.pattern.now.run.now new old)

pub is_same_there-returns-clause-found : goal.is_same_there-returns-clause-found
is_same_there-returns-clause-found t c passed =
    let it = c.args.it.now in
    let old = view it.old_types.now c.args.old.now in
    let run = c.args.pattern.now.run.now in
    let before = seen_all it.old_types.now c.args.found.now.items in
    let others = seen-parts it.old_types.now c.args.old.now c.deref-2.result.now c.in_ok-others.others.items c.deref-2.ensures.value (c.in_ok-others.ensures.same it.old_types.now) in
    c.in_ok-same.ensures.found passed
    ∙ (ap (λ (parts : Trees). before ++ arguments_below (rewriting it) run (label_of old) (spans_of old) parts) others
    ∙ ap (λ (all : List Argument). before ++ all) (sym (arguments-apart (rewriting it) run old)))
