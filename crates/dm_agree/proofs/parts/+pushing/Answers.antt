-- One initialiser after another.
use Rattle.std.proofs.Common.{rules, ◌++◌, map, ap, sym, ◌∙◌, arith}
use Rattle.std.proofs.lemmas.Bool.{and_parts}
use denote.Param.Weighed.{most}
use Rattle.dm_tree.specs.declared.tree.Initial.{size-Initial}
use Rattle.dm_tree.specs.TypeNumbers.{all_pass}
use Rattle.dm_tree.specs.Views.{OpenedInitial, expressions_of_items, view}
use Rattle.dm_meaning.specs.Wholes.{view_of_initial}
use Rattle.dm_agree.specs.Parts.{nows, are_known_in_initial}
use Rattle.dm_agree.proofs.PartLemmas.{on-ok, added, nothing, all-added, parted, parts-known, parts-size}
use Rattle.dm_agree.proofs.parts.+pushing.Goals as goal

pub push_initial-returns-in-Parts-clause-same : goal.push_initial-returns-in-Parts-clause-same
push_initial-returns-in-Parts-clause-same t c =
    on-ok c.push_initials.result
    (λ same types. same types
    ∙ ap (λ more. map (view types) (nows c.args.parts.now.items) ++ more)
    (ap (λ list. expressions_of_items (map (view_of_initial types) list)) c.items.ensures ∙ sym (parted types c.args.initial.now c.in-Parts.list c.in-Parts.is)))
    c.push_initials.ensures.same

pub push_initial-returns-in-Parts-clause-known : goal.push_initial-returns-in-Parts-clause-known
push_initial-returns-in-Parts-clause-known t c =
    on-ok c.push_initials.result
    (λ known n before whole. known n before
    (ap (λ list. all_pass (map (are_known_in_initial n) list)) c.items.ensures ∙ (sym (parts-known n c.args.initial.now c.in-Parts.list c.in-Parts.is) ∙ whole)))
    c.push_initials.ensures.known

pub push_initial-returns-in-Parts-clause-below : goal.push_initial-returns-in-Parts-clause-below
push_initial-returns-in-Parts-clause-below t c =
    let deep = ap (most size-Initial) c.items.ensures in
    let whole = parts-size c.args.initial.now c.in-Parts.list c.in-Parts.is in
    on-ok c.push_initials.result (λ below depth before within. below depth before (omega (arith, deep, whole, within))) c.push_initials.ensures.below

pub push_initials-loop-one-preserved : goal.push_initials-loop-one-preserved
push_initials-loop-one-preserved t c =
    let is = c.in-Some.ensures.cases.0 in
    let deep = ap (most size-Initial) is in
    let invariant = c.loop-one.invariant in
    record {
      same = λ types.
          added (λ (one : OpenedInitial). one.expressions) (map (view types) (nows c.args.parts.now.items)) (map (view types) (nows c.loop-one.parts.items)) (map (view types) (nows c.push_initial.new.parts.items))
          (map (view_of_initial types) c.args.initials.now) (map (view_of_initial types) c.loop-one.left.now) (view_of_initial types c.in-Some.one.now) (map (view_of_initial types) c.in-Some.rest.now)
          (invariant.same types) (ap (map (view_of_initial types)) is) (c.in_ok-push_initial.ensures.same types);
      known = λ n before whole.
          let so_far = invariant.known n before whole in
          let both = and_parts (are_known_in_initial n c.in-Some.one.now) (all_pass (map (are_known_in_initial n) c.in-Some.rest.now)) (ap (λ list. all_pass (map (are_known_in_initial n) list)) (sym is) ∙ so_far.1) in
          (c.in_ok-push_initial.ensures.known n so_far.0 both.0, both.1);
      below = λ depth before within.
          let so_far = invariant.below depth before within in
          let left = so_far.1 in
          (c.in_ok-push_initial.ensures.below depth so_far.0 (omega (arith, deep, left)), omega (arith, deep, left));
      deep = let so_far = invariant.deep in omega (arith, deep, so_far);
    }

pub push_initials-returns-clause-same : goal.push_initials-returns-clause-same
push_initials-returns-clause-same t c types =
    all-added (λ (one : OpenedInitial). one.expressions) (map (view types) (nows c.args.parts.now.items)) (map (view types) (nows c.loop-one.parts.items))
    (map (view_of_initial types) c.args.initials.now) (map (view_of_initial types) c.loop-one.left.now) (c.loop-one.invariant.same types)
    (ap (map (view_of_initial types)) (nothing c.loop-one.left.now (search rules)))

pub push_initials-returns-clause-known : goal.push_initials-returns-clause-known
push_initials-returns-clause-known t c n before whole = (c.loop-one.invariant.known n before whole).0
