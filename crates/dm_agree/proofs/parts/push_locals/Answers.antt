-- One declarator after another.
use Rattle.std.proofs.Common.{rules, ◌++◌, map, append-nil, ap, sym, ◌∙◌, arith}
use Rattle.std.proofs.lemmas.Bool.{and_parts}
use denote.Param.Weighed.{most}
use Rattle.dm_tree.specs.declared.tree.Local.{size-Local}
use Rattle.dm_tree.specs.TypeNumbers.{all_pass, are_known_in_local}
use Rattle.dm_tree.specs.Views.{OpenedLocal, view, view_of_local}
use Rattle.dm_agree.specs.Parts.{nows}
use Rattle.dm_agree.proofs.InitialLemmas.{expressions-with, expressions-without, local-known, local-size}
use Rattle.dm_agree.proofs.PartLemmas.{added, nothing, all-added}
use Rattle.dm_agree.proofs.parts.push_locals.Goals as goal

pub loop-local-preserved-in_ok-push_initial : goal.loop-local-preserved-in_ok-push_initial
loop-local-preserved-in_ok-push_initial c =
    let is = c.in-Some.ensures.cases.0 in
    let deep = ap (most size-Local) is in
    let local = c.in-Some.local.now in
    let initial = c.in-Some-initial.initial in
    let invariant = c.loop-local.invariant in
    record {
      same = λ types.
          added (λ (one : OpenedLocal). one.expressions) (map (view types) (nows c.args.parts.now.items)) (map (view types) (nows c.loop-local.parts.items)) (map (view types) (nows c.push_initial.new.parts.items))
          (map (view_of_local types) c.args.locals.now) (map (view_of_local types) c.loop-local.left.now) (view_of_local types local) (map (view_of_local types) c.in-Some.rest.now)
          (invariant.same types) (ap (map (view_of_local types)) is)
          (c.in_ok-push_initial.ensures.same types ∙ ap (λ more. map (view types) (nows c.loop-local.parts.items) ++ more) (sym (expressions-with types local initial c.in-Some-initial.is)));
      known = λ n before whole.
          let so_far = invariant.known n before whole in
          let both = and_parts (are_known_in_local n local) (all_pass (map (are_known_in_local n) c.in-Some.rest.now)) (ap (λ list. all_pass (map (are_known_in_local n) list)) (sym is) ∙ so_far.1) in
          (c.in_ok-push_initial.ensures.known n so_far.0 (sym (local-known n local initial c.in-Some-initial.is) ∙ both.0), both.1);
      below = λ depth before within.
          let so_far = invariant.below depth before within in
          let left = so_far.1 in
          let size = local-size local initial c.in-Some-initial.is in
          (c.in_ok-push_initial.ensures.below depth so_far.0 (omega (arith, deep, left, size)), omega (arith, deep, left));
    }

pub loop-local-preserved : goal.loop-local-preserved
loop-local-preserved c =
    let is = c.in-Some.ensures.cases.0 in
    let deep = ap (most size-Local) is in
    let local = c.in-Some.local.now in
    let invariant = c.loop-local.invariant in
    record {
      same = λ types.
          added (λ (one : OpenedLocal). one.expressions) (map (view types) (nows c.args.parts.now.items)) (map (view types) (nows c.loop-local.parts.items)) (map (view types) (nows c.loop-local.parts.items))
          (map (view_of_local types) c.args.locals.now) (map (view_of_local types) c.loop-local.left.now) (view_of_local types local) (map (view_of_local types) c.in-Some.rest.now)
          (invariant.same types) (ap (map (view_of_local types)) is)
          (sym (append-nil (map (view types) (nows c.loop-local.parts.items))) ∙ ap (λ more. map (view types) (nows c.loop-local.parts.items) ++ more) (sym (expressions-without types local c.in_default-initial.is)));
      known = λ n before whole.
          let so_far = invariant.known n before whole in
          let both = and_parts (are_known_in_local n local) (all_pass (map (are_known_in_local n) c.in-Some.rest.now)) (ap (λ list. all_pass (map (are_known_in_local n) list)) (sym is) ∙ so_far.1) in
          (so_far.0, both.1);
      below = λ depth before within.
          let so_far = invariant.below depth before within in
          let left = so_far.1 in
          (so_far.0, omega (arith, deep, left));
    }

pub returns-clause-same : goal.returns-clause-same
returns-clause-same c types =
    all-added (λ (one : OpenedLocal). one.expressions) (map (view types) (nows c.args.parts.now.items)) (map (view types) (nows c.loop-local.parts.items))
    (map (view_of_local types) c.args.locals.now) (map (view_of_local types) c.loop-local.left.now) (c.loop-local.invariant.same types)
    (ap (map (view_of_local types)) (nothing c.loop-local.left.now (search rules)))

pub returns-clause-known : goal.returns-clause-known
returns-clause-known c n before whole = (c.loop-local.invariant.known n before whole).0
