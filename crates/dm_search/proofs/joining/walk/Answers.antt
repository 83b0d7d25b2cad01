-- A step of the walk is the next part's.
use Rattle.std.proofs.Common.{map, ap, sym, ◌∙◌}
use Rattle.dm_search.specs.Joining.{walked}
use Rattle.dm_search.proofs.JoiningLemmas.{walk-fails, walk-goes, walked-end}
use Rattle.dm_search.proofs.joining.walk.Goals as goal

pub returns-then-not-branch : goal.returns-then-not-branch
returns-then-not-branch c =
    let none = walk-fails (λ part. part.now) c.deref-step-items.result.now c.loop-step.step-index _ (map (λ part. part.now) c.args.parts.now.items) (map (λ part. part.now) c.loop-step.parts.items) _ _ c.loop-step.invariant c.loop-step-test.true c.in_ok-enter.ensures c.if-not-branch.true in
    let all = sym (ap (map (λ part. part.now)) c.deref-step-items.ensures.value ∙ c.in_ok-steps.ensures) in
    ap (λ parts. walked parts (map (λ part. part.now) c.args.parts.now.items)) all ∙ none

pub loop-step-preserved : goal.loop-step-preserved
loop-step-preserved c =
    walk-goes (λ part. part.now) c.deref-step-items.result.now c.loop-step.step-index _ (map (λ part. part.now) c.args.parts.now.items) (map (λ part. part.now) c.loop-step.parts.items) _ _ c.loop-step.invariant c.loop-step-test.true c.in_ok-enter.ensures c.if-not-branch.false

pub returns : goal.returns
returns c =
    let all = sym (ap (map (λ part. part.now)) c.deref-step-items.ensures.value ∙ c.in_ok-steps.ensures) in
    ap (λ parts. walked parts (map (λ part. part.now) c.args.parts.now.items)) all ∙ c.loop-step.invariant
    ∙ walked-end (λ part. part.now) c.deref-step-items.result.now c.loop-step.step-index (map (λ part. part.now) c.loop-step.parts.items) c.loop-step-test.false
