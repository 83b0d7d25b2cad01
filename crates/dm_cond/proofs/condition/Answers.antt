-- A token is taken, or there is no tree; at the end the number is the value.
use Rattle.std.proofs.Common.{rules, sym, ◌∙◌, ap, subst, Bool, ◌≡◌, to_z, of_z}
use mir.Syntax.{w128}
use Rattle.dm_cond.specs.Machine.{Point, step, outcome, number_of}
use Rattle.dm_cond.specs.Points.{point_of, Takes}
use Rattle.dm_cond.specs.Values.{is_true}
use Rattle.dm_cond.specs.Readings.{HasTruth}
use Rattle.dm_cond.proofs.Truths.{truth-of-number}
use Rattle.dm_cond.proofs.Runs.{stops-none, stops-failed, goes-on, at-end, refused}
use Rattle.dm_cond.proofs.condition.Goals as goal

-- whether a symbol is taken
abbrev Answers_at : Point → Point → Bool → Type 0
Answers_at meant now taken = Takes taken meant now

pub returns-in_default-clause-stop : goal.returns-in_default-clause-stop
returns-in_default-clause-stop c =
    refused c.args.tokens.now c.args.at _
    (stops-none c.args.tokens.now c.loop-token.token-index c.token-item.result (point_of c.loop-token.parser) c.loop-token-test.true c.token-item.is
    (sym c.symbol_of.ensures.value ∙ c.in_default.is) c.loop-token.invariant)
    c.no_value.ensures

pub returns-then-not-branch-clause-stop : goal.returns-then-not-branch-clause-stop
returns-then-not-branch-clause-stop c =
    refused c.args.tokens.now c.args.at _
    (stops-failed c.args.tokens.now c.loop-token.token-index c.token-item.result (point_of c.loop-token.parser) c.in-Some.symbol c.loop-token-test.true c.token-item.is
    (sym c.symbol_of.ensures.value ∙ c.in-Some.is) (subst (Answers_at (step (point_of c.loop-token.parser) c.in-Some.symbol) (point_of c.take.new.self)) c.if-not-branch.true c.in_ok-take.ensures) c.loop-token.invariant)
    c.no_value-then-not-branch.ensures

pub loop-token-preserved : goal.loop-token-preserved
loop-token-preserved c =
    goes-on c.args.tokens.now c.loop-token.token-index c.token-item.result (point_of c.loop-token.parser) (point_of c.take.new.self) c.in-Some.symbol c.loop-token-test.true c.token-item.is
    (sym c.symbol_of.ensures.value ∙ c.in-Some.is) (subst (Answers_at (step (point_of c.loop-token.parser) c.in-Some.symbol) (point_of c.take.new.self)) c.if-not-branch.false c.in_ok-take.ensures) c.loop-token.invariant

pub returns-in-Some-number-clause-value : goal.returns-in-Some-number-clause-value
returns-in-Some-number-clause-value c =
    let Is : Bool → Type 0 = λ truth. HasTruth c.args.tokens.now truth in
    let same : to_z w128 (of_z w128 c.in-Some-number.number) ≡ c.in-Some-number.number = search rules in
    subst Is (sym (c.is_true.ensures ∙ ap is_true same))
    (truth-of-number c.args.tokens.now (outcome (point_of c.loop-token.parser)) c.in-Some-number.number
    (at-end c.args.tokens.now c.loop-token.token-index (point_of c.loop-token.parser) c.loop-token-test.false c.loop-token.invariant)
    (sym c.number.ensures ∙ c.in-Some-number.is))

pub returns-in-None-clause-stop : goal.returns-in-None-clause-stop
returns-in-None-clause-stop c =
    refused c.args.tokens.now c.args.at _
    (ap number_of (at-end c.args.tokens.now c.loop-token.token-index (point_of c.loop-token.parser) c.loop-token-test.false c.loop-token.invariant) ∙ sym c.number.ensures ∙ c.in-None.is)
    c.no_value-in-None.ensures
