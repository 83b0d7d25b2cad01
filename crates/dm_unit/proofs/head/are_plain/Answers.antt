use Rattle.std.proofs.Common.{sym, ◌∙◌}
use Rattle.dm_unit.proofs.StepLemmas.{plain-stops, plain-more, plain-none}
use Rattle.dm_unit.proofs.head.are_plain.Goals as goal

pub returns-then-not-is_plain_token : goal.returns-then-not-is_plain_token
returns-then-not-is_plain_token c =
    sym (plain-stops c.args.bytes.now c.loop-token.from c.loop-token.rest.now c.in-Some.token.now c.in-Some.others.now c.in-Some.ensures.cases.0 (sym c.is_plain_token.ensures ∙ c.if-not-is_plain_token.true))
    ∙ c.loop-token.invariant

pub loop-token-preserved : goal.loop-token-preserved
loop-token-preserved c =
    plain-more c.args.bytes.now c.loop-token.from c.loop-token.rest.now c.in-Some.token.now c.in-Some.others.now c.in-Some.ensures.cases.0 (sym c.is_plain_token.ensures ∙ c.if-not-is_plain_token.false)
    ∙ c.loop-token.invariant

pub returns : goal.returns
returns c = sym (plain-none c.args.bytes.now c.loop-token.from c.loop-token.rest.now c.in_default.ensures.cases) ∙ c.loop-token.invariant
