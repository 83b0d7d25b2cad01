-- One token after another.
use Rattle.std.proofs.Common.{◌+◌, false, ◌&&◌, ◌==◌, not, inl, inr, get_or, refl, sym, ap, ◌∙◌, arith}
use Rattle.dm_meanings.proofs.OwnLemmas.{none-between, one-between, all-between, and-true}
use Rattle.dm_meanings.proofs.own.leave_out_span.Goals as goal

pub loop-token-init : goal.loop-token-init
loop-token-init c =
    let from = c.args.span.first in
    record {
      long = refl;
      reached = inl refl;
      own = λ at inside. sym (ap (λ b. get_or c.args.own.now at false && not b) (none-between from (c.args.first + at)) ∙ and-true (get_or c.args.own.now at false));
    }

pub loop-token-preserved : goal.loop-token-preserved
loop-token-preserved c =
    let from = c.args.span.first in
    let token = c.loop-token.token in
    let inv = c.loop-token.invariant in
    record {
      long = c.leave_out.ensures.long ∙ inv.long;
      reached = inr (omega (arith, c.loop-token-test.true));
      own = λ at inside. c.leave_out.ensures.own at (omega (arith, inside, inv.long))
          ∙ ap (λ o. o && not (c.args.first + at == token)) (inv.own at inside)
          ∙ one-between from token (c.args.first + at) c.loop-token.auto.token (get_or c.args.own.now at false);
    }

pub returns-clause-own : goal.returns-clause-own
returns-clause-own c at inside =
    c.loop-token.invariant.own at inside
    ∙ ap (λ b. get_or c.args.own.now at false && not b)
    (all-between c.args.span.first c.loop-token.token c.args.span.after (c.args.first + at) c.loop-token-test.false c.loop-token.invariant.reached)
