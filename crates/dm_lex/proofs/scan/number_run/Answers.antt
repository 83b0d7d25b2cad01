use Rattle.std.proofs.Common.{◌∙◌, sym, arith}
use Rattle.dm_lex.proofs.RunLemmas.{number_run-more, number_run-stop, number_run-end}
use Rattle.dm_lex.proofs.scan.number_run.Goals as goal

pub returns-then-not-continues_number-clause-far : goal.returns-then-not-continues_number-clause-far
returns-then-not-continues_number-clause-far c =
    omega (arith, c.loop-at.invariant, number_run-stop c.loop-at.behind_exponent c.args.text.now c.loop-at.at c.loop-at-test.true (sym c.continues_number.ensures ∙ c.if-not-continues_number.true))

pub loop-at-preserved : goal.loop-at-preserved
loop-at-preserved c =
    rw c.is_exponent-behind_exponent.ensures
    (omega (arith, c.loop-at.invariant, number_run-more c.loop-at.behind_exponent c.args.text.now c.loop-at.at c.loop-at-test.true (sym c.continues_number.ensures ∙ c.if-not-continues_number.false)))

pub returns-clause-far : goal.returns-clause-far
returns-clause-far c = omega (arith, c.loop-at.invariant, number_run-end c.loop-at.behind_exponent c.args.text.now c.loop-at.at c.loop-at-test.false)
