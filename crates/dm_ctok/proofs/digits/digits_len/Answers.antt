use Rattle.std.proofs.Common.{◌∙◌, sym, arith}
use Rattle.std.proofs.lemmas.List.Sums.{prefix_len-drop_yes, prefix_len-drop_no, prefix_len-drop_all}
use Rattle.dm_ctok.specs.Digits.{is_digit, digits_len}
use Rattle.dm_ctok.proofs.digits.digits_len.Goals as goal

pub returns-then-not-is_digit-clause-value : goal.returns-then-not-is_digit-clause-value
unfolding digits_len
returns-then-not-is_digit-clause-value c =
    omega (arith, c.loop-at.invariant, prefix_len-drop_no (is_digit c.args.base) c.args.bytes.now c.loop-at.at 0 c.loop-at-test.true (sym c.is_digit.ensures ∙ c.if-not-is_digit.true))

pub loop-at-preserved : goal.loop-at-preserved
loop-at-preserved c =
    omega (arith, c.loop-at.invariant, prefix_len-drop_yes (is_digit c.args.base) c.args.bytes.now c.loop-at.at 0 c.loop-at-test.true (sym c.is_digit.ensures ∙ c.if-not-is_digit.false))

pub returns-clause-value : goal.returns-clause-value
unfolding digits_len
returns-clause-value c =
    omega (arith, c.loop-at.invariant, prefix_len-drop_all (is_digit c.args.base) c.args.bytes.now c.loop-at.at c.loop-at-test.false)
