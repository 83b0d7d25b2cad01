-- A byte that gives no number ends the value.
use Rattle.std.proofs.Common.{◌∙◌, sym}
use Rattle.dm_words.proofs.NumberLemmas.{stops}
use Rattle.dm_words.proofs.number.value.Goals as goal

pub returns-in_err-value : goal.returns-in_err-value
returns-in_err-value c =
    c.from_residual.ensures ∙ sym (stops c.loop-digit.value c.loop-digit.digit-index c.args.text.now c.loop-digit-test.true c.in_err-value.ensures) ∙ c.loop-digit.invariant
