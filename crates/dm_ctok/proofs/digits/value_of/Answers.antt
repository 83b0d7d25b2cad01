use Rattle.std.proofs.Common.{ℕ, ◌+◌, ◌*◌, get_or, drop, refl, sym, ◌∙◌, arith}
use Rattle.dm_ctok.specs.Digits.{digit_value, value_of}
use Rattle.dm_ctok.proofs.DigitLemmas.{from-more, none-from, none-up_to}
use Rattle.dm_ctok.proofs.digits.value_of.Goals as goal

pub loop-digit-init : goal.loop-digit-init
unfolding value_of
loop-digit-init c = record { whole = refl; small = omega arith }

pub returns-in_err-value : goal.returns-in_err-value
returns-in_err-value c =
    let at = c.loop-digit.digit-index in
    let digits = c.args.digits.now in
    let next : ℕ = c.args.base * c.loop-digit.value + digit_value (get_or digits at 0) in
    c.from_residual.ensures ∙ none-from c.args.base next c.args.most _ (drop (at + 1) digits) c.requires
    (none-up_to c.args.most next c.in_err-value.ensures)
    (sym (from-more c.args.base c.loop-digit.value digits at _ c.loop-digit-test.true refl) ∙ c.loop-digit.invariant.whole)
