use Rattle.std.proofs.Common.{◌∙◌, sym, arith, false}
use Rattle.dm_lex.specs.Classes.{is_digit}
use Rattle.dm_lex.specs.Reach.{number_run}
use Rattle.dm_lex.specs.Lengths.{digits_length}
use Rattle.dm_lex.proofs.RunLemmas.{led-so, led-not, led-end}
use Rattle.dm_lex.proofs.scan.digits_length.Goals as goal

pub returns-then-at-text-clause-far : goal.returns-then-at-text-clause-far
unfolding digits_length
returns-then-at-text-clause-far c = sym (led-end is_digit (number_run false) c.args.text.now c.args.at (omega arith))

pub returns-then-is_digit-clause-far : goal.returns-then-is_digit-clause-far
unfolding digits_length
returns-then-is_digit-clause-far c =
    rw (led-so is_digit (number_run false) c.args.text.now c.args.at (omega arith) (sym c.is_digit.ensures ∙ c.if-is_digit.true), c.number_run.ensures.far, c.split_at.ensures.back) (omega arith)

pub returns-else-is_digit-clause-far : goal.returns-else-is_digit-clause-far
unfolding digits_length
returns-else-is_digit-clause-far c =
    sym (led-not is_digit (number_run false) c.args.text.now c.args.at (omega arith) (sym c.is_digit.ensures ∙ c.if-is_digit.false))
