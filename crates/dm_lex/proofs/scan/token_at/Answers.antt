-- The first byte chooses the classes that are tried.
use Rattle.std.proofs.Common.{sym, ◌∙◌}
use Rattle.dm_lex.proofs.ChoiceLemmas.{letter_best, digit_best, mark_best}
use Rattle.dm_lex.proofs.scan.token_at.Goals as goal

pub returns-then-is_letter-clause-best : goal.returns-then-is_letter-clause-best
returns-then-is_letter-clause-best c =
    rw c.identifier_length.ensures.far (letter_best c.args.header c.args.text.now c.args.at c.requires.inside (sym c.is_letter.ensures ∙ c.if-is_letter.true))

pub returns-then-is_digit-clause-best : goal.returns-then-is_digit-clause-best
returns-then-is_digit-clause-best c =
    rw c.digits_length.ensures.far (digit_best c.args.header c.args.text.now c.args.at c.requires.inside (sym c.is_digit.ensures ∙ c.if-is_digit.true))

pub returns-then-is_mark-clause-best : goal.returns-then-is_mark-clause-best
returns-then-is_mark-clause-best c =
    mark_best c.args.header c.args.text.now c.args.at c.plain_at.result c.requires.inside (sym c.is_mark.ensures ∙ c.if-is_mark.true) c.plain_at.ensures.some (c.plain_at.ensures.best c.args.header)
