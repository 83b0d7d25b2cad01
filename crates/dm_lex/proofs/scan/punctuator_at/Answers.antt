use Rattle.std.proofs.Common.{◌∙◌, sym}
use Rattle.dm_lex.proofs.KindLemmas.{word_no_row}
use Rattle.dm_lex.proofs.scan.punctuator_at.Goals as goal

pub returns-then-is_word : goal.returns-then-is_word
returns-then-is_word c = word_no_row c.args.text.now c.args.at c.requires.inside (sym c.is_word.ensures ∙ c.if-is_word.true)
