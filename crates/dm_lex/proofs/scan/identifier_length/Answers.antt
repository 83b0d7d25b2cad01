use Rattle.std.proofs.Common.{◌∙◌, sym, arith}
use Rattle.dm_lex.specs.Classes.{is_nondigit, is_word}
use Rattle.dm_lex.specs.Reach.{run}
use Rattle.dm_lex.specs.Lengths.{identifier_length}
use Rattle.dm_lex.proofs.RunLemmas.{led-so, led-not}
use Rattle.dm_lex.proofs.scan.identifier_length.Goals as goal

pub returns-then-is_nondigit-clause-far : goal.returns-then-is_nondigit-clause-far
unfolding identifier_length
returns-then-is_nondigit-clause-far c =
    rw (led-so is_nondigit (run is_word) c.args.text.now c.args.at c.requires (sym c.is_nondigit.ensures ∙ c.if-is_nondigit.true), c.word_run.ensures.far, c.split_at.ensures.back) (omega arith)

pub returns-else-is_nondigit-clause-far : goal.returns-else-is_nondigit-clause-far
unfolding identifier_length
returns-else-is_nondigit-clause-far c =
    sym (led-not is_nondigit (run is_word) c.args.text.now c.args.at c.requires (sym c.is_nondigit.ensures ∙ c.if-is_nondigit.false))
