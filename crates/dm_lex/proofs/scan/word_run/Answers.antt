use Rattle.std.proofs.Common.{◌∙◌, sym, arith}
use Rattle.dm_lex.specs.Classes.{is_word}
use Rattle.dm_lex.proofs.RunLemmas.{run-more, run-stop, run-end}
use Rattle.dm_lex.proofs.scan.word_run.Goals as goal

pub returns-then-not-is_word-clause-far : goal.returns-then-not-is_word-clause-far
returns-then-not-is_word-clause-far c =
    omega (arith, c.loop-at.invariant, run-stop is_word c.args.text.now c.loop-at.at c.loop-at-test.true (sym c.is_word.ensures ∙ c.if-not-is_word.true))

pub loop-at-preserved : goal.loop-at-preserved
loop-at-preserved c =
    omega (arith, c.loop-at.invariant, run-more is_word c.args.text.now c.loop-at.at c.loop-at-test.true (sym c.is_word.ensures ∙ c.if-not-is_word.false))

pub returns-clause-far : goal.returns-clause-far
returns-clause-far c = omega (arith, c.loop-at.invariant, run-end is_word c.args.text.now c.loop-at.at c.loop-at-test.false)
