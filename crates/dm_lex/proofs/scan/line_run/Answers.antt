use Rattle.std.proofs.Common.{arith}
use Rattle.dm_lex.specs.Cuts.{is_within_line}
use Rattle.dm_lex.proofs.RunLemmas.{run-more, run-stop, run-end, is_within_line-not, is_within_line-so}
use Rattle.dm_lex.proofs.scan.line_run.Goals as goal

pub returns-then-byte-eq10-clause-far : goal.returns-then-byte-eq10-clause-far
returns-then-byte-eq10-clause-far c =
    omega (arith, c.loop-at.invariant, run-stop is_within_line c.args.text.now c.loop-at.at c.loop-at-test.true (is_within_line-not _ c.if-byte-eq10.true))

pub loop-at-preserved : goal.loop-at-preserved
loop-at-preserved c =
    omega (arith, c.loop-at.invariant, run-more is_within_line c.args.text.now c.loop-at.at c.loop-at-test.true (is_within_line-so _ c.if-byte-eq10.false))

pub returns-clause-far : goal.returns-clause-far
returns-clause-far c = omega (arith, c.loop-at.invariant, run-end is_within_line c.args.text.now c.loop-at.at c.loop-at-test.false)
