use Rattle.std.proofs.Common.{◌∙◌, ap, sym}
use Rattle.dm_lex.specs.Reach.{beyond}
use Rattle.dm_lex.proofs.RunLemmas.{closing_name-stop, closing_name-done, closing_name-more, closing_name-end, beyond-one, beyond-zero, beyond-reached, beyond-none}
use Rattle.dm_lex.proofs.scan.closing_name.Goals as goal

pub loop-at-init : goal.loop-at-init
loop-at-init c = sym (beyond-zero _)

pub returns-then-byte-eq10-clause-far : goal.returns-then-byte-eq10-clause-far
returns-then-byte-eq10-clause-far c =
    sym (c.loop-at.invariant ∙ (ap (beyond c.loop-at.at) (closing_name-stop c.args.close c.args.text.now c.loop-at.at c.loop-at-test.true c.if-byte-eq10.true) ∙ beyond-none _))

pub returns-then-byte-close-clause-far : goal.returns-then-byte-close-clause-far
returns-then-byte-close-clause-far c =
    sym (c.loop-at.invariant ∙ (ap (beyond c.loop-at.at) (closing_name-done c.args.close c.args.text.now c.loop-at.at c.loop-at-test.true c.if-byte-eq10.false c.if-byte-close.true) ∙ beyond-one _))

pub loop-at-preserved : goal.loop-at-preserved
loop-at-preserved c =
    c.loop-at.invariant ∙ (ap (beyond c.loop-at.at) (closing_name-more c.args.close c.args.text.now c.loop-at.at c.loop-at-test.true c.if-byte-eq10.false c.if-byte-close.false) ∙ beyond-reached _ _)

pub returns-clause-far : goal.returns-clause-far
returns-clause-far c = sym (c.loop-at.invariant ∙ (ap (beyond c.loop-at.at) (closing_name-end c.args.close c.args.text.now c.loop-at.at c.loop-at-test.false) ∙ beyond-none _))
