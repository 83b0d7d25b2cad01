use Rattle.std.proofs.Common.{◌∙◌, ap, sym, arith, ◌<◌, length}
use Rattle.dm_lex.specs.Reach.{closing_name}
use Rattle.dm_lex.proofs.RunLemmas.{unless_closed-so, unless_closed-not, unless_closed-end}
use Rattle.dm_lex.proofs.scan.filled_length.Goals as goal

pub returns-then-at-text-clause-far : goal.returns-then-at-text-clause-far
returns-then-at-text-clause-far c = sym (unless_closed-end c.args.close (closing_name c.args.close) c.args.text.now c.args.at (omega arith))

pub returns-then-text-at-clause-far : goal.returns-then-text-at-clause-far
returns-then-text-at-clause-far c =
    let inside : c.args.at < length c.args.text.now = omega arith in
    sym (unless_closed-not c.args.close (closing_name c.args.close) c.args.text.now c.args.at inside c.if-text-at.true)

pub returns-else-text-at-clause-far : goal.returns-else-text-at-clause-far
returns-else-text-at-clause-far c =
    let inside : c.args.at < length c.args.text.now = omega arith in
    c.closing_name.ensures.far ∙ (ap (closing_name c.args.close) c.split_at.ensures.back
    ∙ sym (unless_closed-so c.args.close (closing_name c.args.close) c.args.text.now c.args.at inside c.if-text-at.false))
