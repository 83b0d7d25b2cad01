use Rattle.std.proofs.Common.{◌∙◌, ap, sym, arith, eqb, ◌<◌, length}
use Rattle.std.proofs.lemmas.Bool.{eq-eqb, ne_eqb}
use Rattle.dm_lex.specs.Reach.{beyond}
use Rattle.dm_lex.specs.Lengths.{plain_literal_length}
use Rattle.dm_lex.proofs.RunLemmas.{prefixed-so, prefixed-not, prefixed-end}
use Rattle.dm_lex.proofs.scan.digit_literal_length.Goals as goal

pub returns-then-at-text-clause-far : goal.returns-then-at-text-clause-far
returns-then-at-text-clause-far c = sym (prefixed-end (λ byte. eqb byte 56) plain_literal_length c.args.text.now c.args.at (omega arith))

pub returns-then-text-at-eq56-clause-far : goal.returns-then-text-at-eq56-clause-far
returns-then-text-at-eq56-clause-far c =
    let inside : c.args.at < length c.args.text.now = omega arith in
    c.beyond.ensures.far ∙ (ap (beyond 1) c.plain_literal_length.ensures.far
    ∙ sym (prefixed-so (λ byte. eqb byte 56) plain_literal_length c.args.text.now c.args.at inside (eq-eqb _ _ c.if-text-at-eq56.true)))

pub returns-else-text-at-eq56-clause-far : goal.returns-else-text-at-eq56-clause-far
returns-else-text-at-eq56-clause-far c =
    let inside : c.args.at < length c.args.text.now = omega arith in
    sym (prefixed-not (λ byte. eqb byte 56) plain_literal_length c.args.text.now c.args.at inside (ne_eqb _ _ c.if-text-at-eq56.false))
