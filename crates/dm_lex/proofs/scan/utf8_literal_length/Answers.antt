use Rattle.std.proofs.Common.{◌∙◌, ap, sym, eqb}
use Rattle.std.proofs.lemmas.Bool.{eq-eqb, ne_eqb}
use Rattle.dm_lex.specs.Reach.{beyond}
use Rattle.dm_lex.specs.Lengths.{prefixed, plain_literal_length}
use Rattle.dm_lex.proofs.RunLemmas.{prefixed-so, prefixed-not}
use Rattle.dm_lex.proofs.scan.utf8_literal_length.Goals as goal

pub returns-then-text-at-eq117-clause-far : goal.returns-then-text-at-eq117-clause-far
returns-then-text-at-eq117-clause-far c =
    c.beyond.ensures.far ∙ (ap (beyond 1) c.digit_literal_length.ensures.far
    ∙ sym (prefixed-so (λ byte. eqb byte 117) (prefixed (λ byte. eqb byte 56) plain_literal_length) c.args.text.now c.args.at c.requires.inside (eq-eqb _ _ c.if-text-at-eq117.true)))

pub returns-else-text-at-eq117-clause-far : goal.returns-else-text-at-eq117-clause-far
returns-else-text-at-eq117-clause-far c =
    sym (prefixed-not (λ byte. eqb byte 117) (prefixed (λ byte. eqb byte 56) plain_literal_length) c.args.text.now c.args.at c.requires.inside (ne_eqb _ _ c.if-text-at-eq117.false))
