use Rattle.std.proofs.Common.{◌∙◌, ap, sym, eqb}
use Rattle.std.proofs.lemmas.Bool.{eq-eqb, ne_eqb}
use Rattle.dm_lex.specs.Reach.{closing_name, beyond}
use Rattle.dm_lex.specs.Lengths.{name_length, unless_closed}
use Rattle.dm_lex.proofs.RunLemmas.{prefixed-so, prefixed-not}
use Rattle.dm_lex.proofs.scan.name_length.Goals as goal

pub returns-then-text-at-clause-far : goal.returns-then-text-at-clause-far
unfolding name_length
returns-then-text-at-clause-far c =
    c.beyond.ensures.far ∙ (ap (beyond 1) c.filled_length.ensures.far
    ∙ sym (prefixed-so (λ byte. eqb byte c.args.first) (unless_closed c.args.close (closing_name c.args.close)) c.args.text.now c.args.at c.requires (eq-eqb _ _ c.if-text-at.true)))

pub returns-else-text-at-clause-far : goal.returns-else-text-at-clause-far
unfolding name_length
returns-else-text-at-clause-far c =
    sym (prefixed-not (λ byte. eqb byte c.args.first) (unless_closed c.args.close (closing_name c.args.close)) c.args.text.now c.args.at c.requires (ne_eqb _ _ c.if-text-at.false))
