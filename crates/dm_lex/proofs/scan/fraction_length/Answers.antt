use Rattle.std.proofs.Common.{◌∙◌, ap, sym, eqb}
use Rattle.std.proofs.lemmas.Bool.{eq-eqb, ne_eqb}
use Rattle.dm_lex.specs.Classes.{full_stop}
use Rattle.dm_lex.specs.Reach.{beyond}
use Rattle.dm_lex.specs.Lengths.{digits_length}
use Rattle.dm_lex.proofs.RunLemmas.{prefixed-so, prefixed-not}
use Rattle.dm_lex.proofs.scan.fraction_length.Goals as goal

pub returns-then-text-at-eq46-clause-far : goal.returns-then-text-at-eq46-clause-far
returns-then-text-at-eq46-clause-far c =
    c.beyond.ensures.far ∙ (ap (beyond 1) c.digits_length.ensures.far
    ∙ sym (prefixed-so (λ byte. eqb byte full_stop) digits_length c.args.text.now c.args.at c.requires (eq-eqb _ _ c.if-text-at-eq46.true)))

pub returns-else-text-at-eq46-clause-far : goal.returns-else-text-at-eq46-clause-far
returns-else-text-at-eq46-clause-far c =
    sym (prefixed-not (λ byte. eqb byte full_stop) digits_length c.args.text.now c.args.at c.requires (ne_eqb _ _ c.if-text-at-eq46.false))
