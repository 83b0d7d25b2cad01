use Rattle.std.proofs.Common.{◌∙◌, ap, sym}
use Rattle.dm_lex.specs.Classes.{is_prefix, apostrophe}
use Rattle.dm_lex.specs.Reach.{beyond}
use Rattle.dm_lex.specs.Lengths.{plain_character_length}
use Rattle.dm_lex.proofs.RunLemmas.{prefixed-so, prefixed-not, StaysOpen-before, prefix_no_apostrophe}
use Rattle.dm_lex.proofs.scan.wide_character_length.Goals as goal

pub returns-then-is_prefix-clause-far : goal.returns-then-is_prefix-clause-far
returns-then-is_prefix-clause-far c =
    c.beyond.ensures.far ∙ (ap (beyond 1) c.plain_character_length.ensures.far
    ∙ sym (prefixed-so is_prefix plain_character_length c.args.text.now c.args.at c.requires.inside (sym c.is_prefix.ensures ∙ c.if-is_prefix.true)))

pub returns-then-is_prefix-clause-known : goal.returns-then-is_prefix-clause-known
returns-then-is_prefix-clause-known c =
    StaysOpen-before apostrophe c.args.text.now c.args.at c.plain_character_length.new.known
    (prefix_no_apostrophe _ (sym c.is_prefix.ensures ∙ c.if-is_prefix.true)) c.plain_character_length.ensures.known

pub returns-else-is_prefix-clause-far : goal.returns-else-is_prefix-clause-far
returns-else-is_prefix-clause-far c =
    sym (prefixed-not is_prefix plain_character_length c.args.text.now c.args.at c.requires.inside (sym c.is_prefix.ensures ∙ c.if-is_prefix.false))
