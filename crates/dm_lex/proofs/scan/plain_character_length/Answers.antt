use Rattle.std.proofs.Common.{◌∙◌, sym, arith}
use Rattle.dm_lex.proofs.RunLemmas.{character-lone, character-empty, character-filled}
use Rattle.dm_lex.proofs.scan.plain_character_length.Goals as goal

pub returns-then-text-at-clause-far : goal.returns-then-text-at-clause-far
returns-then-text-at-clause-far c = sym (character-lone c.args.text.now c.args.at (omega arith))

pub returns-then-text-at-eq39-clause-far : goal.returns-then-text-at-eq39-clause-far
returns-then-text-at-eq39-clause-far c = sym (character-empty c.args.text.now c.args.at (omega arith) c.if-text-at-eq39.true)

pub returns-else-text-at-eq39-clause-far : goal.returns-else-text-at-eq39-clause-far
returns-else-text-at-eq39-clause-far c =
    c.quoted_length.ensures.far ∙ sym (character-filled c.args.text.now c.args.at (omega arith) c.if-text-at-eq39.false)
