use Rattle.std.proofs.Common.{refl, sym, ◌∙◌}
use Rattle.dm_spell.specs.Rows.{rows_of}
use Rattle.dm_spell.proofs.RowLemmas.{is_first-zeros}
use Rattle.dm_spell.proofs.spellings.Spellings.new.Goals as goal

pub invariant_of-result : goal.invariant_of-result
invariant_of-result g c =
    (sym c.rise.ensures ∙ c.if-rise.true, sym c.differ.ensures ∙ c.if-differ.true, c.told-ends, c.requires, is_first-zeros 0 256 (rows_of 0 c.args.text.now c.args.ends.now), refl)
