use Rattle.std.proofs.Common.{◌∙◌, sym, arith}
use Rattle.std.proofs.lemmas.List.{at_drop_all}
use Rattle.dm_spell.specs.Rows.{rows_of, all_differ}
use Rattle.dm_spell.proofs.RowLemmas.{length-rows_of}
use Rattle.dm_spell.proofs.spellings.differ.Goals as goal

pub returns : goal.returns
returns c =
    let rows = rows_of 0 c.args.text.now c.args.ends.now in
    sym (c.loop-number.invariant ∙ at_drop_all all_differ rows c.loop-number.number (omega (arith, length-rows_of 0 c.args.text.now c.args.ends.now)))
