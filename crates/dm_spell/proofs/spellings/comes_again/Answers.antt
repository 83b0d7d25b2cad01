use Rattle.std.proofs.Common.{◌∙◌, sym, arith}
use Rattle.std.specs.Prelude.{bytes_eq}
use Rattle.std.specs.List.{list_any}
use Rattle.std.proofs.lemmas.List.{at_drop_all}
use Rattle.dm_spell.specs.Rows.{rows_of, row_at}
use Rattle.dm_spell.proofs.RowLemmas.{length-rows_of}
use Rattle.dm_spell.proofs.spellings.comes_again.Goals as goal

pub returns : goal.returns
returns c =
    let rows = rows_of 0 c.args.text.now c.args.ends.now in
    sym (c.loop-later.invariant ∙ at_drop_all (list_any (bytes_eq (row_at rows c.args.number))) rows c.loop-later.later (omega (arith, length-rows_of 0 c.args.text.now c.args.ends.now)))
