use Rattle.std.proofs.Common.{◌≡◌, ◌+◌, drop}
use Rattle.std.specs.Prelude.{bytes_eq}
use Rattle.std.specs.List.{list_any}
use Rattle.dm_spell.specs.Rows.{rows_of, row_at}
use Rattle.dm_spell.proofs.spellings.comes_again.Given as goal

abbrev pub invariant-loop-later : goal.invariant-loop-later
invariant-loop-later l =
    let rows = rows_of 0 l.text l.ends in
    let again = bytes_eq (row_at rows l.number) in
    list_any again (drop (l.number + 1) rows) ≡ list_any again (drop l.later rows)
