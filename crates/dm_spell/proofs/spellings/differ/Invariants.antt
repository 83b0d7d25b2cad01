use Rattle.std.proofs.Common.{◌≡◌, drop}
use Rattle.dm_spell.specs.Rows.{rows_of, all_differ}
use Rattle.dm_spell.proofs.spellings.differ.Given as goal

abbrev pub invariant-loop-number : goal.invariant-loop-number
invariant-loop-number l =
    let rows = rows_of 0 l.text l.ends in
    all_differ rows ≡ all_differ (drop l.number rows)
