use Rattle.std.proofs.Common.{◌≡◌, ◌≤◌, drop}
use Rattle.dm_parentheses.specs.Parentheses.{before_closing, index_from}
use Rattle.dm_expand.specs.Shares.{signs_of}
use Rattle.dm_expand.proofs.arguments.count_before_closing.Given as goal

abbrev pub invariant-loop-count : goal.invariant-loop-count
invariant-loop-count l =
    (before_closing 0 (signs_of l.items) ≡ index_from l.count (before_closing l.depth (signs_of (drop l.count l.items)))) × (l.depth ≤ l.count)
