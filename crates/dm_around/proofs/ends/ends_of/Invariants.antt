-- The ends of the places behind are known.
use Rattle.std.proofs.Common.{◌≡◌, ◌≤◌, vec_len}
use Rattle.dm_type.specs.Tables.{Table}
use Rattle.dm_around.specs.Places.{ArePlain}
use Rattle.dm_around.proofs.ParentLemmas.{all_of}
use Rattle.dm_around.proofs.EndLemmas.{EndsFrom}
use Rattle.dm_around.proofs.ends.ends_of.Given as goal

abbrev pub invariant-loop-number : goal.invariant-loop-number
invariant-loop-number l =
    (l.number ≤ l.total) × (vec_len l.ends ≡ l.total)
    × ((types : Table) → ArePlain (all_of types l.sites) → EndsFrom l.number (all_of types l.sites) l.ends.items)

abbrev pub decreases-loop-number : goal.decreases-loop-number
decreases-loop-number l = l.number
