-- The positions of the readings up to here.
use Rattle.std.proofs.Common.{◌≡◌, ℕ, take}
use Rattle.dm_token.specs.declared.unit.Read.{Read}
use Rattle.dm_runs.specs.Listings.{items_at}
use Rattle.dm_runs.specs.Runs.{is_at}
use Rattle.dm_runs.specs.Spans.{positions}
use Rattle.dm_rules.proofs.listing.readings.Given as goal

abbrev pub invariant-loop-number : goal.invariant-loop-number
invariant-loop-number l = (file hash : ℕ) → items_at l.found file hash ≡ positions (λ (one : Read). is_at file hash one.definition) 0 (take l.number l.fn.read)
