-- The positions of the expansions up to here.
use Rattle.std.proofs.Common.{◌≡◌, ℕ, take}
use Rattle.dm_token.specs.declared.expansion.Expansion.{Expansion}
use Rattle.dm_runs.specs.Listings.{items_at}
use Rattle.dm_runs.specs.Spans.{positions}
use Rattle.dm_rules.specs.Listing.{is_expansion_at}
use Rattle.dm_rules.proofs.listing.expansions.Given as goal

abbrev pub invariant-loop-number : goal.invariant-loop-number
invariant-loop-number l = (file hash : ℕ) → items_at l.found file hash ≡ positions (λ (one : Expansion). is_expansion_at file hash l.fn.read one) 0 (take l.number l.fn.expansions)
