-- The runs of the beginnings up to here.
use Rattle.std.proofs.Common.{◌≡◌, ℕ, take, map}
use Rattle.dm_token.specs.declared.token.Token.{Token}
use Rattle.dm_runs.specs.Beginnings.{met}
use Rattle.dm_runs.specs.Listings.{items_at}
use Rattle.dm_runs.specs.Runs.{runs_among}
use Rattle.dm_runs.proofs.runs.of_beginnings.Given as goal

abbrev pub invariant-loop-number : goal.invariant-loop-number
invariant-loop-number l = (file hash : ℕ) → items_at l.found file hash
    ≡ runs_among l.pp l.shape.tokens.now file hash (take l.number (met (map (λ (token : Token). token.trail) l.pp.tokens)))
