-- Those up to here, and how often each parameter is named up to here.
use Rattle.std.proofs.Common.{◌≡◌, ℕ, [], take, get_or}
use Rattle.dm_macro.specs.Bodies.{places_of}
use Rattle.dm_runs.specs.Names.{named_behind}
use Rattle.dm_runs.proofs.named.named_among.Given as goal

abbrev pub invariant-loop-at : goal.invariant-loop-at
invariant-loop-at l =
    (l.named.items ≡ named_behind l.parameters [] (take l.at l.body))
    × ((parameter : ℕ) → get_or l.counts.items parameter 0 ≡ places_of l.parameters parameter (take l.at l.body))
