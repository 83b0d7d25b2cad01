-- The occurrences up to here, and how far the tokens of the run come where that was asked.
use Rattle.std.proofs.Common.{◌≡◌, take, map}
use Rattle.std.specs.Prelude.{IfSome}
use Rattle.dm_runs.specs.Reaches.{AreKnown}
use Rattle.dm_runs.specs.Runs.{occurrence_in}
use Rattle.dm_runs.proofs.shape.Shape.occurrences.Given as goal

abbrev pub invariant-loop-named : goal.invariant-loop-named
invariant-loop-named l =
    (l.found.items ≡ map (occurrence_in l.stand.names.now l.self.tokens.now l.stand.definition.now l.prefix l.run) (take l.named-index l.named-items))
    × IfSome l.reach (λ known. AreKnown l.stand.names.now l.self.tokens.now l.stand.definition.now l.prefix l.run known.items)
