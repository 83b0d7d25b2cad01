-- None of the readings up to here stands inside an external declaration.
use Rattle.std.proofs.Common.{◌≡◌, drop}
use Rattle.dm_token.specs.declared.unit.Read.{Read}
use Rattle.dm_rules.specs.Listing.{some_at}
use Rattle.dm_rules.specs.Places.{is_inside, position}
use Rattle.dm_rules.specs.Rules.{stands_inside}
use Rattle.dm_rules.proofs.index.Index.stands_inside.Given as goal

abbrev pub invariant-loop-number : goal.invariant-loop-number
invariant-loop-number l =
    let reading = l.fn.self.reading.now in
    some_at (λ (read : Read). is_inside reading.core.externals (position reading.pp read.before)) reading.pp.read (drop l.number-index l.numbers)
    ≡ stands_inside l.fn.definition reading
