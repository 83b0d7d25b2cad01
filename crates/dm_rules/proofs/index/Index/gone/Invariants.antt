-- None of the expansions up to here is gone.
use Rattle.std.proofs.Common.{◌≡◌, drop}
use Rattle.dm_rules.specs.Listing.{first_name}
use Rattle.dm_rules.specs.Rules.{is_gone, gone_in}
use Rattle.dm_rules.specs.Uses.{runs_in}
use Rattle.dm_rules.proofs.index.Index.gone.Given as goal

abbrev pub invariant-loop-number : goal.invariant-loop-number
invariant-loop-number l =
    let reading = l.fn.self.reading.now in
    first_name (is_gone (runs_in l.fn.definition reading)) reading.pp.expansions (drop l.number-index l.numbers) ≡ gone_in l.fn.definition reading
