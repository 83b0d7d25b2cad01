-- No pair is left.
use Rattle.std.proofs.Common.{◌∙◌, arith}
use Rattle.dm_agree.specs.Standing.{occurrences_with}
use Rattle.dm_agree.proofs.IndexLemmas.{first-narrowest}
use Rattle.dm_agree.proofs.index.OccurrenceIndex.first_narrowing.Goals as goal

pub returns : goal.returns
returns c =
    let none = c.loop-left-test.false in
    c.widened.ensures ∙ (first-narrowest (occurrences_with c.args.self.now.occurrences) c.args.inner c.loop-left.left (omega (arith, none)) ∙ c.loop-left.invariant)
