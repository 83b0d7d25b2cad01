-- The readings at the positions are those of the definition.
use Rattle.std.proofs.Common.{sym, ap, ◌∙◌}
use Rattle.dm_token.specs.declared.unit.Read.{Read}
use Rattle.dm_rules.specs.Listing.{some_at}
use Rattle.dm_rules.specs.Places.{is_inside, position}
use Rattle.dm_rules.specs.Rules.{stands_inside}
use Rattle.dm_rules.specs.Uses.{is_reading}
use Rattle.dm_rules.proofs.ListLemmas.{some-of, none-at, some-here, some-later}
use Rattle.dm_rules.proofs.index.Index.stands_inside.Goals as goal

pub loop-number-init : goal.loop-number-init
loop-number-init c =
    let reading = c.args.self.now.reading.now in
    let inside = λ (read : Read). is_inside reading.core.externals (position reading.pp read.before) in
    ap (some_at inside reading.pp.read) c.readings_of-numbers.ensures ∙ some-of inside (is_reading c.args.definition.now) reading.pp.read

pub loop-number-preserved : goal.loop-number-preserved
loop-number-preserved c =
    let reading = c.args.self.now.reading.now in
    some-later (λ (read : Read). is_inside reading.core.externals (position reading.pp read.before)) reading.pp.read c.readings_of-numbers.result.now c.loop-number.number-index
    (stands_inside c.args.definition.now reading) c.loop-number.invariant c.loop-number-test.true (sym c.if-is_read_inside.false ∙ c.is_read_inside.ensures)

pub returns-then-is_read_inside : goal.returns-then-is_read_inside
returns-then-is_read_inside c =
    let reading = c.args.self.now.reading.now in
    sym (some-here (λ (read : Read). is_inside reading.core.externals (position reading.pp read.before)) reading.pp.read c.readings_of-numbers.result.now c.loop-number.number-index
    (stands_inside c.args.definition.now reading) c.loop-number.invariant c.loop-number-test.true (sym c.if-is_read_inside.true ∙ c.is_read_inside.ensures))

pub returns : goal.returns
returns c =
    let reading = c.args.self.now.reading.now in
    sym (none-at (λ (read : Read). is_inside reading.core.externals (position reading.pp read.before)) reading.pp.read c.readings_of-numbers.result.now c.loop-number.number-index
    (stands_inside c.args.definition.now reading) c.loop-number.invariant c.loop-number-test.false)
