-- The first place of a unit is that of the first unit that has one.
use Rattle.std.proofs.Common.{sym, ap, ◌∙◌}
use Rattle.dm_meanings.specs.First.{place_at, readings_of}
use Rattle.dm_meanings.specs.Types.{type_in}
use Rattle.dm_rules.specs.Uses.{in_first_unit}
use Rattle.dm_meanings.proofs.MetLemmas.{first-unit, later-unit, no-unit}
use Rattle.dm_meanings.proofs.types.type_in_units.Goals as goal

pub returns-in-Some : goal.returns-in-Some
returns-in-Some c first wanted =
    let place = type_in c.args.definition.now first in
    first-unit place c.args.units.now c.loop-unit.unit-index (in_first_unit place (readings_of c.args.units.now)) (c.loop-unit.invariant first wanted) c.unit-item.result c.loop-unit-test.true
    c.in-Some.place (sym c.in-Some.is ∙ c.in_ok-place.ensures first wanted ∙ ap (place_at place) c.unit-item.is)

pub loop-unit-preserved : goal.loop-unit-preserved
loop-unit-preserved c first wanted =
    let place = type_in c.args.definition.now first in
    later-unit place c.args.units.now c.loop-unit.unit-index (in_first_unit place (readings_of c.args.units.now)) (c.loop-unit.invariant first wanted) c.unit-item.result c.loop-unit-test.true
    (sym c.in_default.is ∙ c.in_ok-place.ensures first wanted ∙ ap (place_at place) c.unit-item.is)

pub returns : goal.returns
returns c first wanted =
    let place = type_in c.args.definition.now first in
    sym (no-unit place c.args.units.now c.loop-unit.unit-index (in_first_unit place (readings_of c.args.units.now)) (c.loop-unit.invariant first wanted) c.loop-unit-test.false)
