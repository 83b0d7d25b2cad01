-- The first place of a unit is that of the first unit that has one.
use Rattle.std.proofs.Common.{sym, ap, ◌∙◌}
use Rattle.dm_rules.specs.declared.index.Index.{Index}
use Rattle.dm_rules.specs.Indexes.{readings_of}
use Rattle.dm_rules.specs.Rules.{name_in, broken_name}
use Rattle.dm_rules.proofs.UnitLemmas.{first-unit, later-unit}
use Rattle.dm_rules.proofs.uses.broken_name.Goals as goal

pub returns-in-Some : goal.returns-in-Some
returns-in-Some c =
    first-unit (name_in c.args.definition.now) c.args.units.now c.loop-unit.unit-index (broken_name c.args.definition.now (readings_of c.args.units.now)) c.loop-unit.invariant c.unit-item.result c.loop-unit-test.true
    c.in-Some.place (sym c.in-Some.is ∙ c.name.ensures ∙ ap (λ (unit : Index). name_in c.args.definition.now unit.reading.now) c.unit-item.is)

pub loop-unit-preserved : goal.loop-unit-preserved
loop-unit-preserved c =
    later-unit (name_in c.args.definition.now) c.args.units.now c.loop-unit.unit-index (broken_name c.args.definition.now (readings_of c.args.units.now)) c.loop-unit.invariant c.unit-item.result c.loop-unit-test.true
    (sym c.in_default.is ∙ c.name.ensures ∙ ap (λ (unit : Index). name_in c.args.definition.now unit.reading.now) c.unit-item.is)
