-- The first place of a unit is that of the first unit that has one.
use Rattle.std.proofs.Common.{sym, ap, ◌∙◌}
use Rattle.dm_rules.specs.declared.index.Index.{Index}
use Rattle.dm_rules.specs.Indexes.{readings_of}
use Rattle.dm_rules.specs.Rules.{gone_in, broken_gone}
use Rattle.dm_rules.proofs.UnitLemmas.{first-unit}
use Rattle.dm_rules.proofs.uses.broken_gone.Goals as goal

pub returns-in-Some : goal.returns-in-Some
returns-in-Some c =
    first-unit (gone_in c.args.definition.now) c.args.units.now c.loop-unit.unit-index (broken_gone c.args.definition.now (readings_of c.args.units.now)) c.loop-unit.invariant c.unit-item.result c.loop-unit-test.true
    c.in-Some.place (sym c.in-Some.is ∙ c.in_ok-place.ensures ∙ ap (λ (unit : Index). gone_in c.args.definition.now unit.reading.now) c.unit-item.is)
