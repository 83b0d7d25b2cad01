-- The first unit that has an expansion has the first run.
use Rattle.std.proofs.Common.{sym, ap, ◌∙◌}
use Rattle.dm_meanings.specs.declared.meanings.Meanings.{Meanings}
use Rattle.dm_meanings.specs.First.{reading_of, readings_of}
use Rattle.dm_meanings.specs.Types as types
use Rattle.dm_meanings.proofs.MetLemmas.{no-run, run-behind, run-here, run-later}
use Rattle.dm_meanings.proofs.types.first_run.Goals as goal

pub loop-one-preserved : goal.loop-one-preserved
loop-one-preserved c =
    run-later c.args.definition.now c.args.units.now c.loop-one.one-index (types.first_run c.args.definition.now (readings_of c.args.units.now)) c.loop-one.invariant
    c.one-item.result c.loop-one-test.true c.in-Some.unit (sym c.one-item.is ∙ c.in-Some.is) (sym c.if-is_used.false ∙ c.is_used.ensures)

pub loop-one-preserved-in_default : goal.loop-one-preserved-in_default
loop-one-preserved-in_default c =
    run-behind c.args.definition.now c.args.units.now c.loop-one.one-index (types.first_run c.args.definition.now (readings_of c.args.units.now)) c.loop-one.invariant
    c.one-item.result c.loop-one-test.true (sym c.one-item.is ∙ c.in_default.is)

pub returns-then-is_used : goal.returns-then-is_used
returns-then-is_used c =
    c.first_met.ensures
    ∙ run-here c.args.definition.now c.args.units.now c.loop-one.one-index (types.first_run c.args.definition.now (readings_of c.args.units.now)) c.loop-one.invariant
    c.one-item.result c.loop-one-test.true c.in-Some.unit (sym c.one-item.is ∙ c.in-Some.is) (sym c.if-is_used.true ∙ c.is_used.ensures)

pub returns : goal.returns
returns c = sym (no-run c.args.definition.now c.args.units.now c.loop-one.one-index (types.first_run c.args.definition.now (readings_of c.args.units.now)) c.loop-one.invariant c.loop-one-test.false)
