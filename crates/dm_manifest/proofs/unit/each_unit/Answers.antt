use Rattle.std.proofs.Common.{◌≡◌, ◌+◌, sym, ◌∙◌, ap, subst, List, Ok}
use Rattle.serde_json.specs.View.{view}
use Rattle.dm_token.specs.declared.unit.Unit.{Unit as Source}
use Rattle.dm_manifest.specs.Units.{new_unit_at}
use Rattle.dm_manifest.proofs.Each.{GoesOn, item_read, item_at_fault, all_read, IsMeant-along}
use Rattle.dm_manifest.proofs.Steps.{passed_on}
use Rattle.dm_manifest.proofs.unit.each_unit.Goals as goal

pub loop-value-preserved : goal.loop-value-preserved
loop-value-preserved c =
    let reads : new_unit_at c.loop-value.units (view c.value-item.result) ≡ Ok c.in_ok-unit.unit = ap (λ units. new_unit_at units (view c.value-item.result)) (sym c.items.ensures) ∙ c.in_ok-unit.ensures in
    subst (λ (units : List Source). GoesOn new_unit_at c.args.values.now (c.loop-value.value-index + 1) units) (sym c.in_ok-push.ensures.ok)
    (item_read new_unit_at c.args.values.now c.loop-value.value-index c.value-item.result c.loop-value.units c.in_ok-unit.unit c.loop-value-test.true c.value-item.is c.loop-value.invariant reads)

pub returns-in_err-unit : goal.returns-in_err-unit
returns-in_err-unit c =
    passed_on (λ units. units) c.from_residual.result c.in_err-unit.field-0.0 _ c.from_residual.ensures.1
    (item_at_fault new_unit_at c.args.values.now c.loop-value.value-index c.value-item.result c.loop-value.units c.in_err-unit.field-0.0 c.loop-value-test.true c.value-item.is c.loop-value.invariant
    (IsMeant-along c.in_err-unit.field-0.0 _ _ (ap (λ units. new_unit_at units (view c.value-item.result)) (sym c.items.ensures)) c.in_err-unit.ensures))

pub returns : goal.returns
returns c = all_read new_unit_at c.args.values.now c.loop-value.value-index c.loop-value.units c.loop-value-test.false c.loop-value.invariant
