use Rattle.std.proofs.Common.{sym, ◌∙◌, ap, [], arith}
use Rattle.serde_json.specs.View.{view, items_view}
use Rattle.dm_manifest.specs.Values.{each_of}
use Rattle.dm_manifest.specs.Units.{new_unit_at}
use Rattle.dm_manifest.proofs.Steps.{units_of-few, units_of-many, manifest_of-units, Gives-along}
use Rattle.dm_manifest.proofs.unit.read_units.Goals as goal

pub returns-then-len-gt-MOST_UNITS : goal.returns-then-len-gt-MOST_UNITS
returns-then-len-gt-MOST_UNITS c =
    manifest_of-units (view c.args.root.now) _ (items_view c.in_ok-values.values.now.items) c.in_ok-check_root.ensures c.in_ok-values.ensures
    ∙ units_of-many c.in_ok-values.values.now.items (omega arith)

pub returns : goal.returns
returns c =
    Gives-along (λ units. units) c.each_unit.result _ _
    (manifest_of-units (view c.args.root.now) _ (items_view c.in_ok-values.values.now.items) c.in_ok-check_root.ensures c.in_ok-values.ensures
    ∙ units_of-few c.in_ok-values.values.now.items (omega arith))
    (Gives-along (λ units. units) c.each_unit.result _ _ (ap (λ values. each_of new_unit_at [] (items_view values)) (sym c.as_slice.ensures.value)) c.each_unit.ensures)
