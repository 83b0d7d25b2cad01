use Rattle.std.proofs.Common.{sym, ◌∙◌, ap, Err}
use Rattle.serde_json.specs.View.{view}
use Rattle.dm_manifest.specs.declared.fault.ManifestFault.TheVariants.{Twice}
use Rattle.dm_manifest.proofs.Steps.{new_unit_at-by}
use Rattle.dm_manifest.proofs.unit.new_unit.Goals as goal

pub returns-then-contains : goal.returns-then-contains
returns-then-contains c =
    new_unit_at-by c.args.before.now (view c.args.value.now) c.in_ok-unit.unit _ c.in_ok-unit.ensures (sym c.contains.ensures.value ∙ c.if-contains.true)
    ∙ ap (λ path. Err (Twice path)) (sym c.in_ok-unit_path.ensures)

pub returns : goal.returns
returns c = new_unit_at-by c.args.before.now (view c.args.value.now) c.in_ok-unit.unit _ c.in_ok-unit.ensures (sym c.contains.ensures.value ∙ c.if-contains.false)
