use Rattle.serde_json.specs.View.{view}
use Rattle.dm_manifest.proofs.Steps.{answer_units, answer_fault}
use Rattle.dm_manifest.proofs.Lawful.{answer_lawful, answer_count}
use Rattle.dm_manifest.proofs.manifest.Goals as goal

pub returns-clause-units : goal.returns-clause-units
returns-clause-units c = answer_units c.args.bytes.now (view c.in_ok-root.root) c.read_units.result c.in_ok-root.ensures.value c.read_units.ensures

pub returns-clause-fault : goal.returns-clause-fault
returns-clause-fault c = answer_fault c.args.bytes.now (view c.in_ok-root.root) c.read_units.result c.in_ok-root.ensures.value c.read_units.ensures

pub returns-clause-lawful : goal.returns-clause-lawful
returns-clause-lawful c = answer_lawful (view c.in_ok-root.root) c.read_units.result c.read_units.ensures

pub returns-clause-count : goal.returns-clause-count
returns-clause-count c = answer_count (view c.in_ok-root.root) c.read_units.result c.read_units.ensures
