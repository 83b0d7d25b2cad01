use Rattle.std.proofs.Common.{◌≡◌, ◌+◌, sym, ◌∙◌, codes, subst, List, ℕ}
use Rattle.serde_json.specs.View.{view}
use Rattle.dm_manifest.specs.Paths.{unit_path, under}
use Rattle.dm_manifest.specs.Units.{folder_at}
use Rattle.dm_manifest.proofs.Each.{GoesOn, item_read, item_at_fault, all_read, IsMeant-along}
use Rattle.dm_manifest.proofs.Steps.{folder_at-name, passed_on}
use Rattle.dm_manifest.proofs.unit.each_folder.Goals as goal

pub loop-value-preserved : goal.loop-value-preserved
loop-value-preserved c =
    let path : List ℕ = under (unit_path c.args.unit) (codes "include") in
    let reads : folder_at path c.loop-value.folders (view c.value-item.result) ≡ _ = folder_at-name path c.loop-value.folders (view c.value-item.result) c.len.result c.len.ensures ∙ c.in_ok-folder.ensures in
    subst (λ (folders : List (List ℕ)). GoesOn (folder_at path) c.args.values.now (c.loop-value.value-index + 1) folders) (sym c.in_ok-push.ensures.ok)
    (item_read (folder_at path) c.args.values.now c.loop-value.value-index c.value-item.result c.loop-value.folders c.in_ok-folder.folder c.loop-value-test.true c.value-item.is c.loop-value.invariant reads)

pub returns-in_err-folder : goal.returns-in_err-folder
returns-in_err-folder c =
    let path : List ℕ = under (unit_path c.args.unit) (codes "include") in
    passed_on (λ folders. folders) c.from_residual.result c.in_err-folder.field-0.0 _ c.from_residual.ensures.1
    (item_at_fault (folder_at path) c.args.values.now c.loop-value.value-index c.value-item.result c.loop-value.folders c.in_err-folder.field-0.0 c.loop-value-test.true c.value-item.is c.loop-value.invariant
    (IsMeant-along c.in_err-folder.field-0.0 _ _ (folder_at-name path c.loop-value.folders (view c.value-item.result) c.len.result c.len.ensures) c.in_err-folder.ensures))

pub returns : goal.returns
returns c = all_read (folder_at (under (unit_path c.args.unit) (codes "include"))) c.args.values.now c.loop-value.value-index c.loop-value.folders c.loop-value-test.false c.loop-value.invariant
