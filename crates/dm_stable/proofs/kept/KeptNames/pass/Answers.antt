-- It is a local, and its address is taken or not.
use Rattle.std.proofs.Common.{◌≡◌, true, false, ◌&&◌, not, List, ap, sym, ◌∙◌, rules}
use Rattle.std.specs.List.{list_any}
use Rattle.std.specs.Prelude.{slice_get}
use Rattle.dm_tree.specs.declared.unit.CoreUnit.{CoreUnit}
use Rattle.dm_tree.specs.Trees.{Tree}
use Rattle.dm_tree.specs.Views.{view, view_of_unit}
use Rattle.dm_effect.specs.Entities.{is_addressed, writes}
use Rattle.dm_effect.specs.Sequencing.{around}
use Rattle.dm_effect.specs.Stable.{is_scalar_local}
use Rattle.dm_stable.proofs.kept.KeptNames.pass.Goals as goal

pub returns-then-not-is_addressed : goal.returns-then-not-is_addressed
returns-then-not-is_addressed c =
    let types = c.args.self.now.types.now in
    let one = view_of_unit types c.args.self.now.unit.now in
    let d = c.args.object in
    let trees : List Tree = around c.args.self.now.at.now (view types c.args.self.now.full.now) in
    let scalar : is_scalar_local (slice_get one.declared d) ≡ true = sym c.is_scalar_local.ensures ∙ c.if-not-is_scalar_local.false in
    let same : c.args.self.now.objects.now ≡ c.args.self.now.unit.now = search rules in
    let unaddressed : is_addressed one d ≡ false = sym (c.is_addressed.ensures types ∙ ap (λ (unit : CoreUnit). is_addressed (view_of_unit types unit) d) same) ∙ c.if-not-is_addressed.true in
    ap not (c.is_written_around.ensures types)
    ∙ sym (ap (λ b. b && (not (is_addressed one d) && not (list_any (writes d) trees))) scalar ∙ ap (λ b. not b && not (list_any (writes d) trees)) unaddressed)
