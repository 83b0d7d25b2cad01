-- It acts, or all round it is quiet, or it is steady.
use Rattle.std.proofs.Common.{List, ap, sym, ◌∙◌}
use Rattle.dm_tree.specs.declared.unit.CoreUnit.{CoreUnit}
use Rattle.dm_tree.specs.Trees.{Tree}
use Rattle.dm_tree.specs.Views.{view, view_of_unit}
use Rattle.dm_effect.specs.Sequencing.{around}
use Rattle.dm_effect.specs.Stable.{is_steady}
use Rattle.dm_stable.proofs.StabilityLemmas.{acting, quiet, steady}
use Rattle.dm_stable.proofs.stability.is_stable.Goals as goal

pub returns-then-not-is_pure : goal.returns-then-not-is_pure
returns-then-not-is_pure c =
    let types = c.args.types.now in
    sym (acting (view_of_unit types c.args.quiet.now) (around c.args.at.now (view types c.args.full.now)) (view types c.args.argument.now) (sym (c.is_pure.ensures types) ∙ c.if-not-is_pure.true))

pub returns-then-are_quiet_around : goal.returns-then-are_quiet_around
returns-then-are_quiet_around c =
    let types = c.args.types.now in
    sym (quiet (view_of_unit types c.args.quiet.now) (around c.args.at.now (view types c.args.full.now)) (view types c.args.argument.now) (sym (c.is_pure.ensures types) ∙ c.if-not-is_pure.false)
    (sym (c.are_quiet_around.ensures types) ∙ c.if-are_quiet_around.true))

pub returns : goal.returns
returns c =
    let types = c.args.types.now in
    let trees : List Tree = around c.args.at.now (view types c.args.full.now) in
    let argument : Tree = view types c.args.argument.now in
    c.has_steady_leaves.ensures types
    ∙ (ap (λ (unit : CoreUnit). is_steady (view_of_unit types unit) trees argument) c.unit.ensures
    ∙ sym (steady (view_of_unit types c.args.quiet.now) trees argument (sym (c.is_pure.ensures types) ∙ c.if-not-is_pure.false) (sym (c.are_quiet_around.ensures types) ∙ c.if-are_quiet_around.false)))
