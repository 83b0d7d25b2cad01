-- It acts, or all round it is quiet, or it is steady.
use Rattle.std.proofs.Common.{List, ap, sym, ◌∙◌}
use Rattle.dm_tree.specs.declared.unit.CoreUnit.{CoreUnit}
use Rattle.dm_tree.specs.Trees.{Tree}
use Rattle.dm_tree.specs.Views.{view, view_of_unit}
use Rattle.dm_effect.specs.Sequencing.{around}
use Rattle.dm_effect.specs.Stable.{is_steady}
use Rattle.dm_stable.proofs.StabilityLemmas.{acting, quiet, steady}
use Rattle.dm_stable.proofs.stability.is_stable_where.Goals as goal

pub returns-then-not-pure : goal.returns-then-not-pure
returns-then-not-pure c =
    let types = c.args.types.now in
    sym (acting (view_of_unit types c.args.objects.now) (around c.args.at.now (view types c.args.full.now)) (view types c.args.argument.now) (sym (c.is_pure-pure.ensures types) ∙ c.if-not-pure.true))

pub returns-then-calm : goal.returns-then-calm
returns-then-calm c =
    let types = c.args.types.now in
    sym (quiet (view_of_unit types c.args.objects.now) (around c.args.at.now (view types c.args.full.now)) (view types c.args.argument.now) (sym (c.is_pure-pure.ensures types) ∙ c.if-not-pure.false)
    (sym c.requires.calm ∙ c.if-calm.true))

pub returns : goal.returns
returns c =
    let types = c.args.types.now in
    let trees : List Tree = around c.args.at.now (view types c.args.full.now) in
    let argument : Tree = view types c.args.argument.now in
    c.has_steady_leaves.ensures types
    ∙ (ap (λ (unit : CoreUnit). is_steady (view_of_unit types unit) trees argument) c.unit.ensures
    ∙ sym (steady (view_of_unit types c.args.objects.now) trees argument (sym (c.is_pure-pure.ensures types) ∙ c.if-not-pure.false) (sym c.requires.calm ∙ c.if-calm.false)))
