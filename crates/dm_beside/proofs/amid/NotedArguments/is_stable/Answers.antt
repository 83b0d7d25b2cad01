-- It acts, or all round it is quiet, or it is steady.
use Rattle.std.proofs.Common.{sym, ◌∙◌}
use Rattle.dm_tree.specs.Views.{view}
use Rattle.dm_effect.specs.Sequencing.{around}
use Rattle.dm_beside.specs.Amid.{run_at, unit_at}
use Rattle.dm_beside.proofs.AmidLemmas.{acting, quiet, steady}
use Rattle.dm_beside.proofs.amid.NotedArguments.is_stable.Goals as goal

pub returns-then-not-is_pure : goal.returns-then-not-is_pure
returns-then-not-is_pure c =
    let it = c.args.self.now in
    let types = it.types.now in
    let site = run_at types it.sites.now it.run.now in
    sym (acting (unit_at types it.sites.now) (around site.path site.full) (view types c.args.argument.now) (sym (c.is_pure.ensures types) ∙ c.if-not-is_pure.true))

pub returns-then-self : goal.returns-then-self
returns-then-self c =
    let it = c.args.self.now in
    let types = it.types.now in
    let site = run_at types it.sites.now it.run.now in
    sym (quiet (unit_at types it.sites.now) (around site.path site.full) (view types c.args.argument.now) (sym (c.is_pure.ensures types) ∙ c.if-not-is_pure.false) (sym it.calmly ∙ c.if-self.true))

pub returns : goal.returns
returns c =
    let it = c.args.self.now in
    let types = it.types.now in
    let site = run_at types it.sites.now it.run.now in
    c.has_steady_leaves.ensures types
    ∙ sym (steady (unit_at types it.sites.now) (around site.path site.full) (view types c.args.argument.now) (sym (c.is_pure.ensures types) ∙ c.if-not-is_pure.false) (sym it.calmly ∙ c.if-self.false))
