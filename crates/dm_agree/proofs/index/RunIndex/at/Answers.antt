-- By the extents of the tree.
use Rattle.std.proofs.Common.{◌++◌, List, flat_map, Bor, sym, ap, ◌∙◌}
use Rattle.dm_runs.specs.declared.run.Run.{Run}
use Rattle.dm_tree.specs.Views.{view}
use Rattle.dm_agree.specs.Runs.{runs_in}
use Rattle.dm_agree.specs.Standing.{narrowing, runs_with}
use Rattle.dm_agree.proofs.StandingLemmas.{no-extents, all-extents}
use Rattle.dm_agree.proofs.index.RunIndex.at.Goals as goal

pub returns-then-not-is_value : goal.returns-then-not-is_value
returns-then-not-is_value c types =
    ap runs_in c.new-found.ensures.items
    ∙ sym (ap (flat_map (runs_with c.args.self.now)) (no-extents (view types c.args.tree.now) (c.is_value.ensures types ∙ c.if-not-is_value.true)))

pub returns : goal.returns
returns c types =
    let tree = c.args.tree.now in
    let W = runs_with c.args.self.now in
    c.in_ok-push_narrowing.ensures
    ∙ (ap (λ (before : List (Bor Run)). runs_in before ++ flat_map W (narrowing tree.inner c.pairs.result)) c.new-found.ensures.items
    ∙ (ap (flat_map W) (c.pairs.ensures types ∙ sym (all-extents (view types tree) (c.is_value.ensures types ∙ c.if-not-is_value.false)))))
