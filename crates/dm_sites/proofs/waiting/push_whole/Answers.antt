-- The last tree of the row is pushed.
use Rattle.std.proofs.Common.{[], map, refl, rules, ◌≡◌}
use Rattle.dm_tree.specs.Views.{view}
use Rattle.dm_sites.specs.Rows.{row}
use Rattle.dm_sites.specs.Seen.{seen}
use Rattle.dm_sites.specs.Sites.{whole}
use Rattle.dm_sites.proofs.WaitLemmas.{pops, popped-all, whole-last}
use Rattle.dm_sites.proofs.waiting.push_whole.Goals as goal

pub loop-tree-preserved : goal.loop-tree-preserved
loop-tree-preserved c types all =
    pops types all (map (whole c.args.constant c.args.fixed)) c.loop-tree.waiting.items c.push.new.self.items c.args.waiting.now.items c.loop-tree.row.items c.pop.new.self.items c.args.row.now.items
    c.in-Some.tree c.whole.result
    (whole-last types all c.args.constant c.args.fixed (row types c.pop.new.self.items) (view types c.in-Some.tree.now) (seen types all c.whole.result) (c.whole.ensures types all))
    c.in-Some.ensures.items c.in_ok-push.ensures.items (c.loop-tree.invariant types all)

pub returns-clause-places : goal.returns-clause-places
returns-clause-places c types all =
    let none : c.loop-tree.row.items ≡ [] = search rules in
    popped-all types all (map (whole c.args.constant c.args.fixed)) c.loop-tree.waiting.items c.args.waiting.now.items c.args.row.now.items c.loop-tree.row.items refl none (c.loop-tree.invariant types all)
