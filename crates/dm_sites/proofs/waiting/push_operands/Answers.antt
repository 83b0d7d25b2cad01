-- The last tree of the row is pushed; its number is that of the trees before it.
use Rattle.std.proofs.Common.{[], ℕ, length, refl, rules, ap, ◌∙◌, ◌≡◌}
use Rattle.dm_tree.specs.Trees.{label_of, spans_of}
use Rattle.dm_tree.specs.Views.{view}
use Rattle.dm_sites.specs.Seen.{path_at, seen}
use Rattle.dm_sites.specs.Sites.{operand_site}
use Rattle.dm_sites.specs.Walks.{at_path, operands_at}
use Rattle.dm_sites.proofs.WaitLemmas.{pops, popped-all, operand-last}
use Rattle.dm_sites.proofs.waiting.push_operands.Goals as goal

pub loop-tree-preserved : goal.loop-tree-preserved
loop-tree-preserved c types all =
    let above = seen types all c.args.above.now in
    let path = path_at all c.args.site in
    let count : c.len.result ≡ length c.pop.new.self.items = search rules in
    pops types all (operands_at path above) c.loop-tree.waiting.items c.push.new.self.items c.args.waiting.now.items c.loop-tree.row.items c.pop.new.self.items c.args.row.now.items
    c.in-Some.tree c.operand.result
    (operand-last types all path above c.pop.new.self.items (view types c.in-Some.tree.now) (seen types all c.operand.result)
    (c.operand.ensures types all ∙ ap (λ (n : ℕ). operand_site (at_path path above) (label_of above.tree) (spans_of above.tree) n (view types c.in-Some.tree.now)) count))
    c.in-Some.ensures.items c.in_ok-push.ensures.items (c.loop-tree.invariant types all)

pub returns-clause-places : goal.returns-clause-places
returns-clause-places c types all =
    let none : c.loop-tree.row.items ≡ [] = search rules in
    popped-all types all (operands_at (path_at all c.args.site) (seen types all c.args.above.now)) c.loop-tree.waiting.items c.args.waiting.now.items c.args.row.now.items c.loop-tree.row.items refl none
    (c.loop-tree.invariant types all)
