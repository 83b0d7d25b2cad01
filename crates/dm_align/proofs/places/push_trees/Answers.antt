-- One more is listed.
use Rattle.std.proofs.Common.{rules, ◌++◌, List, Bor, map, append-nil, sym, ap, ◌∙◌}
use Rattle.std.proofs.lemmas.List.{nil_from_length}
use Rattle.dm_tree.specs.declared.tree.Core.{Core}
use Rattle.dm_tree.specs.Views.{view}
use Rattle.dm_agree.specs.Parts.{nows}
use Rattle.dm_align.proofs.PlaceLemmas.{one-listed}
use Rattle.dm_align.proofs.places.push_trees.Goals as goal

pub loop-tree-preserved : goal.loop-tree-preserved
loop-tree-preserved c types =
    ap (λ (items : List (Bor Core)). map (view types) (nows items) ++ map (view types) c.in-Some.rest.now) c.in_ok-push.ensures.items
    ∙ (one-listed types c.loop-tree.trees.items c.in-Some.tree c.in-Some.rest.now
    ∙ (ap (λ (left : List Core). map (view types) (nows c.loop-tree.trees.items) ++ map (view types) left) (sym c.in-Some.ensures.cases.0) ∙ c.loop-tree.invariant types))

pub returns : goal.returns
returns c types =
    let none = nil_from_length c.loop-tree.left.now (search rules) in
    sym (append-nil (map (view types) (nows c.loop-tree.trees.items)))
    ∙ (ap (λ (left : List Core). map (view types) (nows c.loop-tree.trees.items) ++ map (view types) left) (sym none) ∙ c.loop-tree.invariant types)
