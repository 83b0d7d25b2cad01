-- A node is put behind the place, and its operands are left to be put.
use Rattle.std.proofs.Common.{rules, ◌≡◌, ◌∷◌, [], ◌++◌, map, length, refl, sym, ap, subst, ◌∙◌, arith, Bor}
use Rattle.dm_tree.specs.declared.tree.Core.{Core}
use Rattle.dm_tree.specs.Views.{view}
use Rattle.dm_expression.specs.Operands.{cores_in}
use Rattle.dm_expression.specs.Waiting.{items_all, IsUnfolding}
use Rattle.dm_expression.proofs.PutLemmas.{no_types, one-node, less-left, at-first, map-both, map-twice, expressions-last}
use Rattle.dm_expression.proofs.trees.put.Goals as goal

abbrev now : Bor Core → Core
now one = one.now

pub loop-node-init : goal.loop-node-init
loop-node-init g c =
    subst (λ parts. IsUnfolding c.args.tree.now parts c.args.row.now c.args.row.now)
    (sym (ap (map now) (c.in_ok-push.ensures.items ∙ ap (λ xs. xs ++ c.args.tree ∷ []) c.new-parts.ensures.items)))
    (at-first c.args.tree.now c.args.row.now c.requires)

pub loop-node-smaller : goal.loop-node-smaller
loop-node-smaller g c =
    let core = c.in-Some.node.now in
    let xs = map now c.pop.new.self.items in
    let cores = cores_in c.open_operands-operands.result in
    let popped = ap (map now) c.in-Some.ensures.items ∙ map-both now c.pop.new.self.items (c.in-Some.node ∷ []) in
    let left : IsUnfolding c.args.tree.now (xs ++ core ∷ []) c.args.row.now c.loop-node.row = subst (λ parts. IsUnfolding c.args.tree.now parts c.args.row.now c.loop-node.row) popped c.loop-node.invariant in
    let expression = (expressions-last no_types xs core (left.expressions no_types)).1 in
    let less = less-left c.args.tree.now core xs cores expression (c.open_operands-operands.ensures.trees no_types) in
    let after = ap (λ all. length (items_all all)) (map-twice (view no_types) now c.push_all.new.parts.items ∙ ap (map (view no_types)) c.in_ok-count.ensures.parts) in
    let before = ap (λ all. length (items_all all)) (map-twice (view no_types) now c.loop-node.parts.items ∙ ap (map (view no_types)) popped) in
    omega (arith, less, after, before)

pub loop-node-preserved : goal.loop-node-preserved
loop-node-preserved g c =
    let xs = map now c.pop.new.self.items in
    let cores = cores_in c.open_operands-operands.result in
    let popped = ap (map now) c.in-Some.ensures.items ∙ map-both now c.pop.new.self.items (c.in-Some.node ∷ []) in
    subst (λ parts. IsUnfolding c.args.tree.now parts c.args.row.now c.put_behind.new.self) (sym c.in_ok-count.ensures.parts)
    (one-node c.args.tree.now c.in-Some.node.now xs cores _ c.in_ok-count.count c.args.row.now c.loop-node.row c.put_behind.new.self
    (subst (λ parts. IsUnfolding c.args.tree.now parts c.args.row.now c.loop-node.row) popped c.loop-node.invariant)
    c.open_operands-operands.ensures.trees c.open_operands-operands.ensures.known c.in_ok-count.ensures.count refl refl c.in_ok-put_behind.ensures)

pub returns : goal.returns
returns g c =
    let none : c.loop-node.parts.items ≡ [] = search rules in
    subst (λ parts. IsUnfolding c.args.tree.now parts c.args.row.now c.loop-node.row) (ap (map now) none) c.loop-node.invariant
