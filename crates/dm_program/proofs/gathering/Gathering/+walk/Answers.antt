-- Each form adds what its parts add, one after the other.
use Rattle.std.proofs.Common.{◌≡◌, length, arith, rules, ap}
use denote.Param.Weighed.{most}
use Rattle.dm_tree.specs.declared.tree.Core.{size-Core}
use Rattle.dm_program.proofs.WalkLemmas.{at-locals, at-tree, at-trees, block-gathers, case-gathers, declare-gathers, default-gathers, do-gathers, for-gathers, full-gathers, if-gathers, on-ok, return-gathers, some-gathers, switch-gathers, tree-gathers, trees-more, trees-none, while-gathers}
use Rattle.dm_program.proofs.gathering.Gathering.+walk.Goals as goal

pub form-returns-in-Declare : goal.form-returns-in-Declare
form-returns-in-Declare t c =
    on-ok c.locals.result _ _
    (λ g. declare-gathers c.args.self.now c.locals.new.self c.args.form.now c.in-Declare.field-0 c.in-Declare.locals c.in-Declare.is
    (at-locals c.args.self.now c.locals.new.self c.in-Declare.locals c.items.result.now c.items.ensures g)) c.locals.ensures

pub form-returns-in-Block : goal.form-returns-in-Block
form-returns-in-Block t c =
    on-ok c.trees.result _ _
    (λ g. block-gathers c.args.self.now c.trees.new.self c.args.form.now c.in-Block.items c.in-Block.is
    (at-trees c.args.self.now c.trees.new.self c.in-Block.items c.items-in-Block.result.now c.items-in-Block.ensures g)) c.trees.ensures

pub form-returns-in-Full : goal.form-returns-in-Full
form-returns-in-Full t c =
    on-ok c.tree.result _ _
    (λ g. full-gathers c.args.self.now c.tree.new.self c.args.form.now c.in-Full.a c.in-Full.is (at-tree c.args.self.now c.tree.new.self c.in-Full.a c.get.result.now c.get.ensures g)) c.tree.ensures

pub form-returns-in-Default : goal.form-returns-in-Default
form-returns-in-Default t c =
    on-ok c.tree-in-Default.result _ _
    (λ g. default-gathers c.args.self.now c.tree-in-Default.new.self c.args.form.now c.in-Default.a c.in-Default.is (at-tree c.args.self.now c.tree-in-Default.new.self c.in-Default.a c.get-in-Default.result.now c.get-in-Default.ensures g)) c.tree-in-Default.ensures

pub form-returns-in-Return : goal.form-returns-in-Return
form-returns-in-Return t c = on-ok c.optional.result _ _ (λ g. return-gathers c.args.self.now c.optional.new.self c.args.form.now c.in-Return.a c.in-Return.is g) c.optional.ensures

pub form-returns-in_ok-tree-in-Switch : goal.form-returns-in_ok-tree-in-Switch
form-returns-in_ok-tree-in-Switch t c =
    let first = c.tree-in-Switch.new.self in
    let second = c.trees-in-Switch.new.self in
    on-ok c.trees-in-Switch.result _ _
    (λ g. switch-gathers c.args.self.now first second c.args.form.now c.in-Switch.a c.in-Switch.items c.in-Switch.is
    (at-tree c.args.self.now first c.in-Switch.a c.get-in-Switch.result.now c.get-in-Switch.ensures c.in_ok-tree-in-Switch.ensures)
    (at-trees first second c.in-Switch.items c.items-in-Switch.result.now c.items-in-Switch.ensures g))
    c.trees-in-Switch.ensures

pub form-returns-in_ok-tree-in-Case : goal.form-returns-in_ok-tree-in-Case
form-returns-in_ok-tree-in-Case t c =
    let first = c.tree-in-Case.new.self in
    let second = c.tree-in-Case-2.new.self in
    on-ok c.tree-in-Case-2.result _ _
    (λ g. case-gathers c.args.self.now first second c.args.form.now c.in-Case.a c.in-Case.b c.in-Case.is
    (at-tree c.args.self.now first c.in-Case.a c.get-in-Case.result.now c.get-in-Case.ensures c.in_ok-tree-in-Case.ensures) (at-tree first second c.in-Case.b c.get-in-Case-2.result.now c.get-in-Case-2.ensures g))
    c.tree-in-Case-2.ensures

pub form-returns-in_ok-tree-in-While : goal.form-returns-in_ok-tree-in-While
form-returns-in_ok-tree-in-While t c =
    let first = c.tree-in-While.new.self in
    let second = c.tree-in-While-2.new.self in
    on-ok c.tree-in-While-2.result _ _
    (λ g. while-gathers c.args.self.now first second c.args.form.now c.in-While.a c.in-While.b c.in-While.is
    (at-tree c.args.self.now first c.in-While.a c.get-in-While.result.now c.get-in-While.ensures c.in_ok-tree-in-While.ensures) (at-tree first second c.in-While.b c.get-in-While-2.result.now c.get-in-While-2.ensures g))
    c.tree-in-While-2.ensures

pub form-returns-in_ok-tree-in-Do : goal.form-returns-in_ok-tree-in-Do
form-returns-in_ok-tree-in-Do t c =
    let first = c.tree-in-Do.new.self in
    let second = c.tree-in-Do-2.new.self in
    on-ok c.tree-in-Do-2.result _ _
    (λ g. do-gathers c.args.self.now first second c.args.form.now c.in-Do.a c.in-Do.b c.in-Do.is
    (at-tree c.args.self.now first c.in-Do.a c.get-in-Do.result.now c.get-in-Do.ensures c.in_ok-tree-in-Do.ensures) (at-tree first second c.in-Do.b c.get-in-Do-2.result.now c.get-in-Do-2.ensures g))
    c.tree-in-Do-2.ensures

pub form-returns-in_ok-tree-in-If-2 : goal.form-returns-in_ok-tree-in-If-2
form-returns-in_ok-tree-in-If-2 t c =
    let first = c.tree-in-If.new.self in
    let second = c.tree-in-If-2.new.self in
    on-ok c.optional-in-If.result _ _
    (λ g. if-gathers c.args.self.now first second c.optional-in-If.new.self c.args.form.now c.in-If.a c.in-If.b c.in-If.c c.in-If.is
    (at-tree c.args.self.now first c.in-If.a c.get-in-If.result.now c.get-in-If.ensures c.in_ok-tree-in-If.ensures)
    (at-tree first second c.in-If.b c.get-in-If-2.result.now c.get-in-If-2.ensures c.in_ok-tree-in-If-2.ensures) g)
    c.optional-in-If.ensures

pub form-returns-in_ok-optional-in-For-3 : goal.form-returns-in_ok-optional-in-For-3
form-returns-in_ok-optional-in-For-3 t c =
    let third = c.optional-in-For-3.new.self in
    on-ok c.tree-in-For.result _ _
    (λ g. for-gathers c.args.self.now c.optional-in-For.new.self c.optional-in-For-2.new.self third c.tree-in-For.new.self c.args.form.now c.in-For.a c.in-For.b c.in-For.c c.in-For.body c.in-For.is
    c.in_ok-optional-in-For.ensures c.in_ok-optional-in-For-2.ensures c.in_ok-optional-in-For-3.ensures
    (at-tree third c.tree-in-For.new.self c.in-For.body c.get-in-For.result.now c.get-in-For.ensures g))
    c.tree-in-For.ensures

pub optional-returns-in-Some : goal.optional-returns-in-Some
optional-returns-in-Some t c =
    on-ok c.tree.result _ _
    (λ g. some-gathers c.args.self.now c.tree.new.self c.args.tree.now c.in-Some.tree c.in-Some.is (at-tree c.args.self.now c.tree.new.self c.in-Some.tree c.get.result.now c.get.ensures g)) c.tree.ensures

pub tree-returns : goal.tree-returns
tree-returns t c = on-ok c.form.result _ _ (λ g. tree-gathers c.args.self.now c.form.new.self c.args.tree.now g) c.form.ensures

pub trees-loop-tree-preserved : goal.trees-loop-tree-preserved
trees-loop-tree-preserved t c =
    let deep = ap (most size-Core) c.in-Some.ensures.cases.0 in
    let below = c.loop-tree.invariant.0 in (
      omega (arith, deep, below),
      λ made more. c.loop-tree.invariant.1 made
          (trees-more c.loop-tree.self c.tree.new.self made c.loop-tree.left.now c.in-Some.tree.now c.in-Some.rest.now c.in-Some.ensures.cases.0 c.in_ok-tree.ensures more),
    )

pub trees-returns : goal.trees-returns
trees-returns t c =
    let none : length c.loop-tree.left.now ≡ 0 = search rules in
    c.loop-tree.invariant.1 c.loop-tree.self (trees-none c.loop-tree.self c.loop-tree.left.now none)
