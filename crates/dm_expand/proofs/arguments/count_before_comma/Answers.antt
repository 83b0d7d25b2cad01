use Rattle.std.proofs.Common.{ℕ, ◌+◌, List, ap, ◌∙◌, sym, arith, take, drop}
use Rattle.dm_expand.specs.Items.{Item}
use Rattle.dm_expand.specs.Arguments as arguments
use Rattle.dm_expand.specs.Views.{in_front}
use Rattle.dm_expand.proofs.ArgumentLemmas.{in_front-nothing, unseparated-more, unseparated-last, separated-at}
use Rattle.dm_expand.proofs.arguments.count_before_comma.Goals as goal

pub loop-count-init : goal.loop-count-init
loop-count-init c = (sym (in_front-nothing c.args.left 0 c.args.items.now), omega arith)

pub loop-count-preserved : goal.loop-count-preserved
loop-count-preserved c =
    let items : List Item = c.args.items.now in
    let i : ℕ = c.loop-count.count in
    let item : Item = c.index-items-count.result in (
      unseparated-more (arguments.separated c.args.left 0 items) items c.args.left c.loop-count.depth i item c.loop-count-test.true c.index-items-count.is c.loop-count.invariant.0 (sym c.if-ends_argument.ensures)
          ∙ ap (λ d. in_front (take (i + 1) items) (arguments.separated c.args.left d (drop (i + 1) items))) (sym c.depth_behind-depth.ensures.is),
      omega (arith, c.depth_behind-depth.ensures.near, c.loop-count.invariant.1),
    )

pub returns-then-ends_argument : goal.returns-then-ends_argument
returns-then-ends_argument c = (
  c.loop-count-test.true,
  separated-at (arguments.separated c.args.left 0 c.args.items.now) c.args.items.now c.args.left c.loop-count.depth c.loop-count.count c.index-items-count.result c.loop-count-test.true c.index-items-count.is c.loop-count.invariant.0 (sym c.if-ends_argument.ensures),
)

pub returns : goal.returns
returns c = unseparated-last _ c.args.items.now c.args.left c.loop-count.depth c.loop-count.count c.loop-count-test.false c.loop-count.invariant.0
