use Rattle.std.proofs.Common.{ℕ, ◌+◌, List, ap, ◌∙◌, sym, arith, drop}
use Rattle.dm_parentheses.specs.Parentheses.{before_closing, index_from}
use Rattle.dm_expand.specs.Items.{Item}
use Rattle.dm_expand.specs.Shares.{signs_of}
use Rattle.dm_expand.proofs.StretchLemmas.{closing-start, closing-more, closing-found, closing-nowhere}
use Rattle.dm_expand.proofs.arguments.count_before_closing.Goals as goal

pub loop-count-init : goal.loop-count-init
loop-count-init c = (closing-start c.args.items.now, omega arith)

pub loop-count-preserved : goal.loop-count-preserved
loop-count-preserved c =
    let items : List Item = c.args.items.now in
    let i : ℕ = c.loop-count.count in (
      closing-more (before_closing 0 (signs_of items)) items c.loop-count.depth i c.index-items-count.result c.loop-count-test.true c.index-items-count.is c.loop-count.invariant.0 (sym c.if-is_closing.ensures)
          ∙ ap (λ d. index_from (i + 1) (before_closing d (signs_of (drop (i + 1) items)))) (sym c.depth_behind-depth.ensures.is),
      omega (arith, c.depth_behind-depth.ensures.near, c.loop-count.invariant.1),
    )

pub returns-then-is_closing : goal.returns-then-is_closing
returns-then-is_closing c =
    sym (closing-found _ c.args.items.now c.loop-count.depth c.loop-count.count c.index-items-count.result c.loop-count-test.true c.index-items-count.is c.loop-count.invariant.0 (sym c.if-is_closing.ensures))

pub returns : goal.returns
returns c = sym (closing-nowhere _ c.args.items.now c.loop-count.depth c.loop-count.count c.loop-count-test.false c.loop-count.invariant.0)
