-- A token more, and the end.
use Rattle.std.proofs.Common.{◌∙◌, ◌++◌, sym, ap, ap₂, arith}
use Rattle.dm_expanding.proofs.ListingSteps.{listed_behind-end, listed_behind-token}
use Rattle.dm_expanding.proofs.listing.listing.Goals as goal

pub loop-token-preserved : goal.loop-token-preserved
loop-token-preserved c = record {
  whole =
      listed_behind-token c.args.expansions.now c.loop-token.before c.in-Some.others.now c.loop-token.token-index c.token-item.result c.loop-token.text.items
      c.extend_from_slice-in-loop-token.new.self.items _ c.root_of-in-loop-token.result.1 (omega arith) c.token-item.is c.root_of-in-loop-token.ensures.place
      (c.in_ok-extend_from_slice-2.ensures.items ∙ ap₂ ◌++◌ c.in_ok-append_gap.ensures c.bytes-in-loop-token.ensures) c.loop-token.invariant.whole;
  cursor = c.root_of-in-loop-token.ensures.cursor;
}

pub returns : goal.returns
returns c =
    c.in_ok-push.ensures.items
    ∙ ap (λ t. c.loop-token.text.items ++ t)
    (sym (listed_behind-end c.args.expansions.now c.loop-token.before c.in-Some.others.now c.loop-token.token-index (omega arith)))
    ∙ c.loop-token.invariant.whole
