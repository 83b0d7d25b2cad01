-- The locks of the operands are gone, and the result stands in the node's place.
use Rattle.dm_move.proofs.SettleLemmas.{fits-unlocked, goes-on, stands-unlocked}
use Rattle.dm_move.proofs.leaving.give_unlocked.Goals as goal

pub returns : goal.returns
returns c = λ table lacking use_fits is_type.
    let before = c.args.ongoing.now.expression in
    let middle = c.release.new.self in
    let after = c.give.new.self in
    let locks = c.args.locks in
    let room = c.requires.room in
    goes-on table c.args.ongoing.now after _ use_fits
    (stands-unlocked table before locks room lacking middle after c.args.operand c.in_ok-release.ensures.row c.in_ok-release.ensures.locks c.in_ok-give.ensures.row c.in_ok-give.ensures.locks)
    (fits-unlocked table before locks room lacking middle after c.args.operand is_type c.in_ok-release.ensures.row c.in_ok-give.ensures.row)
