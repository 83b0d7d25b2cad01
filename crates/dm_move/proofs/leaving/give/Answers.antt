-- The result stands in the node's place.
use Rattle.std.proofs.Common.{◌+◌, length}
use Rattle.dm_expression.specs.Given.{lock_list}
use Rattle.dm_move.proofs.SettleLemmas.{fits-given, goes-on, stands-given}
use Rattle.dm_move.proofs.leaving.give.Goals as goal

pub returns : goal.returns
returns c = λ table lacking use_fits is_type.
    let before = c.args.ongoing.now.expression in
    let after = c.give.new.self in
    let locks = c.args.locks in
    let room = c.requires.room in
    goes-on table c.args.ongoing.now after _ use_fits
    (stands-given table before locks room lacking after c.args.operand c.args.lock c.in_ok-give.ensures.row c.in_ok-give.ensures.locks)
    (fits-given table before locks room lacking after c.args.operand (locks + length (lock_list c.args.lock)) is_type c.in_ok-give.ensures.row)
