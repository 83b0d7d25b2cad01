-- The operand stands in the node's place, and the node waits for it.
use Rattle.dm_move.proofs.SettleLemmas.{fits-picked, goes-on, stands-picked}
use Rattle.dm_move.proofs.leaving.pick.Goals as goal

pub returns : goal.returns
returns c = λ table doing kind place lacking use_fits outer_fits inner_fits opens is.
    let before = c.args.ongoing.now.expression in
    let middle = c.release.new.self in
    let after = c.pick.new.self in
    let locks = c.args.locks in
    let room = c.requires.room in
    goes-on table c.args.ongoing.now after _ use_fits
    (stands-picked table before locks room lacking middle after c.args.waiting c.args.operand.now doing kind place opens is c.in_ok-release.ensures.row c.in_ok-release.ensures.locks
    c.in_ok-pick.ensures.row c.pick.ensures.locks)
    (fits-picked table before locks room lacking middle after c.args.waiting c.args.operand.now outer_fits inner_fits c.in_ok-release.ensures.row c.in_ok-pick.ensures.row)
