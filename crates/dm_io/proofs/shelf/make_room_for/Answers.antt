-- The first file of the name gets room, and no other.
use Rattle.std.proofs.Common.{sym, subst, ◌∙◌, IsSome, arith, rules}
use Rattle.dm_io.proofs.Shelves.{some_position, contents-set_same, room_at-set, room_at-old, room_at-other}
use Rattle.dm_io.proofs.shelf.make_room_for.Goals as goal

pub unwrap-position-requires : goal.unwrap-position-requires
unwrap-position-requires c = subst IsSome (sym c.position_of.ensures) (some_position c.args.files.now c.args.name.now c.requires.there)

pub returns-in_err-make_room-clause-err : goal.returns-in_err-make_room-clause-err
returns-in_err-make_room-clause-err c =
    let found = sym c.position_of.ensures ∙ c.unwrap-position.ensures in
    let holds = c.in_err-make_room.ensures.err in
    let stays = room_at-set c.args.files.now c.args.name.now c.unwrap-position.result c.index-files-position.result c.make_room.new.self found holds.0
    ∙ holds.2 ∙ sym (room_at-old c.args.files.now c.args.name.now c.unwrap-position.result c.index-files-position.result c.make_room.new.self found holds.0) in
    search rules

pub returns-in_err-make_room-clause-files : goal.returns-in_err-make_room-clause-files
returns-in_err-make_room-clause-files c =
    let found = sym c.position_of.ensures ∙ c.unwrap-position.ensures in
    let holds = c.in_err-make_room.ensures.err in
    contents-set_same c.args.files.now c.args.name.now c.unwrap-position.result c.index-files-position.result c.make_room.new.self found holds.0 holds.1

pub returns-in_err-make_room-clause-rooms : goal.returns-in_err-make_room-clause-rooms
returns-in_err-make_room-clause-rooms c =
    let found = sym c.position_of.ensures ∙ c.unwrap-position.ensures in
    let holds = c.in_err-make_room.ensures.err in
    room_at-other c.args.files.now c.args.name.now c.unwrap-position.result c.index-files-position.result c.make_room.new.self found holds.0

pub returns-clause-ready : goal.returns-clause-ready
returns-clause-ready c =
    let found = sym c.position_of.ensures ∙ c.unwrap-position.ensures in
    let holds = c.in_ok-make_room.ensures.ok in
    let room = room_at-set c.args.files.now c.args.name.now c.unwrap-position.result c.index-files-position.result c.make_room.new.self found holds.0 ∙ holds.2 in
    omega (arith, room)

pub returns-clause-files : goal.returns-clause-files
returns-clause-files c =
    let found = sym c.position_of.ensures ∙ c.unwrap-position.ensures in
    let holds = c.in_ok-make_room.ensures.ok in
    contents-set_same c.args.files.now c.args.name.now c.unwrap-position.result c.index-files-position.result c.make_room.new.self found holds.0 holds.1

pub returns-clause-rooms : goal.returns-clause-rooms
returns-clause-rooms c =
    let found = sym c.position_of.ensures ∙ c.unwrap-position.ensures in
    let holds = c.in_ok-make_room.ensures.ok in
    room_at-other c.args.files.now c.args.name.now c.unwrap-position.result c.index-files-position.result c.make_room.new.self found holds.0
