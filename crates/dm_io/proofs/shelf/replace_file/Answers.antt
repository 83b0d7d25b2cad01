-- The first file of the name is changed, and no other.
use Rattle.std.proofs.Common.{get_or, refl, sym, ap, subst, ◌∙◌, IsSome, arith}
use Rattle.std.specs.FinMap as finite
use Rattle.dm_io.specs.Stored.{contents}
use Rattle.dm_io.proofs.Shelves.{some_position, contents-set, rooms_stay, room_at-old}
use Rattle.dm_io.proofs.shelf.replace_file.Goals as goal

pub unwrap-position-requires : goal.unwrap-position-requires
unwrap-position-requires c = subst IsSome (sym c.position_of.ensures) (some_position c.args.files.now c.args.name.now c.requires.there)

pub replace-requires : goal.replace-requires
replace-requires c =
    let found = sym c.position_of.ensures ∙ c.unwrap-position.ensures in
    let room = room_at-old c.args.files.now c.args.name.now c.unwrap-position.result c.index-files-position.result (get_or c.args.files.now c.unwrap-position.result c.index-files-position.result) found refl in
    omega (arith, room)

pub returns-clause-files : goal.returns-clause-files
returns-clause-files c =
    let found = sym c.position_of.ensures ∙ c.unwrap-position.ensures in
    let holds = c.replace.ensures in
    contents-set c.args.files.now c.args.name.now c.unwrap-position.result c.index-files-position.result c.replace.new.self found holds.0
    ∙ ap (finite.insert (contents c.args.files.now) c.args.name.now) holds.1

pub returns-clause-rooms : goal.returns-clause-rooms
returns-clause-rooms c =
    let found = sym c.position_of.ensures ∙ c.unwrap-position.ensures in
    let holds = c.replace.ensures in
    rooms_stay c.args.files.now c.args.name.now c.unwrap-position.result c.index-files-position.result c.replace.new.self found holds.0 holds.2
