-- An operator on an object does what it does with it.
use Rattle.std.proofs.Common.{[], ◌∷◌, map, sym, ◌∙◌}
use Rattle.dm_type.specs.CTypes.{void}
use Rattle.dm_type.specs.Tables.{type_of}
use Rattle.dm_meaning.specs.Operations.{designates}
use Rattle.dm_memory.specs.Blocks.{view_of_blocks}
use Rattle.dm_memory.specs.Scenes.{scene_in, world_in}
use Rattle.dm_operate.specs.Evaluations.{view_of_operands}
use Rattle.dm_value.specs.Places.{view_of_at}
use Rattle.dm_operate.proofs.OperatorLemmas.{operate-place, with_place}
use Rattle.dm_operate.proofs.perform.on_place.Goals as goal

pub returns-in_ok-perform_on_place-in-Some-clause-did : goal.returns-in_ok-perform_on_place-in-Some-clause-did
returns-in_ok-perform_on_place-in-Some-clause-did c =
    let table = c.args.layout.now in
    let kind = type_of table c.args.kind in
    let locks = map view_of_at c.args.locks.now in
    let operands = view_of_operands table c.args.operands in
    λ label stands names beside.
    let scene = scene_in table beside in
    let world = world_in (view_of_blocks table c.args.blocks.now) beside in
    c.in_ok-perform_on_place-in-Some.ensures.did label void stands beside
    ∙ operate-place scene world locks kind c.args.own label stands (record { kind = void; result = designates (view_of_at c.in-Some.at.now) } ∷ [])
    ∙ sym (operate-place scene world locks kind c.args.own label stands operands ∙ c.in-Some.ensures table (with_place scene world locks kind c.args.own))

pub returns-in-None-clause-did : goal.returns-in-None-clause-did
returns-in-None-clause-did c =
    let table = c.args.layout.now in
    let kind = type_of table c.args.kind in
    let locks = map view_of_at c.args.locks.now in
    let operands = view_of_operands table c.args.operands in
    λ label stands names beside.
    let scene = scene_in table beside in
    let world = world_in (view_of_blocks table c.args.blocks.now) beside in
    c.ill.ensures world
    ∙ sym (operate-place scene world locks kind c.args.own label stands operands ∙ c.in-None.ensures table (with_place scene world locks kind c.args.own))
