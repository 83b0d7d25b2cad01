-- What the operator makes of the value stands in its place.
use Rattle.std.proofs.Common.{map, subst}
use Rattle.dm_type.specs.Tables.{type_of}
use Rattle.dm_meaning.specs.Memory.{contents_at}
use Rattle.dm_meaning.specs.Operations.{updated}
use Rattle.dm_memory.specs.Blocks.{view_of_blocks}
use Rattle.dm_memory.specs.Scenes.{scene_in, world_in}
use Rattle.dm_operate.specs.Replacements.{Is}
use Rattle.dm_value.specs.Places.{view_of_at}
use Rattle.dm_value.specs.Views.{view_of_value}
use Rattle.dm_operate.proofs.StoreLemmas.{replace-breaks, replace-gives}
use Rattle.dm_operate.proofs.stores.update.Goals as goal

pub returns-in-Some-clause-did : goal.returns-in-Some-clause-did
returns-in-Some-clause-did c =
    let table = c.args.layout.now in
    let kind = type_of table c.args.kind in
    let at = view_of_at c.args.at.now in
    let locks = map view_of_at c.args.locks.now in
    let memory = view_of_blocks table c.args.blocks.now in
    λ beside.
    let scene = scene_in table beside in
    let world = world_in memory beside in
    let right = view_of_value c.args.right.now in
    let meant = updated scene world kind c.args.op (type_of table c.args.works) (contents_at memory at) right in
    let is : Is c.in_ok-made.made meant =
    subst (λ object. Is c.in_ok-made.made (updated scene world kind c.args.op (type_of table c.args.works) object right)) (c.in_ok-object.ensures table) (c.in_ok-made.ensures beside) in
    replace-breaks scene world locks kind at meant c.why_not.result c.in-Some.cause meant.value (c.why_not.ensures meant.causes is.cause) c.in-Some.is

pub returns-in_ok-did-in-None-clause-did : goal.returns-in_ok-did-in-None-clause-did
returns-in_ok-did-in-None-clause-did c =
    let table = c.args.layout.now in
    let kind = type_of table c.args.kind in
    let at = view_of_at c.args.at.now in
    let locks = map view_of_at c.args.locks.now in
    let memory = view_of_blocks table c.args.blocks.now in
    λ beside.
    let scene = scene_in table beside in
    let world = world_in memory beside in
    let right = view_of_value c.args.right.now in
    let meant = updated scene world kind c.args.op (type_of table c.args.works) (contents_at memory at) right in
    let is : Is c.in_ok-made.made meant =
    subst (λ object. Is c.in_ok-made.made (updated scene world kind c.args.op (type_of table c.args.works) object right)) (c.in_ok-object.ensures table) (c.in_ok-made.ensures beside) in
    replace-gives scene world locks kind at meant c.why_not.result (view_of_value c.in_ok-made.made.value) (view_of_value c.in_ok-made.made.value) meant.value _
    (c.why_not.ensures meant.causes is.cause) c.in-None.is is.value is.value (c.in_ok-did-in-None.ensures.did table beside)
