-- What is counted stands in the place of the value, of which one or the other is given.
use Rattle.std.proofs.Common.{map, if◌then◌else◌, ap, subst, ◌∙◌}
use Rattle.dm_type.specs.Tables.{type_of}
use Rattle.dm_meaning.specs.Memory.{contents_at}
use Rattle.dm_meaning.specs.Operations.{counted}
use Rattle.dm_memory.specs.Blocks.{view_of_blocks}
use Rattle.dm_memory.specs.Scenes.{scene_in, world_in}
use Rattle.dm_operate.specs.Replacements.{Is}
use Rattle.dm_value.specs.Places.{view_of_at}
use Rattle.dm_value.specs.Views.{view_of_value}
use Rattle.dm_operate.proofs.StoreLemmas.{replace-breaks, replace-gives}
use Rattle.dm_operate.proofs.stores.count.Goals as goal

pub returns-in-Some-clause-did : goal.returns-in-Some-clause-did
returns-in-Some-clause-did c =
    let table = c.args.layout.now in
    let kind = type_of table c.args.kind in
    let at = view_of_at c.args.at.now in
    let locks = map view_of_at c.args.locks.now in
    let memory = view_of_blocks table c.args.blocks.now in
    λ beside.
    let scene = scene_in table beside in
    let world = world_in memory beside in
    let meant = counted scene world kind c.args.plus (contents_at memory at) in
    let is : Is c.in_ok-made.made meant =
    subst (λ object. Is c.in_ok-made.made (counted scene world kind c.args.plus object)) (c.in_ok-object.ensures table) (c.in_ok-made.ensures beside) in
    let given = if c.args.before then meant.value else contents_at memory at in
    replace-breaks scene world locks kind at meant c.why_not.result c.in-Some.cause given (c.why_not.ensures meant.causes is.cause) c.in-Some.is

pub returns-in_ok-did-in-None-clause-did : goal.returns-in_ok-did-in-None-clause-did
returns-in_ok-did-in-None-clause-did c =
    let table = c.args.layout.now in
    let kind = type_of table c.args.kind in
    let at = view_of_at c.args.at.now in
    let locks = map view_of_at c.args.locks.now in
    let memory = view_of_blocks table c.args.blocks.now in
    λ beside.
    let scene = scene_in table beside in
    let world = world_in memory beside in
    let meant = counted scene world kind c.args.plus (contents_at memory at) in
    let is : Is c.in_ok-made.made meant =
    subst (λ object. Is c.in_ok-made.made (counted scene world kind c.args.plus object)) (c.in_ok-object.ensures table) (c.in_ok-made.ensures beside) in
    let given = if c.args.before then meant.value else contents_at memory at in
    let value = view_of_value c.in_ok-made.made.value in
    let object = view_of_value c.in_ok-object.object in
    replace-gives scene world locks kind at meant c.why_not.result value (if c.args.before then value else object) given _ (c.why_not.ensures meant.causes is.cause) c.in-None.is is.value
    (ap (λ v. if c.args.before then v else object) is.value ∙ ap (λ v. if c.args.before then meant.value else v) (c.in_ok-object.ensures table))
    (c.in_ok-did-in-None.ensures.did table beside)
