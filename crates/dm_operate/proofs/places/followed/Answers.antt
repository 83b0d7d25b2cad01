-- A null pointer is followed nowhere, another one to its object, unless that is undefined.
use Rattle.std.proofs.Common.{◌≡◌, [], sym, ap, ◌∙◌}
use Rattle.dm_meaning.specs.Causes.{earliest, follow_causes}
use Rattle.dm_meaning.specs.Operations.{decided, designates, followed, gives, ill}
use Rattle.dm_meaning.specs.Values as values
use Rattle.dm_memory.specs.Blocks.{view_of_blocks}
use Rattle.dm_memory.specs.Scenes.{world_in}
use Rattle.dm_operate.specs.Evaluations.{view_of_did}
use Rattle.dm_value.specs.Places.{view_of_at}
use Rattle.dm_value.specs.Views.{view_of_pointer}
use Rattle.dm_operate.proofs.places.followed.Goals as goal

pub returns-in-Null : goal.returns-in-Null
returns-in-Null c =
    let is : view_of_pointer c.args.pointer.now ≡ values.null = ap view_of_pointer c.in-Null.is in
    λ types beside.
    let memory = view_of_blocks types c.args.blocks.now in
    let world = world_in memory beside in
    c.unless.ensures world
    ∙ ap (λ cause. decided cause (view_of_did world c.ill.result)) (c.to_follow-cause.ensures types)
    ∙ ap (decided (earliest (follow_causes memory (view_of_pointer c.args.pointer.now)))) (c.ill.ensures world)
    ∙ ap (λ pointer. decided (earliest (follow_causes memory pointer)) ill) is
    ∙ sym (ap (λ pointer. followed world (values.pointer_value pointer)) is)

pub returns-in_ok-at-in-To : goal.returns-in_ok-at-in-To
returns-in_ok-at-in-To c =
    let is : view_of_pointer c.args.pointer.now ≡ values.to (view_of_at c.in-To.at.value) = ap view_of_pointer c.in-To.is in
    let same : view_of_at c.in_ok-at-in-To.at ≡ view_of_at c.in-To.at.value = c.in_ok-at-in-To.ensures ∙ ap view_of_at c.as_ref.ensures in
    λ types beside.
    let memory = view_of_blocks types c.args.blocks.now in
    let world = world_in memory beside in
    c.unless-in-To.ensures world
    ∙ ap (λ cause. decided cause (view_of_did world c.object.result)) (c.to_follow-cause.ensures types)
    ∙ ap (decided (earliest (follow_causes memory (view_of_pointer c.args.pointer.now)))) (c.object.ensures world ∙ ap (λ at. gives world (designates at) []) same)
    ∙ ap (λ pointer. decided (earliest (follow_causes memory pointer)) (gives world (designates (view_of_at c.in-To.at.value)) [])) is
    ∙ sym (ap (λ pointer. followed world (values.pointer_value pointer)) is)
