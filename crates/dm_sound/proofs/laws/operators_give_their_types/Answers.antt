use Rattle.std.proofs.Common.{refl}
use Rattle.dm_sound.specs.TypedTrees.{scene_in}
use Rattle.dm_sound.proofs.NodeLemmas.{node_fits}
use Rattle.dm_sound.proofs.PlainLemmas.{plain_first}
use Rattle.dm_sound.proofs.laws.operators_give_their_types.Goals as goal

pub returns : goal.returns
returns c scene world locks result label kind spans parts operands scope tree typed is h =
    let place = scene_in scene.program result tree.breaks tree.continues tree.labels in
    node_fits scene scope world locks typed result tree.breaks tree.continues tree.labels label kind spans parts operands is tree.typed.0 tree.proper
    (plain_first scene.program scope place refl refl label kind spans parts tree.typed tree.proper) h
