-- An operator on a value does what it does with it.
use Rattle.std.proofs.Common.{[], ◌∷◌, sym, ◌∙◌}
use Rattle.dm_type.specs.CTypes.{void}
use Rattle.dm_type.specs.Tables.{type_of}
use Rattle.dm_meaning.specs.Operations.{of_value}
use Rattle.dm_memory.specs.Blocks.{view_of_blocks}
use Rattle.dm_memory.specs.Scenes.{scene_in, world_in}
use Rattle.dm_operate.specs.Evaluations.{view_of_operands}
use Rattle.dm_value.specs.Views.{view_of_value}
use Rattle.dm_operate.proofs.OperatorLemmas.{operate-value, with_value}
use Rattle.dm_operate.proofs.perform.on_value.Goals as goal

pub returns-in_ok-perform_on_value-in-Some : goal.returns-in_ok-perform_on_value-in-Some
returns-in_ok-perform_on_value-in-Some c =
    let table = c.args.layout.now in
    let kind = type_of table c.args.kind in
    let operands = view_of_operands table c.args.operands in
    λ label locks stands names beside.
    let scene = scene_in table beside in
    let world = world_in (view_of_blocks table c.args.blocks.now) beside in
    c.in_ok-perform_on_value-in-Some.ensures label void locks stands beside
    ∙ operate-value scene world locks kind c.args.own label stands (record { kind = void; result = of_value (view_of_value c.in-Some.value.now) } ∷ [])
    ∙ sym (operate-value scene world locks kind c.args.own label stands operands ∙ c.in-Some.ensures table (with_value scene world locks kind c.args.own))

pub returns-in-None : goal.returns-in-None
returns-in-None c =
    let table = c.args.layout.now in
    let kind = type_of table c.args.kind in
    let operands = view_of_operands table c.args.operands in
    λ label locks stands names beside.
    let scene = scene_in table beside in
    let world = world_in (view_of_blocks table c.args.blocks.now) beside in
    c.ill.ensures world
    ∙ sym (operate-value scene world locks kind c.args.own label stands operands ∙ c.in-None.ensures table (with_value scene world locks kind c.args.own))
