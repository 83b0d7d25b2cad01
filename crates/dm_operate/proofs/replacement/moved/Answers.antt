-- A type that points to another one.
use Rattle.std.proofs.Common.{◌≡◌, rules, sym, subst}
use Rattle.std.proofs.lemmas.Int.{to_z-of_z}
use mir.Syntax.{w128}
use Rattle.dm_type.specs.CTypes as ctypes
use Rattle.dm_type.specs.Tables.{type_of}
use Rattle.dm_meaning.specs.Operations.{made_further, made_pointer}
use Rattle.dm_memory.specs.Blocks.{view_of_blocks}
use Rattle.dm_memory.specs.Scenes.{scene_in, world_in}
use Rattle.dm_operate.specs.Replacements.{Is}
use Rattle.dm_value.specs.Views.{view_of_pointer}
use Rattle.dm_operate.proofs.replacement.moved.Goals as goal

pub returns-in_ok-made-in-Pointer : goal.returns-in_ok-made-in-Pointer
returns-in_ok-made-in-Pointer c =
    let table = c.args.layout.now in
    let pointer = view_of_pointer c.args.pointer.now in
    let made = c.in_ok-made-in-Pointer.made in
    let target = type_of table c.in-Pointer.target in
    let points : type_of table c.args.kind ≡ ctypes.pointer target = search rules in
    λ beside.
    let scene = scene_in table beside in
    let world = world_in (view_of_blocks table c.args.blocks.now) beside in
    subst (λ type. Is made (made_pointer scene world type pointer c.args.count)) (sym points)
    (subst (λ n. Is made (made_further scene world target pointer n)) (to_z-of_z w128 c.args.count c.ranges.count) (c.in_ok-made-in-Pointer.ensures beside))
