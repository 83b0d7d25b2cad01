-- An address moves within its array, or beyond it.
use Rattle.std.proofs.Common.{ℤ, ap, ◌∙◌}
use Rattle.std.proofs.lemmas.Int.{to_z-of_z}
use mir.Syntax.{w128}
use Rattle.dm_type.specs.Tables.{Table, type_of}
use Rattle.dm_layout.specs.LaidOut.{laid_out}
use Rattle.dm_memory.specs.Blocks.{view_of_blocks}
use Rattle.dm_meaning.specs.Causes.{moved_pointer}
use Rattle.dm_value.specs.Views.{view_of_pointer}
use Rattle.dm_start.proofs.MovingLemmas.{outside, within}
use Rattle.dm_start.proofs.moving.further.Goals as goal

pub returns-in-Some : goal.returns-in-Some
returns-in-Some c =
    let pointer = view_of_pointer c.args.pointer.now in
    let found = λ (table : Table) (n : ℤ). moved_pointer (laid_out table) (view_of_blocks table c.args.scene.now.blocks.now) (type_of table c.args.target) pointer n in
    within c.in_ok-moved.moved c.in-Some.moved _ pointer c.in-Some.is
    (c.in_ok-moved.ensures ∙ (ap (found c.layout.result.now) (to_z-of_z w128 c.args.count c.ranges.count) ∙ ap (λ (table : Table). found table c.args.count) c.layout.ensures))

pub returns-in_ok-beyond-in-None : goal.returns-in_ok-beyond-in-None
returns-in_ok-beyond-in-None c =
    let pointer = view_of_pointer c.args.pointer.now in
    let found = λ (table : Table) (n : ℤ). moved_pointer (laid_out table) (view_of_blocks table c.args.scene.now.blocks.now) (type_of table c.args.target) pointer n in
    outside c.in_ok-moved.moved _ pointer (view_of_pointer c.in_ok-beyond-in-None.beyond) c.in-None.is
    (c.in_ok-moved.ensures ∙ (ap (found c.layout.result.now) (to_z-of_z w128 c.args.count c.ranges.count) ∙ ap (λ (table : Table). found table c.args.count) c.layout.ensures))
    c.in_ok-beyond-in-None.ensures
