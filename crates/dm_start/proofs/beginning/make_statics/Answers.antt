-- The first values are stored in the objects for which they were found.
use Rattle.std.proofs.Common.{List, [], map, ap, subst, ◌∙◌}
use Rattle.dm_memory.specs.declared.blocks.Block.{Block}
use Rattle.dm_memory.specs.Blocks.{view_of_blocks}
use Rattle.dm_meaning.specs.Operations.{Objects}
use Rattle.dm_program.specs.Sources.{meant}
use Rattle.dm_start.specs.declared.scene.Scene.{Scene}
use Rattle.dm_start.specs.declared.storing.Kept.{Kept}
use Rattle.dm_start.specs.Making.{numbers_of, IsMade}
use Rattle.dm_start.specs.Storing.{view_of_kept, with_values}
use Rattle.dm_start.proofs.StartLemmas.{has-statics}
use Rattle.dm_start.proofs.beginning.make_statics.Goals as goal

pub returns : goal.returns
returns c =
    let table = c.args.program.now.table in
    let program = meant c.args.program.now in
    let named = c.make.new.names in
    let blocks = c.make.new.blocks in
    let made = subst (λ (objects : Objects). IsMade program (numbers_of program) objects [] named blocks) c.requires.names
    (subst (λ (before : List Block). IsMade program (numbers_of program) c.args.names.now before named blocks) c.requires.blocks c.in_ok-make.ensures) in
    let scene : Scene = record {
      program = c.args.program;
      names = record { ref_ptr = c.args.program.ref_ptr; now = named };
      blocks = record { ref_ptr = c.args.program.ref_ptr; now = blocks };
    } in
    has-statics scene (map view_of_kept c.in_ok-values.values.items) c.store.new.blocks c.in_ok-values.ensures made
    (c.in_ok-store.ensures.view table ∙ ap (λ (all : List Kept). with_values (map view_of_kept all) (view_of_blocks table blocks)) c.as_slice.ensures.value)
    (c.in_ok-store.ensures.known table made.known)
