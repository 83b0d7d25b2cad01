-- The words are those behind the program's own name. Without memory for them nothing is done.
use Rattle.std.proofs.Common.{◌∙◌, subst, map, drop, string_bytes, refl}
use Rattle.demacro.specs.Arguments.{items_of}
use Rattle.demacro.specs.Endings.{Ends}
use Rattle.dm_lines.specs.Outside.{outside}
use Rattle.demacro.proofs.Steps.{ends_wanting}
use Rattle.demacro.proofs.process.run_arguments.Goals as goal

pub returns-in-Ok : goal.returns-in-Ok
returns-in-Ok g c =
    let before = outside g.F.Folder g.S.Sink c.args.folder.now c.args.out.now in
    let after = outside g.F.Folder g.S.Sink c.run.new.folder c.run.new.out in
    subst (λ words. Ends (map string_bytes words) before after c.run.result) (c.deref.ensures.value ∙ c.in-Ok.ensures) c.run.ensures.ending

pub returns-in-Err : goal.returns-in-Err
returns-in-Err g c =
    ends_wanting (map string_bytes (drop 1 (items_of c.args.arguments)))
    (outside g.F.Folder g.S.Sink c.args.folder.now c.args.out.now) (outside g.F.Folder g.S.Sink c.args.folder.now c.args.out.now) (refl, refl)
