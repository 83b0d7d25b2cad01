-- It stands in a loop.
use Rattle.std.specs.Prelude.{List, [], length, refl}
use Rattle.std.proofs.Common.{sym, ap, ◌∙◌}
use Rattle.dm_type.specs.declared.shape.Shape.{Shape}
use Rattle.dm_tree.specs.Trees.{Tree}
use Rattle.dm_tree.specs.Trees as label
use Rattle.dm_typing.specs.Fitting.{IsNumbered}
use Rattle.dm_typing.specs.Views.{view_over, source_of, setting_of}
use Rattle.dm_edecl.specs.Standing.{Standing, goes_on, keeps}
use Rattle.dm_edecl.specs.Statements.{statement}
use Rattle.dm_estanding.proofs.ProceedingLemmas.{starts, restated, done}
use Rattle.dm_estatement.proofs.NodeLemmas.{statement-is, bare-fits}
use Rattle.dm_estatement.proofs.simple.continue_here.Goals as goal

pub returns : goal.returns
returns c =
    let setting = setting_of c.args.typer.now in
    let old = c.args.standing.now in
    let types = old.known.types in
    let made = c.continuing.result in
    let whole = λ (later : List Shape) (before : Standing). keeps c.args.within.now.continues 33 c.args.span.first (goes_on before (statement setting c.args.span label.continue [])) in
    done IsNumbered view_over (source_of c.args.typer.now) old old whole made
    (restated old old whole whole (λ (later : List Shape) (behind : Standing). goes_on behind (view_over later made)) (starts old whole whole (λ later before stands lawful. refl))
    (λ later on behind stands lawful.
    ap (λ test. keeps test 33 c.args.span.first (goes_on behind (statement setting c.args.span label.continue []))) c.if-not-within.false
    ∙ ap (goes_on behind) (sym (c.continuing.ensures.view (record { shapes = later; structs = [] }) ∙ statement-is setting types c.args.within.now later c.args.span label.continue [] c.requires on))))
    (bare-fits types c.args.within.now c.requires made (c.continuing.ensures.known (length types.shapes)))
