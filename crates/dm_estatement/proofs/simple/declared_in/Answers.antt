-- By what the declaration declares.
use Rattle.std.specs.Prelude.{List, [], ◌++◌, map, length}
use Rattle.std.proofs.Common.{◌∙◌}
use Rattle.dm_type.specs.declared.shape.Shape.{Shape}
use Rattle.dm_syn.specs.Views as syntax
use Rattle.dm_tree.specs.Trees.{Tree}
use Rattle.dm_tree.specs.Trees as label
use Rattle.dm_tree.specs.TypeNumbers.{are_known, are_known_in_local, all_pass}
use Rattle.dm_tree.specs.Views.{declarators_of, expressions_of_locals}
use Rattle.dm_typing.specs.Fitting.{IsNumbered}
use Rattle.dm_typing.specs.Views.{view_over, source_of, setting_of}
use Rattle.dm_typing.proofs.LaterLemmas.{trees-known}
use Rattle.dm_edecl.specs.Standing.{Standing}
use Rattle.dm_edecl.specs.Declaring.{typed_declaration}
use Rattle.dm_edecl.specs.Statements.{statement, declared_in}
use Rattle.dm_edeclaration.specs.Steps.{Together, items_over, ItemsFit, opened_over, summed}
use Rattle.dm_estatement.proofs.CallLemmas.{single-fails, single-made}
use Rattle.dm_estatement.proofs.NodeLemmas.{within-later, statement-is, two-fit, locals-pass}
use Rattle.dm_estatement.proofs.StepLemmas.{declared-is}
use Rattle.dm_estatement.proofs.simple.declared_in.Goals as goal

pub returns-in_err-declared : goal.returns-in_err-declared
returns-in_err-declared c =
    let setting = setting_of c.args.typer.now in
    let declaration = syntax.declaration c.args.declaration.now in
    let span = c.args.declaration.now.span in
    single-fails ItemsFit items_over IsNumbered view_over (source_of c.args.typer.now) c.args.standing.now (λ (later : List Shape) (before : Standing). declared_in setting before declaration)
    (λ (later : List Shape) (before : Standing). summed (typed_declaration setting before declaration))
    (λ (later : List Shape) (all : Together). statement setting span (label.declare (length all.constants) all.declarators) (all.constants ++ all.expressions))
    (λ later before. declared-is setting before declaration)
    c.typed_declaration.new.standing c.in_err-declared.field-0.0 c.in_err-declared.ensures c.from_residual.result c.from_residual.ensures.1

pub returns : goal.returns
returns c =
    let setting = setting_of c.args.typer.now in
    let declaration = syntax.declaration c.args.declaration.now in
    let span = c.args.declaration.now.span in
    let new = c.typed_declaration.new.standing in
    let types = new.known.types in
    let all = c.in_ok-declared.declared in
    let fits = within-later c.args.standing.now.known.types types c.args.within.now c.requires c.in_ok-declared.ensures.shapes in
    single-made ItemsFit items_over IsNumbered view_over (source_of c.args.typer.now) c.args.standing.now (λ (later : List Shape) (before : Standing). declared_in setting before declaration)
    (λ (later : List Shape) (before : Standing). summed (typed_declaration setting before declaration))
    (λ (later : List Shape) (all : Together). statement setting span (label.declare (length all.constants) all.declarators) (all.constants ++ all.expressions))
    (λ later before. declared-is setting before declaration)
    new all c.in_ok-declared.ensures c.declaration.result
    (λ later on.
    c.declaration.ensures.view (record { shapes = later; structs = [] })
    ∙ statement-is setting types c.args.within.now later span (label.declare (length (map (view_over later) all.constants)) (declarators_of (map (opened_over later) all.locals)))
    (map (view_over later) all.constants ++ expressions_of_locals (map (opened_over later) all.locals)) fits on)
    (two-fit types c.args.within.now fits c.declaration.result (all_pass (map (are_known (length types.shapes)) all.constants)) (all_pass (map (are_known_in_local (length types.shapes)) all.locals)) (c.declaration.ensures.known (length types.shapes))
    (trees-known types all.constants c.in_ok-declared.ensures.numbered.0) (locals-pass types all.locals c.in_ok-declared.ensures.numbered.1))
