-- The expression is typed first.
use Rattle.std.specs.Prelude.{List, [], length, option_map}
use Rattle.std.proofs.Common.{◌∙◌}
use Rattle.dm_type.specs.declared.shape.Shape.{Shape}
use Rattle.dm_syn.specs.Views as syntax
use Rattle.dm_tree.specs.Trees.{Tree}
use Rattle.dm_tree.specs.TypeNumbers.{are_known, passes_if_there}
use Rattle.dm_typing.specs.Fitting.{IsNumbered}
use Rattle.dm_typing.specs.Views.{view_over, source_of, setting_of}
use Rattle.dm_edecl.specs.Standing.{Standing, goes_on, typing}
use Rattle.dm_edecl.specs.Statements.{typed_optional, full_statement}
use Rattle.dm_estanding.proofs.ProceedingLemmas.{typing-further}
use Rattle.dm_estatement.specs.Parts.{optional_over, OptionalFits, full_label}
use Rattle.dm_estatement.proofs.CallLemmas.{single-fails, single-made}
use Rattle.dm_estatement.proofs.NodeLemmas.{within-later, statement-is, full-is, one-fits, optional-passes}
use Rattle.dm_estatement.proofs.simple.expression.Goals as goal

pub returns-in_err-value : goal.returns-in_err-value
returns-in_err-value c =
    let setting = setting_of c.args.typer.now in
    let expr = option_map syntax.expr c.args.expr.now in
    single-fails OptionalFits optional_over IsNumbered view_over (source_of c.args.typer.now) c.args.standing.now
    (λ (later : List Shape) (before : Standing). typing before (typed_optional setting before.known expr) (λ behind values. goes_on behind (full_statement setting c.args.span values)))
    (λ (later : List Shape) (before : Standing). typing before (typed_optional setting before.known expr) (λ behind it. goes_on behind it))
    (λ (later : List Shape) (values : List Tree). full_statement setting c.args.span values)
    (λ later before. typing-further before (typed_optional setting before.known expr) (λ behind it. goes_on behind it) (λ behind values. goes_on behind (full_statement setting c.args.span values)))
    c.optional_here.new.standing c.in_err-value.field-0.0 c.in_err-value.ensures c.from_residual.result c.from_residual.ensures.1

pub returns : goal.returns
returns c =
    let setting = setting_of c.args.typer.now in
    let expr = option_map syntax.expr c.args.expr.now in
    let new = c.optional_here.new.standing in
    let types = new.known.types in
    let value = c.in_ok-value.value in
    let fits = within-later c.args.standing.now.known.types types c.args.within.now c.requires c.in_ok-value.ensures.shapes in
    single-made OptionalFits optional_over IsNumbered view_over (source_of c.args.typer.now) c.args.standing.now
    (λ (later : List Shape) (before : Standing). typing before (typed_optional setting before.known expr) (λ behind values. goes_on behind (full_statement setting c.args.span values)))
    (λ (later : List Shape) (before : Standing). typing before (typed_optional setting before.known expr) (λ behind it. goes_on behind it))
    (λ (later : List Shape) (values : List Tree). full_statement setting c.args.span values)
    (λ later before. typing-further before (typed_optional setting before.known expr) (λ behind it. goes_on behind it) (λ behind values. goes_on behind (full_statement setting c.args.span values)))
    new value c.in_ok-value.ensures c.in_ok-made.made
    (λ later on.
    c.in_ok-made.ensures.view (record { shapes = later; structs = [] })
    ∙ statement-is setting types c.args.within.now later c.args.span (full_label value) (optional_over later value) fits on
    ∙ full-is (record { shapes = later; structs = [] }) setting c.args.span value)
    (one-fits types c.args.within.now fits c.in_ok-made.made (passes_if_there (option_map (are_known (length types.shapes)) value)) (c.in_ok-made.ensures.known (length types.shapes)) (optional-passes types value c.in_ok-value.ensures.numbered))
