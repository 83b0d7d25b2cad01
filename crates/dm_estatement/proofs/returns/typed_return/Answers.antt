-- The value is typed first.
use Rattle.std.specs.Prelude.{List, option_map, refl}
use Rattle.dm_type.specs.declared.shape.Shape.{Shape}
use Rattle.dm_syn.specs.Views as syntax
use Rattle.dm_tree.specs.Trees.{Tree}
use Rattle.dm_typing.specs.Fitting.{IsNumbered}
use Rattle.dm_typing.specs.Known.{Known}
use Rattle.dm_typing.specs.Views.{type_over, view_over, known_over, source_of, setting_of}
use Rattle.dm_edeclarator.proofs.ReachLemmas.{relays}
use Rattle.dm_eexpr.proofs.CycleLemmas.{single-fails}
use Rattle.dm_edecl.specs.Statements.{typed_optional, returned, typed_return}
use Rattle.dm_estatement.specs.Parts.{optional_over, OptionalFits}
use Rattle.dm_estatement.proofs.returns.typed_return.Goals as goal

pub returns-in_err-value : goal.returns-in_err-value
returns-in_err-value c =
    let setting = setting_of c.args.typer.now in
    let old = c.args.known.now in
    let expr = option_map syntax.expr c.args.expr.now in
    relays IsNumbered view_over (source_of c.args.typer.now) old c.typed_optional.new.known (λ later. typed_return setting (known_over later old) (type_over later c.args.within.now.result) c.args.span expr)
    c.from_residual.result c.in_err-value.field-0.0 c.from_residual.ensures.1
    (single-fails OptionalFits optional_over IsNumbered view_over (source_of c.args.typer.now) old old c.typed_optional.new.known
    (λ later. typed_return setting (known_over later old) (type_over later c.args.within.now.result) c.args.span expr)
    (λ (later : List Shape) (known : Known). typed_optional setting known expr) (λ (later : List Shape) (behind : Known) (values : List Tree). returned setting behind (type_over later c.args.within.now.result) c.args.span values)
    (λ later. refl) c.in_err-value.field-0.0 c.in_err-value.ensures)
