-- The expression is typed, and nothing is left.
use Rattle.std.specs.Prelude.{true, List, refl}
use Rattle.dm_type.specs.declared.shape.Shape.{Shape}
use Rattle.dm_syn.specs.Trees as tree
use Rattle.dm_syn.specs.Views as syntax
use Rattle.dm_tree.specs.Trees.{Tree}
use Rattle.dm_typing.specs.Known.{Known, given}
use Rattle.dm_typing.specs.Fitting.{IsNumbered}
use Rattle.dm_typing.specs.Typing.{typed}
use Rattle.dm_typing.specs.Views.{view_over, known_over, source_of, setting_of}
use Rattle.dm_typing.proofs.LaterLemmas.{begins-itself}
use Rattle.dm_edecl.specs.Initialising.{expressions_alone}
use Rattle.dm_edeclarator.specs.Steps.{Anything}
use Rattle.dm_einitial.specs.Steps.{nothing_over, dropped}
use Rattle.dm_einitial.proofs.ListLemmas.{alone-value}
use Rattle.dm_edeclarator.proofs.ReachLemmas.{relays}
use Rattle.dm_eexpr.proofs.CycleLemmas.{single-fails, single-ends}
use Rattle.dm_einitial.proofs.lists.expression_alone.Goals as goal

pub returns-in_err-made : goal.returns-in_err-made
returns-in_err-made c = λ at.
    let setting = setting_of c.args.typer.now in
    let expr = syntax.expr c.args.expr.now in
    relays Anything nothing_over (source_of c.args.typer.now) c.args.known.now c.typed.new.known (λ later. dropped (expressions_alone setting (known_over later c.args.known.now) (tree.value at expr))) c.from_residual.result c.in_err-made.field-0.0 c.from_residual.ensures.1
    (single-fails IsNumbered view_over Anything nothing_over (source_of c.args.typer.now) c.args.known.now c.args.known.now c.typed.new.known
    (λ later. dropped (expressions_alone setting (known_over later c.args.known.now) (tree.value at expr)))
    (λ (later : List Shape) (known : Known). typed setting true known expr) (λ (later : List Shape) (behind : Known) (made : Tree). given behind tt)
    (λ later. alone-value setting (known_over later c.args.known.now) at expr) c.in_err-made.field-0.0 c.in_err-made.ensures)

pub returns : goal.returns
returns c = λ at.
    let setting = setting_of c.args.typer.now in
    let expr = syntax.expr c.args.expr.now in
    single-ends IsNumbered view_over Anything nothing_over (source_of c.args.typer.now) c.args.known.now c.typed.new.known c.typed.new.known
    (λ later. dropped (expressions_alone setting (known_over later c.args.known.now) (tree.value at expr)))
    (λ (later : List Shape) (known : Known). typed setting true known expr) (λ (later : List Shape) (behind : Known) (made : Tree). given behind tt)
    (λ later. alone-value setting (known_over later c.args.known.now) at expr) c.in_ok-made.made _ c.in_ok-made.ensures
    (record { shapes = begins-itself c.typed.new.known.types.shapes; numbered = tt; gives = λ later on. refl })
