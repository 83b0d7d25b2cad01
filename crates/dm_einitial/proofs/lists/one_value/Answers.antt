-- The expression is typed, and initialises the object.
use Rattle.std.specs.Prelude.{true, List}
use Rattle.std.proofs.Common.{arith}
use Rattle.dm_type.specs.declared.shape.Shape.{Shape}
use Rattle.dm_syn.specs.Trees as tree
use Rattle.dm_syn.specs.Views as syntax
use Rattle.dm_tree.specs.Trees.{Tree}
use Rattle.dm_typing.specs.Known.{Known}
use Rattle.dm_typing.specs.Fitting.{IsNumbered}
use Rattle.dm_typing.specs.Typing.{typed}
use Rattle.dm_typing.specs.Views.{type_over, view_over, known_over, source_of, setting_of}
use Rattle.dm_typing.proofs.LaterLemmas.{begins-length}
use Rattle.dm_edecl.specs.Initialising.{initialised_by, typed_initialiser}
use Rattle.dm_einitial.specs.Steps.{initial_over, InitialFits}
use Rattle.dm_einitial.proofs.ListLemmas.{value-parts}
use Rattle.dm_edeclarator.proofs.ReachLemmas.{relays}
use Rattle.dm_eexpr.proofs.CycleLemmas.{single-fails, single-ends}
use Rattle.dm_einitial.proofs.lists.one_value.Goals as goal

pub initialised_by-requires-clause-kind : goal.initialised_by-requires-clause-kind
initialised_by-requires-clause-kind c =
    let le = begins-length c.args.known.now.types.shapes c.typed.new.known.types.shapes c.in_ok-made.ensures.shapes in let inside = c.requires in omega (arith, le, inside)

pub returns-in_err-made : goal.returns-in_err-made
returns-in_err-made c =
    let setting = setting_of c.args.typer.now in
    let old = c.args.known.now in
    let expr = syntax.expr c.args.expr.now in
    relays InitialFits initial_over (source_of c.args.typer.now) old c.typed.new.known (λ later. typed_initialiser setting c.args.fixed (known_over later old) (type_over later c.args.kind) (tree.value c.args.span expr)) c.from_residual.result c.in_err-made.field-0.0 c.from_residual.ensures.1
    (single-fails IsNumbered view_over InitialFits initial_over (source_of c.args.typer.now) old old c.typed.new.known
    (λ later. typed_initialiser setting c.args.fixed (known_over later old) (type_over later c.args.kind) (tree.value c.args.span expr))
    (λ (later : List Shape) (known : Known). typed setting true known expr) (λ (later : List Shape) (behind : Known) (made : Tree). initialised_by setting behind c.args.fixed (type_over later c.args.kind) c.args.span.first expr made)
    (λ later. value-parts setting c.args.fixed (known_over later old) (type_over later c.args.kind) c.args.span expr) c.in_err-made.field-0.0 c.in_err-made.ensures)

pub returns : goal.returns
returns c =
    let setting = setting_of c.args.typer.now in
    let old = c.args.known.now in
    let expr = syntax.expr c.args.expr.now in
    single-ends IsNumbered view_over InitialFits initial_over (source_of c.args.typer.now) old c.typed.new.known c.initialised_by.new.known
    (λ later. typed_initialiser setting c.args.fixed (known_over later old) (type_over later c.args.kind) (tree.value c.args.span expr))
    (λ (later : List Shape) (known : Known). typed setting true known expr) (λ (later : List Shape) (behind : Known) (made : Tree). initialised_by setting behind c.args.fixed (type_over later c.args.kind) c.args.span.first expr made)
    (λ later. value-parts setting c.args.fixed (known_over later old) (type_over later c.args.kind) c.args.span expr) c.in_ok-made.made c.initialised_by.result c.in_ok-made.ensures
    (record { shapes = c.initialised_by.ensures.grows.shapes; numbered = c.initialised_by.ensures.numbered; gives = c.initialised_by.ensures.gives })
