-- One expression, or none that may stand there.
use Rattle.std.specs.Prelude.{true, List, map}
use Rattle.std.proofs.Common.{arith}
use Rattle.dm_type.specs.declared.shape.Shape.{Shape}
use Rattle.dm_syn.specs.Views as syntax
use Rattle.dm_tree.specs.Trees.{Tree}
use Rattle.dm_typing.specs.Known.{Known}
use Rattle.dm_typing.specs.Conversions.{as_value}
use Rattle.dm_typing.specs.Fitting.{IsNumbered}
use Rattle.dm_typing.specs.Typing.{typed}
use Rattle.dm_typing.specs.Views.{type_over, view_over, known_over, source_of, setting_of}
use Rattle.dm_typing.proofs.LaterLemmas.{begins-length}
use Rattle.dm_edecl.specs.Initialising.{scalar_initialised, scalar_in_braces, misplaced}
use Rattle.dm_einitial.specs.Steps.{initial_over, InitialFits}
use Rattle.dm_einitial.proofs.ListLemmas.{scalar-some, scalar-none}
use Rattle.dm_edeclarator.proofs.ReachLemmas.{relays, alike}
use Rattle.dm_eexpr.proofs.CycleLemmas.{single-fails, single-ends}
use Rattle.dm_einitial.proofs.lists.scalar_in_braces.Goals as goal

pub scalar_by-requires-clause-kind : goal.scalar_by-requires-clause-kind
scalar_by-requires-clause-kind c =
    let le = begins-length c.args.known.now.types.shapes c.typed.new.known.types.shapes c.in_ok-made-in-Some.ensures.shapes in let inside = c.requires in omega (arith, le, inside)

pub returns-in_err-made-in-Some : goal.returns-in_err-made-in-Some
returns-in_err-made-in-Some c =
    let setting = setting_of c.args.typer.now in
    let old = c.args.known.now in
    let items = syntax.initialisers (map syntax.initialiser c.args.items.now) in
    let expr = syntax.expr c.in-Some.expr.now in
    relays InitialFits initial_over (source_of c.args.typer.now) old c.typed.new.known (λ later. scalar_in_braces setting c.args.fixed (known_over later old) (type_over later c.args.kind) c.args.span items) c.from_residual.result c.in_err-made-in-Some.field-0.0 c.from_residual.ensures.1
    (single-fails IsNumbered view_over InitialFits initial_over (source_of c.args.typer.now) old old c.typed.new.known
    (λ later. scalar_in_braces setting c.args.fixed (known_over later old) (type_over later c.args.kind) c.args.span items)
    (λ (later : List Shape) (known : Known). typed setting true known expr) (λ (later : List Shape) (behind : Known) (made : Tree). scalar_initialised behind c.args.fixed (type_over later c.args.kind) c.in-Some.at.first (as_value made))
    (λ later. scalar-some setting c.args.fixed (known_over later old) (type_over later c.args.kind) c.args.span items c.in-Some.at expr c.in-Some.ensures) c.in_err-made-in-Some.field-0.0 c.in_err-made-in-Some.ensures)

pub returns-in_ok-made-in-Some : goal.returns-in_ok-made-in-Some
returns-in_ok-made-in-Some c =
    let setting = setting_of c.args.typer.now in
    let old = c.args.known.now in
    let items = syntax.initialisers (map syntax.initialiser c.args.items.now) in
    let expr = syntax.expr c.in-Some.expr.now in
    single-ends IsNumbered view_over InitialFits initial_over (source_of c.args.typer.now) old c.typed.new.known c.scalar_by.new.known
    (λ later. scalar_in_braces setting c.args.fixed (known_over later old) (type_over later c.args.kind) c.args.span items)
    (λ (later : List Shape) (known : Known). typed setting true known expr) (λ (later : List Shape) (behind : Known) (made : Tree). scalar_initialised behind c.args.fixed (type_over later c.args.kind) c.in-Some.at.first (as_value made))
    (λ later. scalar-some setting c.args.fixed (known_over later old) (type_over later c.args.kind) c.args.span items c.in-Some.at expr c.in-Some.ensures) c.in_ok-made-in-Some.made c.scalar_by.result c.in_ok-made-in-Some.ensures
    (record { shapes = c.scalar_by.ensures.grows.shapes; numbered = c.scalar_by.ensures.numbered; gives = c.scalar_by.ensures.gives })

pub returns-in-None : goal.returns-in-None
returns-in-None c =
    let setting = setting_of c.args.typer.now in
    let old = c.args.known.now in
    let items = syntax.initialisers (map syntax.initialiser c.args.items.now) in
    alike InitialFits initial_over (source_of c.args.typer.now) old c.misplaced.new.known
    (λ later. scalar_in_braces setting c.args.fixed (known_over later old) (type_over later c.args.kind) c.args.span items)
    (λ later. misplaced setting (known_over later old) c.args.span items)
    (λ later. scalar-none setting c.args.fixed (known_over later old) (type_over later c.args.kind) c.args.span items c.in-None.ensures) c.misplaced.result c.misplaced.ensures
