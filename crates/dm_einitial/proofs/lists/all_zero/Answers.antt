-- One expression.
use Rattle.std.specs.Prelude.{map}
use Rattle.dm_syn.specs.Views as syntax
use Rattle.dm_typing.specs.Views.{type_over, known_over, source_of, setting_of}
use Rattle.dm_edecl.specs.Initialising.{all_zero, misplaced}
use Rattle.dm_einitial.specs.Steps.{initial_over, InitialFits, zero_for}
use Rattle.dm_einitial.proofs.ListLemmas.{zero-some, zero-none}
use Rattle.dm_edeclarator.proofs.ReachLemmas.{alike}
use Rattle.dm_einitial.proofs.lists.all_zero.Goals as goal

pub returns-in-Some : goal.returns-in-Some
returns-in-Some c =
    let setting = setting_of c.args.typer.now in
    let old = c.args.known.now in
    let items = syntax.initialisers (map syntax.initialiser c.args.items.now) in
    alike InitialFits initial_over (source_of c.args.typer.now) old c.zero_for.new.known
    (λ later. all_zero setting c.args.fixed (known_over later old) (type_over later c.args.kind) c.args.span items)
    (λ later. zero_for setting c.args.fixed (known_over later old) (type_over later c.args.kind) c.args.span c.in-Some.at (syntax.expr c.in-Some.expr.now))
    (λ later. zero-some setting c.args.fixed (known_over later old) (type_over later c.args.kind) c.args.span items c.in-Some.at (syntax.expr c.in-Some.expr.now) c.in-Some.ensures) c.zero_for.result c.zero_for.ensures

pub returns-in-None : goal.returns-in-None
returns-in-None c =
    let setting = setting_of c.args.typer.now in
    let old = c.args.known.now in
    let items = syntax.initialisers (map syntax.initialiser c.args.items.now) in
    alike InitialFits initial_over (source_of c.args.typer.now) old c.misplaced.new.known
    (λ later. all_zero setting c.args.fixed (known_over later old) (type_over later c.args.kind) c.args.span items)
    (λ later. misplaced setting (known_over later old) c.args.span items)
    (λ later. zero-none setting c.args.fixed (known_over later old) (type_over later c.args.kind) c.args.span items c.in-None.ensures) c.misplaced.result c.misplaced.ensures
