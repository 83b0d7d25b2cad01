-- The scope opens again, and closes.
use Rattle.std.specs.Prelude.{map, slice_get}
use Rattle.std.specs.FinMap as finite
use Rattle.std.proofs.Common.{sym, ap, ◌∙◌}
use Rattle.dm_syn.specs.Views as syntax
use Rattle.dm_tree.specs.Trees.{Tree}
use Rattle.dm_type.specs.declared.shape.Shape.{Shape}
use Rattle.std.specs.Prelude.{List}
use Rattle.dm_typing.specs.Fitting.{IsNumbered}
use Rattle.dm_typing.specs.Known.{Known}
use Rattle.dm_typing.specs.Views.{view_over, source_of, setting_of}
use Rattle.dm_edecl.specs.Standing.{Standing, Progress}
use Rattle.dm_estanding.proofs.ProceedingLemmas.{relays, scoped, scope-fails}
use Rattle.dm_estatement.specs.Parts.{within_over}
use Rattle.dm_eunit.specs.Functions.{block_inside}
use Rattle.dm_eunit.specs.Naming.{with_names}
use Rattle.dm_eunit.proofs.ReopeningLemmas.{names-unlinked}
use Rattle.dm_eunit.proofs.bodies.block_scoped.Goals as goal

pub returns-in_err-made : goal.returns-in_err-made
returns-in_err-made c =
    let setting = setting_of c.args.typer.now in
    let items = syntax.block_items (map syntax.block_item c.args.items.now) in
    let names = c.args.names.now in
    let outside = c.args.standing.now in
    let opened = c.reopened.new.standing in
    let inside = c.block_inside.new.standing in
    let progress : List Shape → Standing → Progress Tree = λ later s. block_inside setting (within_over later c.args.within.now) c.args.span items s in
    let is = c.in_ok-mark.ensures in
    relays IsNumbered view_over (source_of c.args.typer.now) outside inside _
    c.from_residual-in_err-made.result c.in_err-made.field-0.0 c.from_residual-in_err-made.ensures.1
    (scope-fails IsNumbered view_over (source_of c.args.typer.now) outside opened inside (with_names finite.empty names) progress is.opens is.opened
    (λ later before stands name number entry h e. names-unlinked later outside.known.declared names is.unlinked name number entry h
    (sym (ap (λ (known : Known). slice_get known.declared number) stands.known) ∙ e))
    c.in_err-made.field-0.0 c.in_err-made.ensures)

pub returns : goal.returns
returns c =
    let setting = setting_of c.args.typer.now in
    let items = syntax.block_items (map syntax.block_item c.args.items.now) in
    let names = c.args.names.now in
    let outside = c.args.standing.now in
    let opened = c.reopened.new.standing in
    let inside = c.block_inside.new.standing in
    let progress : List Shape → Standing → Progress Tree = λ later s. block_inside setting (within_over later c.args.within.now) c.args.span items s in
    let is = c.in_ok-mark.ensures in
    let p = c.in_ok-made.ensures in
    scoped IsNumbered view_over (source_of c.args.typer.now) outside opened inside (with_names finite.empty names) progress is.opens is.opened
    (λ later before stands name number entry h e. names-unlinked later outside.known.declared names is.unlinked name number entry h
    (sym (ap (λ (known : Known). slice_get known.declared number) stands.known) ∙ e))
    c.close.new.self c.in_ok-made.made p c.close.ensures.types
    (c.close.ensures.around outside opened is.opens p.within is.declared is.retyped)
    (c.close.ensures.closed outside opened is.opens p.within is.declared is.retyped)
