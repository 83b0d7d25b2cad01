-- The scalar is looked for first, and the expression typed then.
use Rattle.std.specs.Prelude.{true, option_map}
use Rattle.std.proofs.Common.{ap, ap₂, sym}
use Rattle.dm_syn.specs.Views as syntax
use Rattle.dm_typing.specs.Known.{broken, after}
use Rattle.dm_typing.specs.Conversions.{as_value}
use Rattle.dm_typing.specs.Fitting.{IsNumbered}
use Rattle.dm_typing.specs.Typing.{typed}
use Rattle.dm_typing.specs.Views.{type_over, view_over, known_over, source_of, setting_of}
use Rattle.dm_typing.proofs.GivesLemmas.{grown}
use Rattle.dm_edecl.specs.Initialising.{zero_initialised}
use Rattle.dm_einitial.specs.Steps.{initial_over, InitialFits, first_over, zero_for}
use Rattle.dm_einitial.proofs.ListLemmas.{zero_behind}
use Rattle.dm_edeclarator.proofs.ReachLemmas.{says, passes, fails, ends, breaks, relays, runs-out}
use Rattle.dm_einitial.proofs.lists.zero_for.Goals as goal

pub returns-in_err-found : goal.returns-in_err-found
returns-in_err-found c =
    runs-out InitialFits initial_over (source_of c.args.typer.now) c.args.known.now c.first_scalar.new.known
    (λ later. zero_for (setting_of c.args.typer.now) c.args.fixed (known_over later c.args.known.now) (type_over later c.args.kind) c.args.span c.args.at (syntax.expr c.args.expr.now))
    c.from_residual.result c.first_scalar.ensures.grows.shapes c.from_residual.ensures.1

pub returns-in_err-made : goal.returns-in_err-made
returns-in_err-made c =
    let setting = setting_of c.args.typer.now in
    let old = c.args.known.now in
    let now = c.first_scalar.new.known in
    let expr = syntax.expr c.args.expr.now in
    let found = c.in_ok-found.found in
    relays InitialFits initial_over (source_of c.args.typer.now) old c.typed.new.known
    (λ later. zero_for setting c.args.fixed (known_over later old) (type_over later c.args.kind) c.args.span c.args.at expr) c.from_residual-in_err-made.result c.in_err-made.field-0.0 c.from_residual-in_err-made.ensures.1
    (fails IsNumbered view_over (source_of c.args.typer.now) old now c.typed.new.known
    (λ later. zero_for setting c.args.fixed (known_over later old) (type_over later c.args.kind) c.args.span c.args.at expr)
    InitialFits initial_over (λ later. typed setting true (known_over later now) expr) (λ later. zero_behind c.args.fixed c.args.span c.args.at (option_map (first_over later) found)) c.in_err-made.field-0.0
    (record {
      shapes = c.first_scalar.ensures.grows.shapes;
      is = λ later on.
          ap₂ (λ known first. after (typed setting true known expr) (zero_behind c.args.fixed c.args.span c.args.at first)) (grown later old now c.first_scalar.ensures.grows) (sym (c.in_ok-found.ensures.first later on));
    })
    c.in_err-made.ensures)

pub returns-in-Some : goal.returns-in-Some
returns-in-Some c =
    let setting = setting_of c.args.typer.now in
    let old = c.args.known.now in
    let now = c.first_scalar.new.known in
    let new = c.typed.new.known in
    let expr = syntax.expr c.args.expr.now in
    let found = c.in_ok-found.found in
    let reached = passes IsNumbered view_over (source_of c.args.typer.now) old now new
    (λ later. zero_for setting c.args.fixed (known_over later old) (type_over later c.args.kind) c.args.span c.args.at expr)
    (λ later. typed setting true (known_over later now) expr) (λ later. zero_behind c.args.fixed c.args.span c.args.at (option_map (first_over later) found)) c.in_ok-made.made
    (record {
      shapes = c.first_scalar.ensures.grows.shapes;
      is = λ later on.
          ap₂ (λ known first. after (typed setting true known expr) (zero_behind c.args.fixed c.args.span c.args.at first)) (grown later old now c.first_scalar.ensures.grows) (sym (c.in_ok-found.ensures.first later on));
    })
    c.in_ok-made.ensures in
    ends InitialFits initial_over (source_of c.args.typer.now) old new c.zero_initialised.new.known
    (λ later. zero_for setting c.args.fixed (known_over later old) (type_over later c.args.kind) c.args.span c.args.at expr)
    (λ later. zero_initialised (known_over later new) c.args.fixed (first_over later c.in-Some.first) c.args.at.first (as_value (view_over later c.in_ok-made.made)))
    (says old new (λ later. zero_for setting c.args.fixed (known_over later old) (type_over later c.args.kind) c.args.span c.args.at expr)
    (λ later. zero_behind c.args.fixed c.args.span c.args.at (option_map (first_over later) found) (known_over later new) (view_over later c.in_ok-made.made))
    (λ later. zero_initialised (known_over later new) c.args.fixed (first_over later c.in-Some.first) c.args.at.first (as_value (view_over later c.in_ok-made.made)))
    reached
    (λ later on. ap (λ one. zero_behind c.args.fixed c.args.span c.args.at (option_map (first_over later) one) (known_over later new) (view_over later c.in_ok-made.made)) c.in-Some.is))
    c.zero_initialised.result (record { shapes = c.zero_initialised.ensures.grows.shapes; numbered = c.zero_initialised.ensures.numbered; gives = c.zero_initialised.ensures.gives })

pub returns-in-None : goal.returns-in-None
returns-in-None c =
    let setting = setting_of c.args.typer.now in
    let old = c.args.known.now in
    let now = c.first_scalar.new.known in
    let new = c.typed.new.known in
    let expr = syntax.expr c.args.expr.now in
    let found = c.in_ok-found.found in
    let reached = passes IsNumbered view_over (source_of c.args.typer.now) old now new
    (λ later. zero_for setting c.args.fixed (known_over later old) (type_over later c.args.kind) c.args.span c.args.at expr)
    (λ later. typed setting true (known_over later now) expr) (λ later. zero_behind c.args.fixed c.args.span c.args.at (option_map (first_over later) found)) c.in_ok-made.made
    (record {
      shapes = c.first_scalar.ensures.grows.shapes;
      is = λ later on.
          ap₂ (λ known first. after (typed setting true known expr) (zero_behind c.args.fixed c.args.span c.args.at first)) (grown later old now c.first_scalar.ensures.grows) (sym (c.in_ok-found.ensures.first later on));
    })
    c.in_ok-made.ensures in
    breaks InitialFits initial_over (source_of c.args.typer.now) old new
    (λ later. zero_for setting c.args.fixed (known_over later old) (type_over later c.args.kind) c.args.span c.args.at expr) 8 c.args.span.first c.broken.result
    (says old new (λ later. zero_for setting c.args.fixed (known_over later old) (type_over later c.args.kind) c.args.span c.args.at expr)
    (λ later. zero_behind c.args.fixed c.args.span c.args.at (option_map (first_over later) found) (known_over later new) (view_over later c.in_ok-made.made))
    (λ later. broken 8 c.args.span.first)
    reached
    (λ later on. ap (λ one. zero_behind c.args.fixed c.args.span c.args.at (option_map (first_over later) one) (known_over later new) (view_over later c.in_ok-made.made)) c.in-None.is))
    c.broken.ensures
