-- The initialiser is typed, and the object defined.
use Rattle.std.specs.Prelude.{Ok, Err, refl}
use Rattle.std.proofs.Common.{sym, ap, ◌∙◌, subst}
use Rattle.dm_syn.specs.Views as syntax
use Rattle.dm_tree.specs.Initialisers.{is_fixed}
use Rattle.dm_typing.specs.Views.{type_over, known_over, source_of, setting_of}
use Rattle.dm_edecl.specs.Initialising.{typed_initialiser}
use Rattle.dm_edeclarator.specs.Steps.{Follows}
use Rattle.dm_einitial.specs.Steps.{initial_over, InitialFits}
use Rattle.dm_edeclaration.specs.Steps.{IsNamed, bare_over, LocalFits, object_initialised}
use Rattle.dm_edeclaration.proofs.ItemLemmas.{where-relays, initial-fails, initial-made}
use Rattle.dm_edeclaration.proofs.initialised.object_initialised.Goals as goal

pub returns-in_err-initial : goal.returns-in_err-initial
returns-in_err-initial c = λ entry means starts.
    let setting = setting_of c.args.typer.now in
    let source = source_of c.args.typer.now in
    let now = c.args.standing.now in
    let object = c.args.object.now in
    let one = syntax.initialiser c.args.initialiser.now in
    where-relays (IsNamed entry object.number) LocalFits bare_over source now _
    (λ later s. object_initialised setting entry object.number object.here object.at one s (type_over later c.args.kind))
    c.from_residual.result c.in_err-initial.field-0.0 c.from_residual.ensures.1
    (initial-fails setting source entry object.number object.here object.at one now _ c.args.kind refl refl (IsNamed entry object.number) c.in_err-initial.field-0.0
    (subst (λ fixed. Follows InitialFits initial_over source now.known c.typed_initialiser.new.known (Err c.in_err-initial.field-0.0)
    (λ later. typed_initialiser setting fixed (known_over later now.known) (type_over later c.args.kind) one)) (c.is_fixed-fixed.ensures ∙ ap is_fixed (sym means.1)) c.in_err-initial.ensures))

pub returns : goal.returns
returns c = λ entry means starts.
    let setting = setting_of c.args.typer.now in
    let source = source_of c.args.typer.now in
    let now = c.args.standing.now in
    let object = c.args.object.now in
    let one = syntax.initialiser c.args.initialiser.now in
    initial-made setting source entry object.number object.here object.at one now _ c.args.kind refl refl c.in_ok-initial.initial c.object_defined.new.standing c.object_defined.result
    (subst (λ fixed. Follows InitialFits initial_over source now.known c.typed_initialiser.new.known (Ok c.in_ok-initial.initial)
    (λ later. typed_initialiser setting fixed (known_over later now.known) (type_over later c.args.kind) one)) (c.is_fixed-fixed.ensures ∙ ap is_fixed (sym means.1)) c.in_ok-initial.ensures)
    (c.object_defined.ensures entry means starts)
