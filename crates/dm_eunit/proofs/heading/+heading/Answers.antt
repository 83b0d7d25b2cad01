-- The parts of the declarator in turn.
use Rattle.std.specs.Prelude.{true, List, ◌++◌, map, option_map}
use Rattle.std.proofs.Common.{sym, ap, ◌∙◌}
use Rattle.dm_type.specs.declared.shape.Shape.{Shape}
use Rattle.dm_syn.specs.Trees as tree
use Rattle.dm_syn.specs.Views as syntax
use Rattle.dm_typing.specs.Known.{with_it}
use Rattle.dm_typing.specs.Typing.{pointers, direct_at}
use Rattle.dm_typing.specs.Views.{known_over, source_of, setting_of}
use Rattle.dm_edeclarator.specs.Steps.{steps_over}
use Rattle.dm_edeclarator.proofs.DeclaratorStepLemmas.{view-declarator}
use Rattle.dm_edeclarator.proofs.ReachLemmas.{relays, alike, with-made, with-fails}
use Rattle.dm_eexpr.proofs.SyntaxViewLemmas.{view-enclosed}
use Rattle.dm_eexpr.specs.Parts.{array_steps, calling_steps}
use Rattle.dm_eunit.specs.Headings.{begun_over, BegunFits}
use Rattle.dm_eunit.specs.Parts.{Begun, declarator_begun, direct_begun, own_begun, stepped, pointed}
use Rattle.dm_eunit.proofs.HeadingLemmas.{shaped-begun, enclosed-begun, array-begun, called-begun, own-is-begun}
use Rattle.dm_eunit.proofs.HeadingSteps.{first-fails, second-fails, both-made}
use Rattle.dm_eunit.proofs.heading.+heading.Goals as goal

pub array_begun-returns-in_err-begun : goal.array_begun-returns-in_err-begun
array_begun-returns-in_err-begun t c =
    let setting = setting_of c.args.typer.now in
    let direct = syntax.direct c.args.direct.now in
    let length = option_map syntax.expr c.args.length.now in
    let whole = λ (later : List Shape). direct_begun setting (known_over later c.args.known.now) c.args.here (syntax.array_view direct length) in
    relays BegunFits begun_over (source_of c.args.typer.now) c.args.known.now c.direct_begun.new.known whole c.from_residual.result c.in_err-begun.field-0.0 c.from_residual.ensures.1
    (first-fails (source_of c.args.typer.now) c.args.known.now whole (λ later. direct_begun setting (known_over later c.args.known.now) c.args.here direct)
    (λ later known steps. array_steps setting true known c.args.here steps length) (λ later. array-begun setting (known_over later c.args.known.now) c.args.here direct length)
    c.direct_begun.new.known c.in_err-begun.field-0.0 c.in_err-begun.ensures)

pub array_begun-returns-in_err-steps : goal.array_begun-returns-in_err-steps
array_begun-returns-in_err-steps t c =
    let setting = setting_of c.args.typer.now in
    let direct = syntax.direct c.args.direct.now in
    let length = option_map syntax.expr c.args.length.now in
    let whole = λ (later : List Shape). direct_begun setting (known_over later c.args.known.now) c.args.here (syntax.array_view direct length) in
    relays BegunFits begun_over (source_of c.args.typer.now) c.args.known.now c.array_with.new.known whole c.from_residual-in_err-steps.result c.in_err-steps.field-0.0 c.from_residual-in_err-steps.ensures.1
    (second-fails (source_of c.args.typer.now) c.args.known.now whole (λ later. direct_begun setting (known_over later c.args.known.now) c.args.here direct)
    (λ later known steps. array_steps setting true known c.args.here steps length) (λ later. array-begun setting (known_over later c.args.known.now) c.args.here direct length)
    c.direct_begun.new.known c.array_with.new.known c.in_ok-begun.begun c.in_ok-begun.ensures c.in_err-steps.field-0.0 c.in_err-steps.ensures)

pub array_begun-returns : goal.array_begun-returns
array_begun-returns t c =
    let setting = setting_of c.args.typer.now in
    let direct = syntax.direct c.args.direct.now in
    let length = option_map syntax.expr c.args.length.now in
    both-made (source_of c.args.typer.now) c.args.known.now (λ later. direct_begun setting (known_over later c.args.known.now) c.args.here (syntax.array_view direct length))
    (λ later. direct_begun setting (known_over later c.args.known.now) c.args.here direct)
    (λ later known steps. array_steps setting true known c.args.here steps length) (λ later. array-begun setting (known_over later c.args.known.now) c.args.here direct length)
    c.direct_begun.new.known c.array_with.new.known c.in_ok-begun.begun c.in_ok-begun.ensures c.in_ok-steps.steps c.in_ok-steps.ensures

pub called_begun-returns-in_err-begun : goal.called_begun-returns-in_err-begun
called_begun-returns-in_err-begun t c =
    let setting = setting_of c.args.typer.now in
    let direct = syntax.direct c.args.direct.now in
    let parameters = syntax.parameters (map syntax.parameter c.args.parameters.now) in
    let whole = λ (later : List Shape). direct_begun setting (known_over later c.args.known.now) c.args.here (tree.function direct parameters) in
    relays BegunFits begun_over (source_of c.args.typer.now) c.args.known.now c.direct_begun.new.known whole c.from_residual.result c.in_err-begun.field-0.0 c.from_residual.ensures.1
    (first-fails (source_of c.args.typer.now) c.args.known.now whole (λ later. direct_begun setting (known_over later c.args.known.now) c.args.here direct)
    (λ later known steps. calling_steps setting true known c.args.here steps parameters) (λ later. called-begun setting (known_over later c.args.known.now) c.args.here direct parameters c.requires)
    c.direct_begun.new.known c.in_err-begun.field-0.0 c.in_err-begun.ensures)

pub called_begun-returns-in_err-steps : goal.called_begun-returns-in_err-steps
called_begun-returns-in_err-steps t c =
    let setting = setting_of c.args.typer.now in
    let direct = syntax.direct c.args.direct.now in
    let parameters = syntax.parameters (map syntax.parameter c.args.parameters.now) in
    let whole = λ (later : List Shape). direct_begun setting (known_over later c.args.known.now) c.args.here (tree.function direct parameters) in
    relays BegunFits begun_over (source_of c.args.typer.now) c.args.known.now c.calling.new.known whole c.from_residual-in_err-steps.result c.in_err-steps.field-0.0 c.from_residual-in_err-steps.ensures.1
    (second-fails (source_of c.args.typer.now) c.args.known.now whole (λ later. direct_begun setting (known_over later c.args.known.now) c.args.here direct)
    (λ later known steps. calling_steps setting true known c.args.here steps parameters) (λ later. called-begun setting (known_over later c.args.known.now) c.args.here direct parameters c.requires)
    c.direct_begun.new.known c.calling.new.known c.in_ok-begun.begun c.in_ok-begun.ensures c.in_err-steps.field-0.0 c.in_err-steps.ensures)

pub called_begun-returns : goal.called_begun-returns
called_begun-returns t c =
    let setting = setting_of c.args.typer.now in
    let direct = syntax.direct c.args.direct.now in
    let parameters = syntax.parameters (map syntax.parameter c.args.parameters.now) in
    both-made (source_of c.args.typer.now) c.args.known.now (λ later. direct_begun setting (known_over later c.args.known.now) c.args.here (tree.function direct parameters))
    (λ later. direct_begun setting (known_over later c.args.known.now) c.args.here direct)
    (λ later known steps. calling_steps setting true known c.args.here steps parameters) (λ later. called-begun setting (known_over later c.args.known.now) c.args.here direct parameters c.requires)
    c.direct_begun.new.known c.calling.new.known c.in_ok-begun.begun c.in_ok-begun.ensures c.in_ok-steps.steps c.in_ok-steps.ensures

pub declarator_begun-returns-in_err-begun : goal.declarator_begun-returns-in_err-begun
declarator_begun-returns-in_err-begun t c =
    let setting = setting_of c.args.typer.now in
    let one = c.args.declarator.now in
    let whole = λ (later : List Shape). declarator_begun setting (known_over later c.args.known.now) (syntax.declarator one) in
    relays BegunFits begun_over (source_of c.args.typer.now) c.args.known.now c.direct_begun.new.known whole c.from_residual-in_err-begun.result c.in_err-begun.field-0.0 c.from_residual-in_err-begun.ensures.1
    (with-fails BegunFits begun_over BegunFits begun_over (source_of c.args.typer.now) c.args.known.now c.direct_begun.new.known whole
    (λ later. direct_begun setting (known_over later c.args.known.now) c.in_ok-here.here (syntax.direct one.direct)) (λ (later : List Shape) (begun : Begun). pointed one.span.first one.pointers begun)
    (λ later. ap (declarator_begun setting (known_over later c.args.known.now)) (view-declarator one)
    ∙ shaped-begun setting (known_over later c.args.known.now) one.span one.pointers (syntax.direct one.direct)
    ∙ ap (λ here. with_it (direct_begun setting (known_over later c.args.known.now) here (syntax.direct one.direct)) (λ behind begun. pointed one.span.first one.pointers begun))
    (sym (c.in_ok-here.ensures ∙ ap (direct_at one.span.first) c.items-pointers.ensures)))
    c.in_err-begun.field-0.0 c.in_err-begun.ensures)

pub declarator_begun-returns : goal.declarator_begun-returns
declarator_begun-returns t c =
    let setting = setting_of c.args.typer.now in
    let one = c.args.declarator.now in
    let whole = λ (later : List Shape). declarator_begun setting (known_over later c.args.known.now) (syntax.declarator one) in
    with-made BegunFits begun_over BegunFits begun_over (source_of c.args.typer.now) c.args.known.now c.direct_begun.new.known whole
    (λ later. direct_begun setting (known_over later c.args.known.now) c.in_ok-here.here (syntax.direct one.direct)) (λ (later : List Shape) (begun : Begun). pointed one.span.first one.pointers begun)
    (λ later. ap (declarator_begun setting (known_over later c.args.known.now)) (view-declarator one)
    ∙ shaped-begun setting (known_over later c.args.known.now) one.span one.pointers (syntax.direct one.direct)
    ∙ ap (λ here. with_it (direct_begun setting (known_over later c.args.known.now) here (syntax.direct one.direct)) (λ behind begun. pointed one.span.first one.pointers begun))
    (sym (c.in_ok-here.ensures ∙ ap (direct_at one.span.first) c.items-pointers.ensures)))
    c.in_ok-begun.begun (record { steps = c.in_ok-steps.steps; own = c.in_ok-begun.begun.own }) c.in_ok-begun.ensures
    (λ later on. ap (stepped (begun_over later c.in_ok-begun.begun))
    (c.in_ok-steps.ensures.steps later ∙ ap (λ stars. pointers one.span.first stars ++ steps_over later c.in_ok-begun.begun.steps) c.items-pointers.ensures))
    (c.in_ok-steps.ensures.numbered c.direct_begun.new.known.types c.in_ok-begun.ensures.numbered)

pub direct_begun-returns-in-Paren : goal.direct_begun-returns-in-Paren
direct_begun-returns-in-Paren t c =
    let setting = setting_of c.args.typer.now in
    alike BegunFits begun_over (source_of c.args.typer.now) c.args.known.now c.declarator_begun.new.known
    (λ later. direct_begun setting (known_over later c.args.known.now) c.args.here (syntax.direct c.args.direct.now))
    (λ later. declarator_begun setting (known_over later c.args.known.now) (syntax.declarator c.get.result.now))
    (λ later. ap (λ d. direct_begun setting (known_over later c.args.known.now) c.args.here (syntax.direct d)) c.in-Paren.is
    ∙ ap (direct_begun setting (known_over later c.args.known.now) c.args.here) (view-enclosed c.in-Paren.enclosed)
    ∙ enclosed-begun setting (known_over later c.args.known.now) c.args.here (syntax.declarator c.in-Paren.enclosed)
    ∙ ap (λ x. declarator_begun setting (known_over later c.args.known.now) (syntax.declarator x)) (sym c.get.ensures))
    c.declarator_begun.result c.declarator_begun.ensures

pub function_begun-returns-then-is_bare : goal.function_begun-returns-then-is_bare
function_begun-returns-then-is_bare t c =
    let setting = setting_of c.args.typer.now in
    let direct = syntax.direct c.args.direct.now in
    let parameters = syntax.parameters (map syntax.parameter c.args.parameters.now) in
    alike BegunFits begun_over (source_of c.args.typer.now) c.args.known.now c.own_begun.new.known
    (λ later. direct_begun setting (known_over later c.args.known.now) c.args.here (tree.function direct parameters))
    (λ later. own_begun setting (known_over later c.args.known.now) c.args.here parameters)
    (λ later. own-is-begun setting (known_over later c.args.known.now) c.args.here direct parameters (sym c.is_bare.ensures ∙ c.if-is_bare.true))
    c.own_begun.result c.own_begun.ensures
