-- The definition's own parameters.
use Rattle.std.specs.Prelude.{map, ◌∷◌, List}
use Rattle.std.proofs.Common.{rules, sym, ap, subst, ◌∙◌}
use Rattle.std.proofs.lemmas.List.Elements.{All-nil}
use Rattle.dm_syn.specs.Views as syntax
use Rattle.dm_typing.specs.Typing.{calling, without_void}
use Rattle.dm_edeclarator.specs.declared.declarators.TypedParameter.{TypedParameter as TypedHeld}
use Rattle.dm_edeclarator.specs.Steps.{parameter_over, steps_over, StepFits, StepsFit}
use Rattle.dm_edecl.specs.Units.{numbers_of}
use Rattle.dm_eunit.proofs.HeadingSteps.{own-open, own-made}
use Rattle.dm_eunit.proofs.heading.own_begun.Goals as goal

pub leave-requires : goal.leave-requires
leave-requires c =
    own-open c.args.typer.now (syntax.parameters (map syntax.parameter c.args.parameters.now)) c.args.here c.args.known.now c.enter.new.known c.defined_parameters.new.known c.in_ok-enter.ensures.rest
    c.in_ok-enter.ensures.scopes c.in_ok-typed.typed c.in_ok-typed.ensures c.in_ok-enter.ensures.outside

pub returns : goal.returns
returns c =
    own-made c.args.typer.now (syntax.parameters (map syntax.parameter c.args.parameters.now)) c.args.here c.args.known.now c.enter.new.known c.defined_parameters.new.known c.in_ok-enter.ensures.rest
    c.in_ok-enter.ensures.scopes c.in_ok-typed.typed c.in_ok-typed.ensures c.in-Ok.from (search rules) (record { numbers = c.in_ok-numbers.numbers; names = c.in_ok-names.names }) c.in_ok-names.ensures
    c.leave.new.known c.leave.ensures.rest c.leave.ensures.scopes
    (λ later. c.in_ok-numbers.ensures later ∙ ap (λ (typed : List TypedHeld). numbers_of (map (parameter_over later) typed)) c.items.ensures)
    c.in_ok-steps.steps
    (λ later on. c.in_ok-steps.ensures.steps later on ∙ ap (λ steps. calling c.args.here (without_void (map (parameter_over later) c.in_ok-typed.typed)) ∷ steps_over later steps) c.new.ensures)
    (c.in_ok-steps.ensures.numbered (subst (StepsFit c.leave.new.known.types) (sym c.new.ensures) (All-nil (StepFits c.leave.new.known.types))))
