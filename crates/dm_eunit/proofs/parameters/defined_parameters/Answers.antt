-- The parameters in turn.
use Rattle.std.specs.Prelude.{true, List, [], ◌∷◌, ◌++◌, ◌+◌, ◌==◌, length, map, drop}
use Rattle.std.proofs.Common.{sym, ap, ◌∙◌, subst}
use Rattle.std.proofs.lemmas.List.{map-append}
use Rattle.std.proofs.lemmas.List.Elements.{All-nil, All-push}
use Rattle.dm_type.specs.declared.shape.Shape.{Shape}
use Rattle.dm_syn.specs.Views as syntax
use Rattle.dm_typing.specs.Known.{Known, after}
use Rattle.dm_typing.specs.Views.{known_over, source_of, setting_of}
use Rattle.dm_edeclarator.specs.Steps.{parameter_over, ParameterFits, parameters_over, ParametersFit}
use Rattle.dm_edeclarator.proofs.FitLemmas.{parameters-later}
use Rattle.dm_edeclarator.proofs.ReachLemmas.{begins, says, passes, fails, relays}
use Rattle.dm_edecl.specs.Units as units
use Rattle.dm_eexpr.proofs.LoopLemmas.{onward, onward-none, cut}
use Rattle.dm_eunit.proofs.ParameterLemmas.{all_defined, all-defined, one-by-length, all-next}
use Rattle.dm_eunit.proofs.parameters.defined_parameters.Goals as goal

pub loop-parameter-init : goal.loop-parameter-init
loop-parameter-init c =
    let setting = setting_of c.args.typer.now in
    let all = syntax.parameters (map syntax.parameter c.args.parameters.now) in (
      begins c.args.known.now (λ later. units.defined_parameters setting true (known_over later c.args.known.now) all)
          (λ later. onward (parameters_over later c.new-typed.result) (all_defined setting (length c.args.parameters.now == 1) (known_over later c.args.known.now) all))
          (λ later. all-defined setting (known_over later c.args.known.now) all
          ∙ ap (λ alone. all_defined setting alone (known_over later c.args.known.now) all) (sym (one-by-length c.args.parameters.now))
          ∙ onward-none (all_defined setting (length c.args.parameters.now == 1) (known_over later c.args.known.now) all)
          ∙ ap (λ list. onward (parameters_over later list) (all_defined setting (length c.args.parameters.now == 1) (known_over later c.args.known.now) all)) (sym c.new-typed.ensures)),
      subst (ParametersFit c.args.known.now.types) (sym c.new-typed.ensures) (All-nil (ParameterFits c.args.known.now.types)),
    )

pub returns-in_err-one : goal.returns-in_err-one
returns-in_err-one c =
    let setting = setting_of c.args.typer.now in
    let alone = length c.args.parameters.now == 1 in
    let whole = λ (later : List Shape). units.defined_parameters setting true (known_over later c.args.known.now) (syntax.parameters (map syntax.parameter c.args.parameters.now)) in
    let rest = λ (known : Known). all_defined setting alone known (syntax.parameters (map syntax.parameter (drop (c.loop-parameter.parameter-index + 1) c.args.parameters.now))) in
    relays ParametersFit parameters_over (source_of c.args.typer.now) c.args.known.now c.defined_parameter.new.known whole c.from_residual.result c.in_err-one.field-0.0 c.from_residual.ensures.1
    (fails ParameterFits parameter_over (source_of c.args.typer.now) c.args.known.now c.loop-parameter.known c.defined_parameter.new.known whole ParametersFit parameters_over
    (λ later. units.defined_parameter setting alone (known_over later c.loop-parameter.known) (syntax.parameter c.parameter-item.result))
    (λ later then_known made. onward (parameters_over later c.loop-parameter.typed ++ made ∷ []) (rest then_known)) c.in_err-one.field-0.0
    (says c.args.known.now c.loop-parameter.known whole
    (λ later. onward (parameters_over later c.loop-parameter.typed) (all_defined setting alone (known_over later c.loop-parameter.known) (syntax.parameters (map syntax.parameter (drop c.loop-parameter.parameter-index c.args.parameters.now)))))
    (λ later. after (units.defined_parameter setting alone (known_over later c.loop-parameter.known) (syntax.parameter c.parameter-item.result))
    (λ then_known made. onward (parameters_over later c.loop-parameter.typed ++ made ∷ []) (rest then_known)))
    c.loop-parameter.invariant.0
    (λ later on. ap (λ items. onward (parameters_over later c.loop-parameter.typed) (all_defined setting alone (known_over later c.loop-parameter.known) (syntax.parameters (map syntax.parameter items))))
    (cut c.args.parameters.now c.loop-parameter.parameter-index c.parameter-item.result c.loop-parameter-test.true c.parameter-item.is)
    ∙ all-next setting alone (known_over later c.loop-parameter.known) (parameters_over later c.loop-parameter.typed) (syntax.parameter c.parameter-item.result)
    (syntax.parameters (map syntax.parameter (drop (c.loop-parameter.parameter-index + 1) c.args.parameters.now)))))
    c.in_err-one.ensures)

pub loop-parameter-preserved : goal.loop-parameter-preserved
loop-parameter-preserved c =
    let setting = setting_of c.args.typer.now in
    let alone = length c.args.parameters.now == 1 in
    let new = c.defined_parameter.new.known in
    let whole = λ (later : List Shape). units.defined_parameters setting true (known_over later c.args.known.now) (syntax.parameters (map syntax.parameter c.args.parameters.now)) in
    let rest = λ (known : Known). all_defined setting alone known (syntax.parameters (map syntax.parameter (drop (c.loop-parameter.parameter-index + 1) c.args.parameters.now))) in
    let passed = passes ParameterFits parameter_over (source_of c.args.typer.now) c.args.known.now c.loop-parameter.known new whole
    (λ later. units.defined_parameter setting alone (known_over later c.loop-parameter.known) (syntax.parameter c.parameter-item.result))
    (λ later then_known made. onward (parameters_over later c.loop-parameter.typed ++ made ∷ []) (rest then_known)) c.in_ok-one.one
    (says c.args.known.now c.loop-parameter.known whole
    (λ later. onward (parameters_over later c.loop-parameter.typed) (all_defined setting alone (known_over later c.loop-parameter.known) (syntax.parameters (map syntax.parameter (drop c.loop-parameter.parameter-index c.args.parameters.now)))))
    (λ later. after (units.defined_parameter setting alone (known_over later c.loop-parameter.known) (syntax.parameter c.parameter-item.result))
    (λ then_known made. onward (parameters_over later c.loop-parameter.typed ++ made ∷ []) (rest then_known)))
    c.loop-parameter.invariant.0
    (λ later on. ap (λ items. onward (parameters_over later c.loop-parameter.typed) (all_defined setting alone (known_over later c.loop-parameter.known) (syntax.parameters (map syntax.parameter items))))
    (cut c.args.parameters.now c.loop-parameter.parameter-index c.parameter-item.result c.loop-parameter-test.true c.parameter-item.is)
    ∙ all-next setting alone (known_over later c.loop-parameter.known) (parameters_over later c.loop-parameter.typed) (syntax.parameter c.parameter-item.result)
    (syntax.parameters (map syntax.parameter (drop (c.loop-parameter.parameter-index + 1) c.args.parameters.now)))))
    c.in_ok-one.ensures in (
      says c.args.known.now new whole (λ later. onward (parameters_over later c.loop-parameter.typed ++ parameter_over later c.in_ok-one.one ∷ []) (rest (known_over later new)))
          (λ later. onward (parameters_over later c.push.new.self) (rest (known_over later new))) passed
          (λ later on. ap (λ values. onward values (rest (known_over later new)))
          (sym (ap (map (parameter_over later)) c.in_ok-push.ensures.ok ∙ map-append (parameter_over later) c.loop-parameter.typed (c.in_ok-one.one ∷ [])))),
      subst (ParametersFit new.types) (sym c.in_ok-push.ensures.ok)
          (All-push (ParameterFits new.types) c.loop-parameter.typed c.in_ok-one.one
          (parameters-later c.loop-parameter.known.types new.types c.loop-parameter.typed c.in_ok-one.ensures.shapes c.loop-parameter.invariant.1) c.in_ok-one.ensures.numbered),
    )
