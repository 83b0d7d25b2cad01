-- A parameter with a new name, of a type that is no function.
use Rattle.std.specs.Prelude.{not, Some, None, Ok, Err, unwrap_or}
use Rattle.std.proofs.Common.{sym, ap, ◌∙◌}
use Rattle.dm_tree.specs.Scenes.{is_function}
use Rattle.dm_typing.specs.Known.{given, broken}
use Rattle.dm_typing.specs.Typing.{typed_parameter, is_new_parameter, parameter_declared}
use Rattle.dm_typing.specs.Views.{type_over, known_over, source_of, setting_of}
use Rattle.dm_edeclarator.specs.Steps.{parameter_over, ParameterFits}
use Rattle.dm_typing.proofs.GivesLemmas.{obeyed, disobeyed}
use Rattle.dm_typing.proofs.LaterLemmas.{begins-itself, type-later}
use Rattle.dm_edeclarator.proofs.ReachLemmas.{says, ends, done, breaks, relays}
use Rattle.dm_edeclarator.proofs.ParameterLemmas.{parameter-reaches, new-name}
use Rattle.dm_edeclarator.proofs.declarators.typed_parameter.Goals as goal

pub parameter_declared-requires-clause-new : goal.parameter_declared-requires-clause-new
parameter_declared-requires-clause-new c =
    new-name c.args.typer.now c.args.known.now c.adjusted.new.known c.args.name c.in-Some.at c.in_ok-kind.ensures.grows
    (λ later. sym (c.in_ok-is_new.ensures later) ∙ c.if-not-is_new.false) c.in-Some.is

pub returns-then-not-is_new : goal.returns-then-not-is_new
returns-then-not-is_new c =
    let old = c.args.known.now in
    breaks ParameterFits parameter_over (source_of c.args.typer.now) old old (λ later. typed_parameter (setting_of c.args.typer.now) (known_over later c.args.known.now) c.args.here (type_over later c.args.kind) c.args.name) 2 c.unwrap_or.result c.broken.result
    (record {
      shapes = begins-itself old.types.shapes;
      is = λ later on.
          disobeyed (is_new_parameter (setting_of c.args.typer.now) (known_over later old) c.args.name) 2 (unwrap_or c.args.name c.args.here) _
          (sym (c.in_ok-is_new.ensures later) ∙ c.if-not-is_new.true) ∙ ap (broken 2) (sym c.unwrap_or.ensures);
    }) c.broken.ensures

pub returns-then-is_function : goal.returns-then-is_function
returns-then-is_function c =
    let old = c.args.known.now in
    breaks ParameterFits parameter_over (source_of c.args.typer.now) old old (λ later. typed_parameter (setting_of c.args.typer.now) (known_over later c.args.known.now) c.args.here (type_over later c.args.kind) c.args.name) 5 c.args.here c.broken-then-is_function.result
    (record {
      shapes = begins-itself old.types.shapes;
      is = λ later on.
          obeyed (is_new_parameter (setting_of c.args.typer.now) (known_over later old) c.args.name) 2 (unwrap_or c.args.name c.args.here) _
          (sym (c.in_ok-is_new.ensures later) ∙ c.if-not-is_new.false)
          ∙ disobeyed (not (is_function (type_over later c.args.kind))) 5 c.args.here _
          (ap (λ type. not (is_function type)) (type-later old.types.shapes later c.args.kind on c.requires) ∙ ap not (sym c.is_function.ensures ∙ c.if-is_function.true));
    }) c.broken-then-is_function.ensures

pub returns-in_err-made-in-Some : goal.returns-in_err-made-in-Some
returns-in_err-made-in-Some c =
    relays ParameterFits parameter_over (source_of c.args.typer.now) c.args.known.now c.parameter_declared.new.known (λ later. typed_parameter (setting_of c.args.typer.now) (known_over later c.args.known.now) c.args.here (type_over later c.args.kind) c.args.name) c.from_residual-in_err-made-in-Some.result c.in_err-made-in-Some.field-0.0
    c.from_residual-in_err-made-in-Some.ensures.1
    (ends ParameterFits parameter_over (source_of c.args.typer.now) c.args.known.now c.adjusted.new.known c.parameter_declared.new.known (λ later. typed_parameter (setting_of c.args.typer.now) (known_over later c.args.known.now) c.args.here (type_over later c.args.kind) c.args.name) (λ later. parameter_declared (setting_of c.args.typer.now) (known_over later c.adjusted.new.known) (type_over later c.in_ok-kind.kind) (Some c.in-Some.at))
    (says c.args.known.now c.adjusted.new.known (λ later. typed_parameter (setting_of c.args.typer.now) (known_over later c.args.known.now) c.args.here (type_over later c.args.kind) c.args.name) (λ later. parameter_declared (setting_of c.args.typer.now) (known_over later c.adjusted.new.known) (type_over later c.in_ok-kind.kind) c.args.name) (λ later. parameter_declared (setting_of c.args.typer.now) (known_over later c.adjusted.new.known) (type_over later c.in_ok-kind.kind) (Some c.in-Some.at)) (parameter-reaches c.args.typer.now c.args.known.now c.adjusted.new.known c.args.here c.args.kind c.in_ok-kind.kind c.args.name c.in_ok-kind.ensures.grows c.requires (λ later. sym (c.in_ok-is_new.ensures later) ∙ c.if-not-is_new.false) (sym c.is_function.ensures ∙ c.if-is_function.false) c.in_ok-kind.ensures.made)
    (λ later on. ap (parameter_declared (setting_of c.args.typer.now) (known_over later c.adjusted.new.known) (type_over later c.in_ok-kind.kind)) c.in-Some.is)) (Err c.in_err-made-in-Some.field-0.0) c.in_err-made-in-Some.ensures)

pub returns-in-None : goal.returns-in-None
returns-in-None c =
    done ParameterFits parameter_over (source_of c.args.typer.now) c.args.known.now c.adjusted.new.known (λ later. typed_parameter (setting_of c.args.typer.now) (known_over later c.args.known.now) c.args.here (type_over later c.args.kind) c.args.name) (record { kind = c.in_ok-kind.kind; declared = None })
    (says c.args.known.now c.adjusted.new.known (λ later. typed_parameter (setting_of c.args.typer.now) (known_over later c.args.known.now) c.args.here (type_over later c.args.kind) c.args.name) (λ later. parameter_declared (setting_of c.args.typer.now) (known_over later c.adjusted.new.known) (type_over later c.in_ok-kind.kind) c.args.name) (λ later. given (known_over later c.adjusted.new.known) (record { kind = type_over later c.in_ok-kind.kind; declared = None })) (parameter-reaches c.args.typer.now c.args.known.now c.adjusted.new.known c.args.here c.args.kind c.in_ok-kind.kind c.args.name c.in_ok-kind.ensures.grows c.requires (λ later. sym (c.in_ok-is_new.ensures later) ∙ c.if-not-is_new.false) (sym c.is_function.ensures ∙ c.if-is_function.false) c.in_ok-kind.ensures.made)
    (λ later on. ap (parameter_declared (setting_of c.args.typer.now) (known_over later c.adjusted.new.known) (type_over later c.in_ok-kind.kind)) c.in-None.is))
    c.in_ok-kind.ensures.numbered

pub returns-in_ok-made-in-Some : goal.returns-in_ok-made-in-Some
returns-in_ok-made-in-Some c =
    ends ParameterFits parameter_over (source_of c.args.typer.now) c.args.known.now c.adjusted.new.known c.parameter_declared.new.known (λ later. typed_parameter (setting_of c.args.typer.now) (known_over later c.args.known.now) c.args.here (type_over later c.args.kind) c.args.name) (λ later. parameter_declared (setting_of c.args.typer.now) (known_over later c.adjusted.new.known) (type_over later c.in_ok-kind.kind) (Some c.in-Some.at))
    (says c.args.known.now c.adjusted.new.known (λ later. typed_parameter (setting_of c.args.typer.now) (known_over later c.args.known.now) c.args.here (type_over later c.args.kind) c.args.name) (λ later. parameter_declared (setting_of c.args.typer.now) (known_over later c.adjusted.new.known) (type_over later c.in_ok-kind.kind) c.args.name) (λ later. parameter_declared (setting_of c.args.typer.now) (known_over later c.adjusted.new.known) (type_over later c.in_ok-kind.kind) (Some c.in-Some.at)) (parameter-reaches c.args.typer.now c.args.known.now c.adjusted.new.known c.args.here c.args.kind c.in_ok-kind.kind c.args.name c.in_ok-kind.ensures.grows c.requires (λ later. sym (c.in_ok-is_new.ensures later) ∙ c.if-not-is_new.false) (sym c.is_function.ensures ∙ c.if-is_function.false) c.in_ok-kind.ensures.made)
    (λ later on. ap (parameter_declared (setting_of c.args.typer.now) (known_over later c.adjusted.new.known) (type_over later c.in_ok-kind.kind)) c.in-Some.is)) (Ok c.in_ok-made-in-Some.made) c.in_ok-made-in-Some.ensures
