use Rattle.std.proofs.Common.{List, ℕ, ap, ◌∙◌}
use Rattle.dm_macro.specs.Bodies.{parameter_of}
use Rattle.dm_macro.proofs.BodyLemmas.{parameter_of-other, parameter_of-named, parameter_of-variable, parameter_of-word, parameter_of-fixed}
use Rattle.dm_macro.proofs.named.Parameters.parameter_of.Goals as goal
use Rattle.dm_macro.proofs.named.Parameters.parameter_of.Goals.{else-self-via-then-self+else-is_variable_arguments, else-self-via-else-self}

pub returns-then-not-is_identifier : goal.returns-then-not-is_identifier
returns-then-not-is_identifier c = parameter_of-other c.args.self.now c.args.token.now c.if-not-is_identifier.ensures

pub returns-in-Some : goal.returns-in-Some
returns-in-Some c =
    parameter_of-named c.self.inside.names.now c.self.inside.variadic c.args.token.now c.in-Some.position c.if-not-is_identifier.ensures c.in-Some.ensures
    ∙ ap (λ (names : List (List ℕ)). parameter_of names c.args.token.now) c.self.view_is

pub returns-then-is_variable_arguments : goal.returns-then-is_variable_arguments
returns-then-is_variable_arguments c =
    parameter_of-variable c.self.inside.names.now c.self.inside.variadic c.args.token.now c.if-not-is_identifier.ensures c.in_default.ensures c.if-self.true c.if-is_variable_arguments.ensures
    ∙ ap (λ (names : List (List ℕ)). parameter_of names c.args.token.now) c.self.view_is

pub returns : goal.returns
returns c =
    elim c.else-self.branch [
      | else-self-via-then-self+else-is_variable_arguments w ↦
          parameter_of-word c.self.inside.names.now c.self.inside.variadic c.args.token.now c.if-not-is_identifier.ensures c.in_default.ensures w.if-self.true w.if-is_variable_arguments.ensures
      | else-self-via-else-self w ↦
          parameter_of-fixed c.self.inside.names.now c.self.inside.variadic c.args.token.now c.if-not-is_identifier.ensures c.in_default.ensures w.if-self.false
    ]
    ∙ ap (λ (names : List (List ℕ)). parameter_of names c.args.token.now) c.self.view_is
