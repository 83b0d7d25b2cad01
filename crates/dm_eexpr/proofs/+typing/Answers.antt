-- Each step of the cycle gives what the definition does: the calls in their order, and what is left behind each.
use Rattle.std.specs.Prelude.{negsuc, ℕ, ℤ, pos, ◌+ℤ◌, ◌+◌, List, ◌++◌, map, drop, All, Option, unwrap_or, option_map, Ok, ◌≡◌, refl}
use Rattle.std.proofs.Common.{sym, ap, ◌∙◌, subst, rules, to_z, of_z}
use Rattle.std.proofs.lemmas.List.Elements.{All-nil, All-push}
use mir.Syntax.{w32}
use Rattle.dm_token.specs.declared.place.Span.{Span}
use Rattle.dm_type.specs.declared.shape.Shape.{Shape}
use Rattle.dm_type.specs.Tables.{Table, IsId}
use Rattle.dm_syn.specs.declared.declaration.Declarator.{Declarator}
use Rattle.dm_syn.specs.declared.declaration.EnumItem.{out-EnumItem}
use Rattle.dm_syn.specs.Scopes.{declarator_name}
use Rattle.dm_syn.specs.Sources.{spelling_at}
use Rattle.dm_syn.specs.Views as syntax
use Rattle.dm_typing.specs.Known.{Known, given}
use Rattle.dm_typing.specs.Fitting.{IsNumbered, AreNumbered}
use Rattle.dm_typing.specs.Specifiers.{with_word}
use Rattle.dm_typing.specs.Typing.{constant_tree, literal_tree, typed, typed_values, typed_cast, words_said, fields_of, fields_with, enumerators_of, enumerator_declared, enumerator_valued, pointers, direct_at, length_of, parameters_of, typed_parameter, parameter_at as fault_at}
use Rattle.dm_typing.specs.Views.{Begins, type_over, view_over, known_over, source_of, setting_of, Gives}
use Rattle.dm_edeclarator.specs.Steps.{where_of, said_over, SaidFits, member_over, MemberFits, fields_over, FieldsFit, steps_over, StepsFit, parameter_over, ParameterFits, ParametersFit, name_over, NameFits, number_itself, StepFits, parameter_at as parameter_fault, Follows}
use Rattle.dm_eexpr.specs.Parts.{array_steps, typed_with}
use Rattle.dm_edeclarator.proofs.ReachLemmas.{begins, done, relays, alike, Reaches}
use Rattle.dm_edeclarator.proofs.FitLemmas.{id-later, said-later, parameters-later, steps-later, anything-if-ok}
use Rattle.dm_typing.proofs.LaterLemmas.{begins-itself, begins-on, known-later, trees-later}
use Rattle.dm_typing.proofs.ValueLemmas.{bare-later}
use Rattle.dm_eexpr.proofs.AwaitLemmas.{call-fails, call-passes, call-ends, call-starves, first-of, second-of, first-of-three, others-of, makes-fails, makes-made, tree-made, onward-pushed}
use Rattle.dm_eexpr.proofs.CloseLemmas.{name-fails, name-made, left-open, left-made}
use Rattle.dm_eexpr.proofs.CycleLemmas.{value-made, if-ok}
use Rattle.dm_eexpr.proofs.ExpressionCalls.{member-call, arrow-call, postfix-call, prefix-call, sizeof-call, sizeof-name-call, comma-call, index-calls, binary-calls, assign-calls, call-calls, cast-calls, conditional-calls, name-formed, constant-formed, literal-formed, paren-formed, value-call, values-done, values-begun}
use Rattle.dm_eexpr.proofs.SyntaxCalls.{name-is, specifiers-call, word-is, typedef-is, struct-makes, enum-makes, declared-call, bare-is, valued-is, enumerator-call, steps-makes, absent-reaches, declared-reaches, enclosed-is, array-call, function-call, sized-call, length-makes, calling-makes, parameter-call, word-call, words-done, members-call, members-done, declarator-call, declarators-done, item-call, items-done, one-call, parameters-done, parameters-begun}
use Rattle.dm_eexpr.proofs.SyntaxViewLemmas.{span-expr, view-parameter}
use Rattle.dm_eexpr.proofs.TagCycleLemmas.{struct-innermost, struct-made}
use Rattle.dm_eexpr.proofs.+typing.Goals as goal

-- ---- expressions

pub expressions::value_of-returns : goal.expressions::value_of-returns
expressions::value_of-returns t c =
    value-made (source_of c.args.typer.now) c.args.known.now c.typed.new.known c.as_value.new.known (λ later. typed (setting_of c.args.typer.now) c.args.used (known_over later c.args.known.now) (syntax.expr c.args.expr.now))
    c.in_ok-tree.tree c.in_ok-made.made c.in_ok-tree.ensures c.as_value.ensures.grows c.in_ok-made.ensures.numbered c.in_ok-made.ensures.value

pub expressions::member_form-returns-in_err-whole : goal.expressions::member_form-returns-in_err-whole
expressions::member_form-returns-in_err-whole t c =
    call-fails (member-call c.args.typer.now c.args.used c.args.known.now c.args.at c.args.whole.now c.args.name) c.in_err-whole.ensures c.from_residual.ensures.1

pub expressions::member_form-returns : goal.expressions::member_form-returns
expressions::member_form-returns t c =
    call-ends (member-call c.args.typer.now c.args.used c.args.known.now c.args.at c.args.whole.now c.args.name) c.in_ok-whole.ensures
    (record { shapes = c.typed_member.ensures.grows.shapes; numbered = c.typed_member.ensures.numbered; gives = c.typed_member.ensures.gives })

pub expressions::arrow_form-returns-in_err-pointing : goal.expressions::arrow_form-returns-in_err-pointing
expressions::arrow_form-returns-in_err-pointing t c =
    call-fails (arrow-call c.args.typer.now c.args.used c.args.known.now c.args.at c.args.pointing.now c.args.name) c.in_err-pointing.ensures c.from_residual.ensures.1

pub expressions::arrow_form-returns : goal.expressions::arrow_form-returns
expressions::arrow_form-returns t c =
    call-ends (arrow-call c.args.typer.now c.args.used c.args.known.now c.args.at c.args.pointing.now c.args.name) c.in_ok-pointing.ensures
    (record { shapes = c.typed_arrow.ensures.grows.shapes; numbered = c.typed_arrow.ensures.numbered; gives = c.typed_arrow.ensures.gives })

pub expressions::postfix_form-returns-in_err-operand : goal.expressions::postfix_form-returns-in_err-operand
expressions::postfix_form-returns-in_err-operand t c =
    call-fails (postfix-call c.args.typer.now c.args.used c.args.known.now c.args.at c.args.operand.now c.args.operator) c.in_err-operand.ensures c.from_residual.ensures.1

pub expressions::postfix_form-returns : goal.expressions::postfix_form-returns
expressions::postfix_form-returns t c =
    call-ends (postfix-call c.args.typer.now c.args.used c.args.known.now c.args.at c.args.operand.now c.args.operator) c.in_ok-operand.ensures
    (record { shapes = begins-itself c.typed.new.known.types.shapes; numbered = c.typed_count.ensures.numbered; gives = c.typed_count.ensures.gives })

pub expressions::prefix_form-returns-in_err-operand : goal.expressions::prefix_form-returns-in_err-operand
expressions::prefix_form-returns-in_err-operand t c =
    call-fails (prefix-call c.args.typer.now c.args.used c.args.known.now c.args.at c.args.operator c.args.operand.now) c.in_err-operand.ensures c.from_residual.ensures.1

pub expressions::prefix_form-returns : goal.expressions::prefix_form-returns
expressions::prefix_form-returns t c =
    call-ends (prefix-call c.args.typer.now c.args.used c.args.known.now c.args.at c.args.operator c.args.operand.now) c.in_ok-operand.ensures
    (record { shapes = c.typed_prefix.ensures.grows.shapes; numbered = c.typed_prefix.ensures.numbered; gives = c.typed_prefix.ensures.gives })

pub expressions::sizeof_form-returns-in_err-operand : goal.expressions::sizeof_form-returns-in_err-operand
expressions::sizeof_form-returns-in_err-operand t c = call-fails (sizeof-call c.args.typer.now c.args.used c.args.known.now c.args.at c.args.operand.now) c.in_err-operand.ensures c.from_residual.ensures.1

pub expressions::sizeof_form-returns : goal.expressions::sizeof_form-returns
expressions::sizeof_form-returns t c =
    call-ends (sizeof-call c.args.typer.now c.args.used c.args.known.now c.args.at c.args.operand.now) c.in_ok-operand.ensures
    (record { shapes = c.typed_sizeof.ensures.grows.shapes; numbered = c.typed_sizeof.ensures.numbered; gives = c.typed_sizeof.ensures.gives })

pub expressions::sizeof_name_form-returns-in_err-named : goal.expressions::sizeof_name_form-returns-in_err-named
expressions::sizeof_name_form-returns-in_err-named t c = call-fails (sizeof-name-call c.args.typer.now c.args.used c.args.known.now c.args.at c.args.name.now) c.in_err-named.ensures c.from_residual.ensures.1

pub expressions::sizeof_name_form-returns : goal.expressions::sizeof_name_form-returns
expressions::sizeof_name_form-returns t c =
    call-ends (sizeof-name-call c.args.typer.now c.args.used c.args.known.now c.args.at c.args.name.now) c.in_ok-named.ensures
    (record { shapes = c.typed_sizeof_name.ensures.grows.shapes; numbered = c.typed_sizeof_name.ensures.numbered; gives = c.typed_sizeof_name.ensures.gives })

pub expressions::comma_form-returns-in_err-values : goal.expressions::comma_form-returns-in_err-values
expressions::comma_form-returns-in_err-values t c = call-fails (comma-call c.args.typer.now c.args.used c.args.known.now c.args.at c.args.parts.now) c.in_err-values.ensures c.from_residual.ensures.1

pub expressions::comma_form-returns : goal.expressions::comma_form-returns
expressions::comma_form-returns t c =
    call-ends (comma-call c.args.typer.now c.args.used c.args.known.now c.args.at c.args.parts.now) c.in_ok-values.ensures
    (record {
      shapes = begins-itself c.values.new.known.types.shapes;
      numbered = if-ok (λ made. (types : Table) → AreNumbered types c.in_ok-values.values → IsNumbered types made) (IsNumbered c.values.new.known.types) c.comma_of.result
          (λ made all. all c.values.new.known.types c.in_ok-values.ensures.numbered) c.comma_of.ensures.numbered;
      gives = λ later on. c.comma_of.ensures.gives later (known_over later c.values.new.known);
    })

pub expressions::index_form-returns-in_err-a : goal.expressions::index_form-returns-in_err-a
expressions::index_form-returns-in_err-a t c = call-fails (first-of (index-calls c.args.typer.now c.args.used c.args.known.now c.args.at c.args.a.now c.args.b.now)) c.in_err-a.ensures c.from_residual.ensures.1

pub expressions::index_form-returns-in_err-b : goal.expressions::index_form-returns-in_err-b
expressions::index_form-returns-in_err-b t c =
    call-fails (second-of (index-calls c.args.typer.now c.args.used c.args.known.now c.args.at c.args.a.now c.args.b.now) c.in_ok-a.ensures) c.in_err-b.ensures c.from_residual-in_err-b.ensures.1

pub expressions::index_form-returns : goal.expressions::index_form-returns
expressions::index_form-returns t c =
    call-ends (second-of (index-calls c.args.typer.now c.args.used c.args.known.now c.args.at c.args.a.now c.args.b.now) c.in_ok-a.ensures) c.in_ok-b.ensures
    (record { shapes = begins-itself c.value_of-2.new.known.types.shapes; numbered = c.typed_index.ensures.numbered; gives = c.typed_index.ensures.gives })

pub expressions::index_form-typed_index-requires-clause-left : goal.expressions::index_form-typed_index-requires-clause-left
expressions::index_form-typed_index-requires-clause-left t c =
    known-later c.value_of.new.known.types.shapes c.value_of-2.new.known.types.shapes c.in_ok-a.a c.in_ok-b.ensures.shapes c.in_ok-a.ensures.numbered

pub expressions::binary_form-returns-in_err-a : goal.expressions::binary_form-returns-in_err-a
expressions::binary_form-returns-in_err-a t c =
    call-fails (first-of (binary-calls c.args.typer.now c.args.used c.args.known.now c.args.at c.args.a.now c.args.operator c.args.b.now)) c.in_err-a.ensures c.from_residual.ensures.1

pub expressions::binary_form-returns-in_err-b : goal.expressions::binary_form-returns-in_err-b
expressions::binary_form-returns-in_err-b t c =
    call-fails (second-of (binary-calls c.args.typer.now c.args.used c.args.known.now c.args.at c.args.a.now c.args.operator c.args.b.now) c.in_ok-a.ensures) c.in_err-b.ensures c.from_residual-in_err-b.ensures.1

pub expressions::binary_form-returns : goal.expressions::binary_form-returns
expressions::binary_form-returns t c =
    call-ends (second-of (binary-calls c.args.typer.now c.args.used c.args.known.now c.args.at c.args.a.now c.args.operator c.args.b.now) c.in_ok-a.ensures) c.in_ok-b.ensures
    (record { shapes = c.typed_binary.ensures.grows.shapes; numbered = c.typed_binary.ensures.numbered; gives = c.typed_binary.ensures.gives })

pub expressions::binary_form-typed_binary-requires-clause-left : goal.expressions::binary_form-typed_binary-requires-clause-left
expressions::binary_form-typed_binary-requires-clause-left t c =
    known-later c.value_of.new.known.types.shapes c.value_of-2.new.known.types.shapes c.in_ok-a.a c.in_ok-b.ensures.shapes c.in_ok-a.ensures.numbered

pub expressions::assign_form-returns-in_err-object : goal.expressions::assign_form-returns-in_err-object
expressions::assign_form-returns-in_err-object t c =
    call-fails (first-of (assign-calls c.args.typer.now c.args.used c.args.known.now c.args.at c.args.object.now c.args.operator c.args.value.now)) c.in_err-object.ensures c.from_residual.ensures.1

pub expressions::assign_form-returns-in_err-value : goal.expressions::assign_form-returns-in_err-value
expressions::assign_form-returns-in_err-value t c =
    call-fails (second-of (assign-calls c.args.typer.now c.args.used c.args.known.now c.args.at c.args.object.now c.args.operator c.args.value.now) c.in_ok-object.ensures) c.in_err-value.ensures
    c.from_residual-in_err-value.ensures.1

pub expressions::assign_form-returns : goal.expressions::assign_form-returns
expressions::assign_form-returns t c =
    call-ends (second-of (assign-calls c.args.typer.now c.args.used c.args.known.now c.args.at c.args.object.now c.args.operator c.args.value.now) c.in_ok-object.ensures) c.in_ok-value.ensures
    (record { shapes = c.typed_assignment.ensures.grows.shapes; numbered = c.typed_assignment.ensures.numbered; gives = c.typed_assignment.ensures.gives })

pub expressions::assign_form-typed_assignment-requires-clause-object : goal.expressions::assign_form-typed_assignment-requires-clause-object
expressions::assign_form-typed_assignment-requires-clause-object t c =
    known-later c.typed.new.known.types.shapes c.value_of.new.known.types.shapes c.in_ok-object.object c.in_ok-value.ensures.shapes c.in_ok-object.ensures.numbered

pub expressions::call_form-returns-in_err-tree : goal.expressions::call_form-returns-in_err-tree
expressions::call_form-returns-in_err-tree t c =
    call-fails (first-of (call-calls c.args.typer.now c.args.used c.args.known.now c.args.at c.args.callee.now c.args.arguments.now)) c.in_err-tree.ensures c.from_residual.ensures.1

pub expressions::call_form-returns-in_err-values : goal.expressions::call_form-returns-in_err-values
expressions::call_form-returns-in_err-values t c =
    call-fails (second-of (call-calls c.args.typer.now c.args.used c.args.known.now c.args.at c.args.callee.now c.args.arguments.now) c.in_ok-tree.ensures) c.in_err-values.ensures c.from_residual-in_err-values.ensures.1

pub expressions::call_form-returns : goal.expressions::call_form-returns
expressions::call_form-returns t c =
    call-ends (second-of (call-calls c.args.typer.now c.args.used c.args.known.now c.args.at c.args.callee.now c.args.arguments.now) c.in_ok-tree.ensures) c.in_ok-values.ensures
    (record { shapes = begins-itself c.values.new.known.types.shapes; numbered = c.typed_call.ensures.numbered; gives = c.typed_call.ensures.gives })

pub expressions::call_form-typed_call-requires-clause-tree : goal.expressions::call_form-typed_call-requires-clause-tree
expressions::call_form-typed_call-requires-clause-tree t c =
    known-later c.typed.new.known.types.shapes c.values.new.known.types.shapes c.in_ok-tree.tree c.in_ok-values.ensures.shapes c.in_ok-tree.ensures.numbered

pub expressions::conditional_form-returns-in_err-condition : goal.expressions::conditional_form-returns-in_err-condition
expressions::conditional_form-returns-in_err-condition t c =
    call-fails (first-of-three (conditional-calls c.args.typer.now c.args.used c.args.known.now c.args.at c.args.condition.now c.args.a.now c.args.b.now)) c.in_err-condition.ensures c.from_residual.ensures.1

pub expressions::conditional_form-returns-in_err-a : goal.expressions::conditional_form-returns-in_err-a
expressions::conditional_form-returns-in_err-a t c =
    call-fails (first-of (others-of (conditional-calls c.args.typer.now c.args.used c.args.known.now c.args.at c.args.condition.now c.args.a.now c.args.b.now) c.in_ok-condition.ensures)) c.in_err-a.ensures
    c.from_residual-in_err-a.ensures.1

pub expressions::conditional_form-returns-in_err-b : goal.expressions::conditional_form-returns-in_err-b
expressions::conditional_form-returns-in_err-b t c =
    call-fails (second-of (others-of (conditional-calls c.args.typer.now c.args.used c.args.known.now c.args.at c.args.condition.now c.args.a.now c.args.b.now) c.in_ok-condition.ensures) c.in_ok-a.ensures) c.in_err-b.ensures
    c.from_residual-in_err-b.ensures.1

pub expressions::conditional_form-returns : goal.expressions::conditional_form-returns
expressions::conditional_form-returns t c =
    call-ends (second-of (others-of (conditional-calls c.args.typer.now c.args.used c.args.known.now c.args.at c.args.condition.now c.args.a.now c.args.b.now) c.in_ok-condition.ensures) c.in_ok-a.ensures) c.in_ok-b.ensures
    (record { shapes = c.typed_choice.ensures.grows.shapes; numbered = c.typed_choice.ensures.numbered; gives = c.typed_choice.ensures.gives })

pub expressions::conditional_form-typed_choice-requires-clause-condition : goal.expressions::conditional_form-typed_choice-requires-clause-condition
expressions::conditional_form-typed_choice-requires-clause-condition t c =
    known-later c.value_of.new.known.types.shapes c.value_of-3.new.known.types.shapes c.in_ok-condition.condition
    (begins-on c.value_of.new.known.types.shapes c.value_of-2.new.known.types.shapes c.value_of-3.new.known.types.shapes c.in_ok-a.ensures.shapes c.in_ok-b.ensures.shapes) c.in_ok-condition.ensures.numbered

pub expressions::conditional_form-typed_choice-requires-clause-left : goal.expressions::conditional_form-typed_choice-requires-clause-left
expressions::conditional_form-typed_choice-requires-clause-left t c =
    known-later c.value_of-2.new.known.types.shapes c.value_of-3.new.known.types.shapes c.in_ok-a.a c.in_ok-b.ensures.shapes c.in_ok-a.ensures.numbered

pub expressions::cast_form-returns-in_err-named : goal.expressions::cast_form-returns-in_err-named
expressions::cast_form-returns-in_err-named t c =
    call-fails (first-of (cast-calls c.args.typer.now c.args.used c.args.known.now c.args.at c.args.name.now c.args.operand.now)) c.in_err-named.ensures c.from_residual.ensures.1

pub expressions::cast_form-returns-in_err-operand : goal.expressions::cast_form-returns-in_err-operand
expressions::cast_form-returns-in_err-operand t c =
    call-fails (second-of (cast-calls c.args.typer.now c.args.used c.args.known.now c.args.at c.args.name.now c.args.operand.now) c.in_ok-named.ensures) c.in_err-operand.ensures c.from_residual-in_err-operand.ensures.1

pub expressions::cast_form-returns : goal.expressions::cast_form-returns
expressions::cast_form-returns t c =
    call-ends (second-of (cast-calls c.args.typer.now c.args.used c.args.known.now c.args.at c.args.name.now c.args.operand.now) c.in_ok-named.ensures) c.in_ok-operand.ensures
    (record {
      shapes = begins-itself c.value_of.new.known.types.shapes;
      numbered = c.typed_cast.ensures.numbered;
      gives = λ later on.
          let before = begins-on c.typed_name.new.known.types.shapes c.value_of.new.known.types.shapes later c.in_ok-operand.ensures.shapes on in
          subst (λ type. Gives (view_over later) (source_of c.args.typer.now) (known_over later c.value_of.new.known) c.typed_cast.result (typed_cast (setting_of c.args.typer.now) (known_over later c.value_of.new.known) c.args.at type (map (view_over later) c.in_ok-named.named.constants) (view_over later c.in_ok-operand.operand)))
          (bare-later c.typed_name.new.known.types later c.in_ok-named.named.kind c.bare-kind.result before c.in_ok-named.ensures.numbered.0 c.bare-kind.ensures) (c.typed_cast.ensures.gives later on);
    })

pub expressions::cast_form-typed_cast-requires-clause-constants : goal.expressions::cast_form-typed_cast-requires-clause-constants
expressions::cast_form-typed_cast-requires-clause-constants t c =
    trees-later c.typed_name.new.known.types c.value_of.new.known.types c.in_ok-named.named.constants c.in_ok-operand.ensures.shapes c.in_ok-named.ensures.numbered.1

pub expressions::formed-returns-in-Paren : goal.expressions::formed-returns-in-Paren
expressions::formed-returns-in-Paren t c =
    alike IsNumbered view_over (source_of c.args.typer.now) c.args.known.now c.typed_within.new.known _ _ (paren-formed c.args.typer.now c.args.used c.args.known.now c.args.at c.args.form.now c.in-Paren.inner c.get.result.now c.in-Paren.is c.get.ensures)
    c.typed_within.result c.typed_within.ensures

pub expressions::formed-returns-in-Name : goal.expressions::formed-returns-in-Name
expressions::formed-returns-in-Name t c =
    alike IsNumbered view_over (source_of c.args.typer.now) c.args.known.now c.named.new.known _ _ (name-formed c.args.typer.now c.args.used c.args.known.now c.args.at c.args.form.now c.in-Name.is) c.named.result
    (record { shapes = c.named.ensures.grows.shapes; numbered = c.named.ensures.numbered; gives = c.named.ensures.gives })

pub expressions::formed-returns-in_ok-made-in-Constant : goal.expressions::formed-returns-in_ok-made-in-Constant
expressions::formed-returns-in_ok-made-in-Constant t c =
    tree-made _ c.in_ok-made-in-Constant.made (constant-formed c.args.typer.now c.args.used c.args.known.now c.args.at c.args.form.now c.in-Constant.is) c.constant.ensures.grows c.in_ok-made-in-Constant.ensures.numbered
    c.in_ok-made-in-Constant.ensures.value

pub expressions::formed-returns-in_ok-made-in-Literal : goal.expressions::formed-returns-in_ok-made-in-Literal
expressions::formed-returns-in_ok-made-in-Literal t c =
    tree-made _ c.in_ok-made-in-Literal.made (literal-formed c.args.typer.now c.args.used c.args.known.now c.args.at c.args.form.now c.in-Literal.is) c.literal.ensures.grows c.in_ok-made-in-Literal.ensures.numbered
    c.in_ok-made-in-Literal.ensures.value

-- ---- values

pub expressions::values-loop-expr-init : goal.expressions::values-loop-expr-init
expressions::values-loop-expr-init t c = values-begun c.args.typer.now c.args.used c.args.known.now c.args.exprs.now c.new-values.result c.new-values.ensures

pub expressions::values-returns-in_err-value : goal.expressions::values-returns-in_err-value
expressions::values-returns-in_err-value t c =
    call-fails (value-call c.args.typer.now c.args.used c.loop-expr.known c.args.exprs.now c.loop-expr.values c.loop-expr.expr-index c.loop-expr.invariant.0 c.expr-item.result c.loop-expr-test.true c.expr-item.is)
    c.in_err-value.ensures c.from_residual.ensures.1

pub expressions::values-returns-in_err-push : goal.expressions::values-returns-in_err-push
expressions::values-returns-in_err-push t c =
    call-starves (value-call c.args.typer.now c.args.used c.loop-expr.known c.args.exprs.now c.loop-expr.values c.loop-expr.expr-index c.loop-expr.invariant.0 c.expr-item.result c.loop-expr-test.true c.expr-item.is)
    c.in_ok-value.ensures c.from_residual-in_err-push.ensures.1

pub expressions::values-loop-expr-preserved : goal.expressions::values-loop-expr-preserved
expressions::values-loop-expr-preserved t c = (
  onward-pushed view_over
      (λ later. typed_values (setting_of c.args.typer.now) c.args.used (known_over later c.value_of.new.known) (syntax.exprs (map syntax.expr (drop (c.loop-expr.expr-index + 1) c.args.exprs.now))))
      c.loop-expr.values c.push.new.self c.in_ok-value.value c.in_ok-push.ensures.ok
      (call-passes (value-call c.args.typer.now c.args.used c.loop-expr.known c.args.exprs.now c.loop-expr.values c.loop-expr.expr-index c.loop-expr.invariant.0 c.expr-item.result c.loop-expr-test.true c.expr-item.is) c.in_ok-value.ensures),
  subst (AreNumbered c.value_of.new.known.types) (sym c.in_ok-push.ensures.ok)
      (All-push (IsNumbered c.value_of.new.known.types) c.loop-expr.values c.in_ok-value.value (trees-later c.loop-expr.known.types c.value_of.new.known.types c.loop-expr.values c.in_ok-value.ensures.shapes c.loop-expr.invariant.1) c.in_ok-value.ensures.numbered),
)

pub expressions::values-returns : goal.expressions::values-returns
expressions::values-returns t c =
    values-done c.args.typer.now c.args.used c.loop-expr.known c.args.exprs.now c.loop-expr.values c.loop-expr.expr-index c.loop-expr.invariant.0 c.loop-expr-test.false c.loop-expr.invariant.1

-- ---- type names

pub syntax::typed_name-returns-in_err-kind : goal.syntax::typed_name-returns-in_err-kind
syntax::typed_name-returns-in_err-kind t c =
    relays NameFits name_over (source_of c.args.typer.now) c.args.known.now c.typed_with.new.known _ c.from_residual.result c.in_err-kind.field-0.0 c.from_residual.ensures.1
    (alike NameFits name_over (source_of c.args.typer.now) c.args.known.now c.typed_with.new.known _ _ (name-is c.args.typer.now c.args.used c.args.known.now c.args.name.now) _
    (name-fails (source_of c.args.typer.now) c.args.known.now c.replace_constants-before.new.known c.typed_with.new.known c.typed_with.new.known
    (λ (later : List Shape) (known : Known). typed_with (setting_of c.args.typer.now) c.args.used known (syntax.specifiers c.args.name.now.specifiers) (syntax.declarator c.args.name.now.declarator)) c.replace_constants-before.ensures.rest
    (c.replace_constants-before.ensures.constants ∙ c.new.ensures) c.in_err-kind.field-0.0 c.in_err-kind.ensures))

pub syntax::typed_name-returns : goal.syntax::typed_name-returns
syntax::typed_name-returns t c =
    alike NameFits name_over (source_of c.args.typer.now) c.args.known.now c.replace_constants-constants.new.known _ _ (name-is c.args.typer.now c.args.used c.args.known.now c.args.name.now) _
    (name-made (source_of c.args.typer.now) c.args.known.now c.replace_constants-before.new.known c.typed_with.new.known c.replace_constants-constants.new.known
    (λ (later : List Shape) (known : Known). typed_with (setting_of c.args.typer.now) c.args.used known (syntax.specifiers c.args.name.now.specifiers) (syntax.declarator c.args.name.now.declarator)) c.replace_constants-before.ensures.rest
    (c.replace_constants-before.ensures.constants ∙ c.new.ensures) c.in_ok-kind.kind c.replace_constants-constants.result c.replace_constants-constants.ensures.rest
    (c.replace_constants-constants.ensures.constants ∙ c.replace_constants-before.ensures.before) c.replace_constants-constants.ensures.before c.in_ok-kind.ensures)

pub syntax::typed_name-replace_constants-constants-requires : goal.syntax::typed_name-replace_constants-constants-requires
syntax::typed_name-replace_constants-constants-requires t c =
    subst (AreNumbered c.typed_with.new.known.types) (sym c.replace_constants-before.ensures.before)
    (trees-later c.args.known.now.types c.typed_with.new.known.types c.args.known.now.constants
    (subst (λ (types : Table). Begins types.shapes c.typed_with.new.known.types.shapes) c.replace_constants-before.ensures.rest.types c.in_ok-kind.ensures.shapes) c.args.known.now.trees)

-- ---- specifiers

pub syntax::typed_specifiers-returns-in_err-said : goal.syntax::typed_specifiers-returns-in_err-said
syntax::typed_specifiers-returns-in_err-said t c =
    call-fails (specifiers-call c.args.typer.now c.args.used c.args.known.now (where_of c.args.stands) c.args.alone c.args.specifiers.now c.items.result.now c.items.ensures) c.in_err-said.ensures c.from_residual.ensures.1

pub syntax::typed_specifiers-returns : goal.syntax::typed_specifiers-returns
syntax::typed_specifiers-returns t c =
    call-ends (specifiers-call c.args.typer.now c.args.used c.args.known.now (where_of c.args.stands) c.args.alone c.args.specifiers.now c.items.result.now c.items.ensures) c.in_ok-said.ensures
    (record { shapes = c.typed_said.ensures.grows.shapes; numbered = c.typed_said.ensures.numbered; gives = c.typed_said.ensures.gives })

pub syntax::words_said-loop-word-init : goal.syntax::words_said-loop-word-init
syntax::words_said-loop-word-init t c = (
  begins c.args.known.now _ _
      (λ later. ap (λ said. words_said (setting_of c.args.typer.now) c.args.used c.args.alone (known_over later c.args.known.now) said (syntax.words (map syntax.specifier c.args.words.now))) (sym (c.nothing-said.ensures.said later))),
  c.nothing-said.ensures.numbered c.args.known.now.types,
)

pub syntax::words_said-returns-in_err-made : goal.syntax::words_said-returns-in_err-made
syntax::words_said-returns-in_err-made t c =
    call-fails
    (word-call c.args.typer.now c.args.used c.loop-word.known c.args.alone c.args.words.now c.loop-word.said c.loop-word.word-index c.loop-word.invariant.0 c.word-item.result c.loop-word-test.true c.word-item.is)
    c.in_err-made.ensures c.from_residual.ensures.1

pub syntax::words_said-loop-word-preserved : goal.syntax::words_said-loop-word-preserved
syntax::words_said-loop-word-preserved t c = (
  call-passes
      (word-call c.args.typer.now c.args.used c.loop-word.known c.args.alone c.args.words.now c.loop-word.said c.loop-word.word-index c.loop-word.invariant.0 c.word-item.result c.loop-word-test.true c.word-item.is)
      c.in_ok-made.ensures,
  c.in_ok-made.ensures.numbered,
)

pub syntax::words_said-returns : goal.syntax::words_said-returns
syntax::words_said-returns t c =
    words-done c.args.typer.now c.args.used c.loop-word.known c.args.alone c.args.words.now c.loop-word.said c.loop-word.word-index c.loop-word.invariant.0 c.loop-word-test.false c.loop-word.invariant.1

pub syntax::word_said-returns-in_ok-made-in-Word : goal.syntax::word_said-returns-in_ok-made-in-Word
syntax::word_said-returns-in_ok-made-in-Word t c =
    done SaidFits said_over (source_of c.args.typer.now) c.args.known.now c.args.known.now _ c.in_ok-made-in-Word.made
    (begins c.args.known.now _ _
    (λ later. word-is c.args.typer.now c.args.used c.args.known.now c.args.alone c.args.said c.args.word.now c.in-Word.at c.in-Word.is later
    ∙ ap (given (known_over later c.args.known.now))
    (ap (λ row. with_word row (said_over later c.args.said)) (ap (λ found. unwrap_or found 0) (sym c.keyword.ensures) ∙ sym c.unwrap_or-row.ensures) ∙ sym (c.in_ok-made-in-Word.ensures.said later))))
    (subst (All (IsId c.args.known.now.types)) (sym c.in_ok-made-in-Word.ensures.types) c.requires)

pub syntax::word_said-returns-in-Typedef : goal.syntax::word_said-returns-in-Typedef
syntax::word_said-returns-in-Typedef t c =
    alike SaidFits said_over (source_of c.args.typer.now) c.args.known.now c.args.known.now _ _ (typedef-is c.args.typer.now c.args.used c.args.known.now c.args.alone c.args.said c.args.word.now c.in-Typedef.at c.in-Typedef.is)
    c.typedef_said.result c.typedef_said.ensures

pub syntax::word_said-returns-in_err-kind-in-Struct : goal.syntax::word_said-returns-in_err-kind-in-Struct
syntax::word_said-returns-in_err-kind-in-Struct t c =
    makes-fails (struct-makes c.args.typer.now c.args.used c.args.known.now c.args.alone c.args.said c.args.word.now c.in-Struct.form c.in-Struct.is) c.in_err-kind-in-Struct.ensures c.from_residual-in_err-kind-in-Struct.ensures.1

pub syntax::word_said-returns-in_ok-made-in-Struct : goal.syntax::word_said-returns-in_ok-made-in-Struct
syntax::word_said-returns-in_ok-made-in-Struct t c =
    makes-made (struct-makes c.args.typer.now c.args.used c.args.known.now c.args.alone c.args.said c.args.word.now c.in-Struct.form c.in-Struct.is) c.in_ok-kind-in-Struct.ensures
    (λ later on. c.in_ok-made-in-Struct.ensures.said later)
    (c.in_ok-made-in-Struct.ensures.numbered c.typed_struct.new.known.types c.in_ok-kind-in-Struct.ensures.numbered (said-later c.args.known.now.types c.typed_struct.new.known.types c.args.said c.in_ok-kind-in-Struct.ensures.shapes c.requires))

pub syntax::word_said-returns-in_err-kind-in-Enum : goal.syntax::word_said-returns-in_err-kind-in-Enum
syntax::word_said-returns-in_err-kind-in-Enum t c =
    makes-fails (enum-makes c.args.typer.now c.args.used c.args.known.now c.args.alone c.args.said c.args.word.now c.in-Enum.form c.in-Enum.is) c.in_err-kind-in-Enum.ensures c.from_residual-in_err-kind-in-Enum.ensures.1

pub syntax::word_said-returns-in_ok-made-in-Enum : goal.syntax::word_said-returns-in_ok-made-in-Enum
syntax::word_said-returns-in_ok-made-in-Enum t c =
    makes-made (enum-makes c.args.typer.now c.args.used c.args.known.now c.args.alone c.args.said c.args.word.now c.in-Enum.form c.in-Enum.is) c.in_ok-kind-in-Enum.ensures
    (λ later on. c.in_ok-made-in-Enum.ensures.said later)
    (c.in_ok-made-in-Enum.ensures.numbered c.typed_enum.new.known.types c.in_ok-kind-in-Enum.ensures.numbered (said-later c.args.known.now.types c.typed_enum.new.known.types c.args.said c.in_ok-kind-in-Enum.ensures.shapes c.requires))

-- ---- structs and enums

pub syntax::struct_with-returns : goal.syntax::struct_with-returns
syntax::struct_with-returns t c =
    struct-made c.args.typer.now c.args.used c.args.span c.args.tag (syntax.members (map syntax.member_form c.args.members.now)) c.args.known.now c.struct_begun.new.known c.fields_of.new.known c.in_ok-begun.begun
    c.struct_begun.ensures.shapes c.in_ok-begun.ensures.kind c.in_ok-begun.ensures.known c.in_ok-fields.fields c.in_ok-fields.ensures c.struct_ended.new.known c.struct_ended.result c.struct_ended.ensures.shapes
    c.struct_ended.ensures.numbered c.struct_ended.ensures.gives

pub syntax::struct_with-struct_ended-requires-clause-innermost : goal.syntax::struct_with-struct_ended-requires-clause-innermost
syntax::struct_with-struct_ended-requires-clause-innermost t c =
    struct-innermost c.args.typer.now c.args.used c.args.span c.args.tag (syntax.members (map syntax.member_form c.args.members.now)) c.args.known.now c.struct_begun.new.known c.fields_of.new.known c.in_ok-begun.begun
    c.struct_begun.ensures.shapes c.in_ok-begun.ensures.kind c.in_ok-begun.ensures.known c.in_ok-fields.fields c.in_ok-fields.ensures c.in_ok-begun.ensures.numbered c.in_ok-begun.ensures.innermost

pub syntax::fields_of-loop-member-init : goal.syntax::fields_of-loop-member-init
syntax::fields_of-loop-member-init t c = (
  begins c.args.known.now _ _
      (λ later. ap (λ members. fields_of (setting_of c.args.typer.now) c.args.used (known_over later c.args.known.now) (map (member_over later) members) (syntax.members (map syntax.member_form c.args.members.now))) (sym c.new-fields.ensures)),
  subst (All (MemberFits c.args.known.now.types)) (sym c.new-fields.ensures) (All-nil (MemberFits c.args.known.now.types)),
)

pub syntax::fields_of-returns-in_err-made : goal.syntax::fields_of-returns-in_err-made
syntax::fields_of-returns-in_err-made t c =
    call-fails
    (members-call c.args.typer.now c.args.used c.loop-member.known c.args.members.now c.loop-member.fields c.loop-member.member-index c.loop-member.invariant.0 c.member-item.result c.loop-member-test.true c.member-item.is)
    c.in_err-made.ensures c.from_residual.ensures.1

pub syntax::fields_of-loop-member-preserved : goal.syntax::fields_of-loop-member-preserved
syntax::fields_of-loop-member-preserved t c = (
  call-passes
      (members-call c.args.typer.now c.args.used c.loop-member.known c.args.members.now c.loop-member.fields c.loop-member.member-index c.loop-member.invariant.0 c.member-item.result c.loop-member-test.true c.member-item.is)
      c.in_ok-made.ensures,
  c.in_ok-made.ensures.numbered,
)

pub syntax::fields_of-returns : goal.syntax::fields_of-returns
syntax::fields_of-returns t c =
    members-done c.args.typer.now c.args.used c.loop-member.known c.args.members.now c.loop-member.fields c.loop-member.member-index c.loop-member.invariant.0 c.loop-member-test.false c.loop-member.invariant.1

pub syntax::fields_declared-returns-in_err-base : goal.syntax::fields_declared-returns-in_err-base
syntax::fields_declared-returns-in_err-base t c = call-fails (declared-call c.args.typer.now c.args.used c.args.known.now c.args.fields c.args.form.now) c.in_err-base.ensures c.from_residual.ensures.1

pub syntax::fields_declared-returns : goal.syntax::fields_declared-returns
syntax::fields_declared-returns t c =
    call-ends (declared-call c.args.typer.now c.args.used c.args.known.now c.args.fields c.args.form.now) c.in_ok-base.ensures
    (subst (λ (ds : List Declarator). Follows FieldsFit fields_over (source_of c.args.typer.now) c.typed_specifiers.new.known c.fields_with.new.known c.fields_with.result (λ later. fields_with (setting_of c.args.typer.now) c.args.used (known_over later c.typed_specifiers.new.known) (type_over later c.in_ok-base.base) (fields_over later c.args.fields) (syntax.declarators (map syntax.declarator ds)))) c.items.ensures c.fields_with.ensures)

pub syntax::fields_with-loop-declarator-init : goal.syntax::fields_with-loop-declarator-init
syntax::fields_with-loop-declarator-init t c = (begins c.args.known.now _ _ (λ later. refl), c.requires.fields, c.requires.base)

pub syntax::fields_with-returns-in_err-made : goal.syntax::fields_with-returns-in_err-made
syntax::fields_with-returns-in_err-made t c =
    call-fails
    (declarator-call c.args.typer.now c.args.used c.loop-declarator.known c.args.base c.args.declarators.now c.loop-declarator.fields c.loop-declarator.declarator-index c.loop-declarator.invariant.0
    c.declarator-item.result c.loop-declarator-test.true c.declarator-item.is)
    c.in_err-made.ensures c.from_residual.ensures.1

pub syntax::fields_with-loop-declarator-preserved : goal.syntax::fields_with-loop-declarator-preserved
syntax::fields_with-loop-declarator-preserved t c = (
  call-passes
      (declarator-call c.args.typer.now c.args.used c.loop-declarator.known c.args.base c.args.declarators.now c.loop-declarator.fields c.loop-declarator.declarator-index c.loop-declarator.invariant.0
      c.declarator-item.result c.loop-declarator-test.true c.declarator-item.is)
      c.in_ok-made.ensures,
  c.in_ok-made.ensures.numbered,
  id-later c.loop-declarator.known.types c.field_with.new.known.types c.args.base c.in_ok-made.ensures.shapes c.loop-declarator.invariant.2,
)

pub syntax::fields_with-returns : goal.syntax::fields_with-returns
syntax::fields_with-returns t c =
    declarators-done c.args.typer.now c.args.used c.loop-declarator.known c.args.base c.args.declarators.now c.loop-declarator.fields c.loop-declarator.declarator-index c.loop-declarator.invariant.0
    c.loop-declarator-test.false c.loop-declarator.invariant.1

pub syntax::enumerators_of-loop-enumerator-init : goal.syntax::enumerators_of-loop-enumerator-init
syntax::enumerators_of-loop-enumerator-init t c = begins c.args.known.now _ _ (λ later. refl)

pub syntax::enumerators_of-returns-in_err-value : goal.syntax::enumerators_of-returns-in_err-value
syntax::enumerators_of-returns-in_err-value t c =
    call-fails
    (item-call c.args.typer.now c.args.used c.loop-enumerator.known c.args.enumerators.now (to_z w32 c.loop-enumerator.last-bits) c.loop-enumerator.enumerator-index c.loop-enumerator.invariant
    c.enumerator-item.result c.loop-enumerator-test.true c.enumerator-item.is)
    c.in_err-value.ensures c.from_residual.ensures.1

pub syntax::enumerators_of-loop-enumerator-preserved : goal.syntax::enumerators_of-loop-enumerator-preserved
syntax::enumerators_of-loop-enumerator-preserved t c =
    let same : to_z w32 (of_z w32 c.in_ok-value.value) ≡ c.in_ok-value.value = search rules in
    subst (λ z. Reaches c.args.known.now c.enumerator_of.new.known (λ later. enumerators_of (setting_of c.args.typer.now) c.args.used (known_over later c.args.known.now) (negsuc 0) (syntax.enumerators (map syntax.enum_item c.args.enumerators.now)))
    (λ later. enumerators_of (setting_of c.args.typer.now) c.args.used (known_over later c.enumerator_of.new.known) z (syntax.enumerators (map syntax.enum_item (drop (c.loop-enumerator.enumerator-index + 1) c.args.enumerators.now))))) (sym same)
    (call-passes
    (item-call c.args.typer.now c.args.used c.loop-enumerator.known c.args.enumerators.now (to_z w32 c.loop-enumerator.last-bits) c.loop-enumerator.enumerator-index c.loop-enumerator.invariant
    c.enumerator-item.result c.loop-enumerator-test.true c.enumerator-item.is)
    c.in_ok-value.ensures)

pub syntax::enumerators_of-returns : goal.syntax::enumerators_of-returns
syntax::enumerators_of-returns t c =
    items-done c.args.typer.now c.args.used c.loop-enumerator.known c.args.enumerators.now (to_z w32 c.loop-enumerator.last-bits) c.loop-enumerator.enumerator-index c.loop-enumerator.invariant c.loop-enumerator-test.false

pub syntax::enumerator_of-returns-in-None : goal.syntax::enumerator_of-returns-in-None
syntax::enumerator_of-returns-in-None t c =
    let same : to_z w32 (of_z w32 c.args.before) ≡ c.args.before = search rules in
    alike _ number_itself (source_of c.args.typer.now) c.args.known.now c.enumerator_implied.new.known _ _ (bare-is c.args.typer.now c.args.used c.args.known.now c.args.before c.args.item.now c.in-None.is) c.enumerator_implied.result
    (record {
      shapes = c.enumerator_implied.ensures.shapes;
      numbered = anything-if-ok c.enumerator_implied.new.known.types c.enumerator_implied.result;
      gives = λ later on. subst (λ z. Gives (number_itself later) (source_of c.args.typer.now) (known_over later c.enumerator_implied.new.known) c.enumerator_implied.result (enumerator_declared (setting_of c.args.typer.now) (known_over later c.args.known.now) (out-EnumItem c.args.item.now).name (z +ℤ pos 1))) same (c.enumerator_implied.ensures.gives later on);
    })

pub syntax::enumerator_of-returns-in-Some : goal.syntax::enumerator_of-returns-in-Some
syntax::enumerator_of-returns-in-Some t c =
    alike _ number_itself (source_of c.args.typer.now) c.args.known.now c.enumerator_with.new.known _ _
    (valued-is c.args.typer.now c.args.used c.args.known.now c.args.before c.args.item.now c.in-Some.value c.in-Some.is) c.enumerator_with.result c.enumerator_with.ensures

pub syntax::enumerator_with-returns : goal.syntax::enumerator_with-returns
syntax::enumerator_with-returns t c =
    call-ends (enumerator-call c.args.typer.now c.args.used c.args.known.now c.args.name c.args.value.now) c.in_ok-tree.ensures
    (record {
      shapes = c.enumerator_valued.ensures.shapes;
      numbered = anything-if-ok c.enumerator_valued.new.known.types c.enumerator_valued.result;
      gives = λ later on. subst (λ (span : Span). Gives (number_itself later) (source_of c.args.typer.now) (known_over later c.enumerator_valued.new.known) c.enumerator_valued.result (enumerator_valued (setting_of c.args.typer.now) (known_over later c.value_of.new.known) c.args.name span.first (view_over later c.in_ok-tree.tree))) (sym (span-expr c.args.value.now)) (c.enumerator_valued.ensures.gives later on);
    })

-- ---- declarators

pub syntax::steps_of-returns-in_err-steps : goal.syntax::steps_of-returns-in_err-steps
syntax::steps_of-returns-in_err-steps t c =
    makes-fails
    (steps-makes c.args.typer.now c.args.used c.args.known.now c.args.declarator.now c.in_ok-here.here (c.in_ok-here.ensures ∙ ap (direct_at c.args.declarator.now.span.first) c.items-pointers.ensures))
    c.in_err-steps.ensures c.from_residual-in_err-steps.ensures.1

pub syntax::steps_of-returns : goal.syntax::steps_of-returns
syntax::steps_of-returns t c =
    makes-made
    (steps-makes c.args.typer.now c.args.used c.args.known.now c.args.declarator.now c.in_ok-here.here (c.in_ok-here.ensures ∙ ap (direct_at c.args.declarator.now.span.first) c.items-pointers.ensures))
    c.in_ok-steps.ensures (λ later on. c.in_ok-made.ensures.steps later ∙ ap (λ stars. pointers c.args.declarator.now.span.first stars ++ steps_over later c.in_ok-steps.steps) c.items-pointers.ensures)
    (c.in_ok-made.ensures.numbered c.direct_steps.new.known.types c.in_ok-steps.ensures.numbered)

pub syntax::direct_steps-returns-in-Absent : goal.syntax::direct_steps-returns-in-Absent
syntax::direct_steps-returns-in-Absent t c =
    done StepsFit steps_over (source_of c.args.typer.now) c.args.known.now c.args.known.now _ c.new.result
    (absent-reaches c.args.typer.now c.args.used c.args.known.now c.args.here c.args.direct.now c.new.result c.in-Absent.is c.new.ensures)
    (subst (StepsFit c.args.known.now.types) (sym c.new.ensures) (All-nil (StepFits c.args.known.now.types)))

pub syntax::direct_steps-returns-in-Name : goal.syntax::direct_steps-returns-in-Name
syntax::direct_steps-returns-in-Name t c =
    done StepsFit steps_over (source_of c.args.typer.now) c.args.known.now c.args.known.now _ c.new-in-Name.result
    (declared-reaches c.args.typer.now c.args.used c.args.known.now c.args.here c.args.direct.now c.in-Name.field-0 c.new-in-Name.result c.in-Name.is c.new-in-Name.ensures)
    (subst (StepsFit c.args.known.now.types) (sym c.new-in-Name.ensures) (All-nil (StepFits c.args.known.now.types)))

pub syntax::direct_steps-returns-in-Paren : goal.syntax::direct_steps-returns-in-Paren
syntax::direct_steps-returns-in-Paren t c =
    alike StepsFit steps_over (source_of c.args.typer.now) c.args.known.now c.steps_of.new.known _ _
    (enclosed-is c.args.typer.now c.args.used c.args.known.now c.args.here c.args.direct.now c.in-Paren.enclosed c.get.result.now c.in-Paren.is c.get.ensures) c.steps_of.result c.steps_of.ensures

pub syntax::array_steps-returns-in_err-steps : goal.syntax::array_steps-returns-in_err-steps
syntax::array_steps-returns-in_err-steps t c =
    call-fails (array-call c.args.typer.now c.args.used c.args.known.now c.args.here c.args.direct.now c.args.length.now) c.in_err-steps.ensures c.from_residual.ensures.1

pub syntax::array_steps-returns : goal.syntax::array_steps-returns
syntax::array_steps-returns t c = call-ends (array-call c.args.typer.now c.args.used c.args.known.now c.args.here c.args.direct.now c.args.length.now) c.in_ok-steps.ensures c.array_with.ensures

pub syntax::array_with-returns-in_ok-made-in-None : goal.syntax::array_with-returns-in_ok-made-in-None
syntax::array_with-returns-in_ok-made-in-None t c =
    done StepsFit steps_over (source_of c.args.typer.now) c.args.known.now c.args.known.now _ c.in_ok-made-in-None.made
    (begins c.args.known.now _ _
    (λ later. ap (λ o. array_steps (setting_of c.args.typer.now) c.args.used (known_over later c.args.known.now) c.args.here (steps_over later c.args.steps) (option_map syntax.expr o)) c.in-None.is
    ∙ ap (given (known_over later c.args.known.now)) (sym (c.in_ok-made-in-None.ensures.steps later))))
    (c.in_ok-made-in-None.ensures.numbered c.args.known.now.types tt c.requires)

pub syntax::function_steps-returns-in_err-steps : goal.syntax::function_steps-returns-in_err-steps
syntax::function_steps-returns-in_err-steps t c =
    call-fails (function-call c.args.typer.now c.args.used c.args.known.now c.args.here c.args.direct.now c.args.parameters.now) c.in_err-steps.ensures c.from_residual.ensures.1

pub syntax::function_steps-returns : goal.syntax::function_steps-returns
syntax::function_steps-returns t c = call-ends (function-call c.args.typer.now c.args.used c.args.known.now c.args.here c.args.direct.now c.args.parameters.now) c.in_ok-steps.ensures c.calling.ensures

pub syntax::sized-returns : goal.syntax::sized-returns
syntax::sized-returns t c =
    let same = subst (λ (types : Table). Begins c.value_of.new.known.types.shapes types.shapes) (sym c.length_of.ensures.types) (begins-itself c.value_of.new.known.types.shapes) in
    call-ends (sized-call c.args.typer.now c.args.used c.args.known.now c.args.here c.args.steps c.args.length.now) c.in_ok-tree.ensures
    (makes-made {Fits = λ types n. Unit {0}} {view = λ later n. n} (length-makes c.args.typer.now c.args.used c.value_of.new.known c.args.here _ c.args.steps (λ later. view_over later c.in_ok-tree.tree))
    (record {
      shapes = same;
      numbered = tt;
      gives = λ later on. subst (λ (span : Span). Gives (λ length. length) (source_of c.args.typer.now) (known_over later c.length_of.new.known) (Ok c.in_ok-length.length) (length_of (known_over later c.value_of.new.known) span.first (view_over later c.in_ok-tree.tree))) (sym (span-expr c.args.length.now)) (c.in_ok-length.ensures.gives later on);
    })
    (λ later on. c.in_ok-made.ensures.steps later)
    (c.in_ok-made.ensures.numbered c.length_of.new.known.types c.in_ok-length.ensures.positive
    (steps-later c.args.known.now.types c.length_of.new.known.types c.args.steps (begins-on c.args.known.now.types.shapes c.value_of.new.known.types.shapes c.length_of.new.known.types.shapes c.in_ok-tree.ensures.shapes same) c.requires)))

pub syntax::calling-leave-requires : goal.syntax::calling-leave-requires
syntax::calling-leave-requires t c =
    left-open c.args.typer.now c.args.used (syntax.parameters (map syntax.parameter c.args.parameters.now)) c.args.known.now c.enter.new.known c.parameters_of.new.known c.enter.ensures.rest c.in_ok-enter.ensures.scopes
    c.in_ok-typed.typed c.in_ok-typed.ensures c.in_ok-enter.ensures.outside

pub syntax::calling-returns : goal.syntax::calling-returns
syntax::calling-returns t c =
    let left_there =
    left-made c.args.typer.now c.args.used (syntax.parameters (map syntax.parameter c.args.parameters.now)) c.args.known.now c.enter.new.known c.parameters_of.new.known c.enter.ensures.rest c.in_ok-enter.ensures.scopes
    c.in_ok-typed.typed c.in_ok-typed.ensures c.leave.new.known c.leave.ensures.rest c.leave.ensures.scopes in
    makes-made (calling-makes c.args.typer.now c.args.used c.args.known.now c.args.here c.args.steps c.args.parameters.now) left_there (λ later on. c.in_ok-made.ensures.steps later on)
    (c.in_ok-made.ensures.numbered (steps-later c.args.known.now.types c.leave.new.known.types c.args.steps left_there.shapes c.requires))

pub syntax::parameters_of-loop-parameter-init : goal.syntax::parameters_of-loop-parameter-init
syntax::parameters_of-loop-parameter-init t c = parameters-begun c.args.typer.now c.args.used c.args.known.now c.args.parameters.now c.new-typed.result c.new-typed.ensures

pub syntax::parameters_of-returns-in_err-one : goal.syntax::parameters_of-returns-in_err-one
syntax::parameters_of-returns-in_err-one t c =
    call-fails
    (one-call c.args.typer.now c.args.used c.loop-parameter.known c.args.parameters.now c.loop-parameter.typed c.loop-parameter.parameter-index c.loop-parameter.invariant.0 c.parameter-item.result c.loop-parameter-test.true
    c.parameter-item.is)
    c.in_err-one.ensures c.from_residual.ensures.1

pub syntax::parameters_of-returns-in_err-push : goal.syntax::parameters_of-returns-in_err-push
syntax::parameters_of-returns-in_err-push t c =
    call-starves
    (one-call c.args.typer.now c.args.used c.loop-parameter.known c.args.parameters.now c.loop-parameter.typed c.loop-parameter.parameter-index c.loop-parameter.invariant.0 c.parameter-item.result c.loop-parameter-test.true
    c.parameter-item.is)
    c.in_ok-one.ensures c.from_residual-in_err-push.ensures.1

pub syntax::parameters_of-loop-parameter-preserved : goal.syntax::parameters_of-loop-parameter-preserved
syntax::parameters_of-loop-parameter-preserved t c = (
  onward-pushed parameter_over
      (λ later. parameters_of (setting_of c.args.typer.now) c.args.used (known_over later c.parameter_of.new.known) (syntax.parameters (map syntax.parameter (drop (c.loop-parameter.parameter-index + 1) c.args.parameters.now))))
      c.loop-parameter.typed c.push.new.self c.in_ok-one.one c.in_ok-push.ensures.ok
      (call-passes
      (one-call c.args.typer.now c.args.used c.loop-parameter.known c.args.parameters.now c.loop-parameter.typed c.loop-parameter.parameter-index c.loop-parameter.invariant.0 c.parameter-item.result
      c.loop-parameter-test.true c.parameter-item.is)
      c.in_ok-one.ensures),
  subst (ParametersFit c.parameter_of.new.known.types) (sym c.in_ok-push.ensures.ok)
      (All-push (ParameterFits c.parameter_of.new.known.types) c.loop-parameter.typed c.in_ok-one.one
      (parameters-later c.loop-parameter.known.types c.parameter_of.new.known.types c.loop-parameter.typed c.in_ok-one.ensures.shapes c.loop-parameter.invariant.1) c.in_ok-one.ensures.numbered),
)

pub syntax::parameters_of-returns : goal.syntax::parameters_of-returns
syntax::parameters_of-returns t c =
    parameters-done c.args.typer.now c.args.used c.loop-parameter.known c.args.parameters.now c.loop-parameter.typed c.loop-parameter.parameter-index c.loop-parameter.invariant.0 c.loop-parameter-test.false
    c.loop-parameter.invariant.1

pub syntax::parameter_of-returns-in_err-kind : goal.syntax::parameter_of-returns-in_err-kind
syntax::parameter_of-returns-in_err-kind t c = call-fails (parameter-call c.args.typer.now c.args.used c.args.known.now c.args.parameter.now) c.in_err-kind.ensures c.from_residual.ensures.1

pub syntax::parameter_of-returns : goal.syntax::parameter_of-returns
syntax::parameter_of-returns t c =
    let ends : Option ℕ → ℕ → Type 0 = λ name here. Follows ParameterFits parameter_over (source_of c.args.typer.now) c.typed_with.new.known c.typed_parameter.new.known c.typed_parameter.result (λ later. typed_parameter (setting_of c.args.typer.now) (known_over later c.typed_with.new.known) here (type_over later c.in_ok-kind.kind) name) in
    call-ends (parameter-call c.args.typer.now c.args.used c.args.known.now c.args.parameter.now) c.in_ok-kind.ensures
    (subst (λ name. ends name (fault_at c.args.parameter.now.span (syntax.declarator c.args.parameter.now.declarator))) c.declarator_name-name.ensures
    (subst (ends c.declarator_name-name.result) (c.parameter_at.ensures ∙ ap parameter_fault (view-parameter c.args.parameter.now)) c.typed_parameter.ensures))
