-- The depth of the syntax falls from one form to its parts. At one depth a function calls those that are counted lower here. Of a loop over a
-- list, what the parts so far give and what the rest comes to is the whole.
use Rattle.std.proofs.Common.{◌+◌, ◌*◌, max, [], map, drop}
use Rattle.std.specs.Prelude.{negsuc}
use Rattle.std.specs.Option.{option_map_or}
use denote.Param.Weighed.{most}
use Rattle.dm_syn.specs.declared.expression.Expr.{size-Expr}
use Rattle.dm_syn.specs.declared.expression.ExprForm.{size-ExprForm}
use Rattle.dm_syn.specs.declared.declaration.TypeName.{size-TypeName}
use Rattle.dm_syn.specs.declared.declaration.Specifiers.{size-Specifiers}
use Rattle.dm_syn.specs.declared.declaration.Specifier.{size-Specifier}
use Rattle.dm_syn.specs.declared.declaration.StructForm.{size-StructForm}
use Rattle.dm_syn.specs.declared.declaration.EnumForm.{size-EnumForm}
use Rattle.dm_syn.specs.declared.declaration.EnumItem.{size-EnumItem}
use Rattle.dm_syn.specs.declared.declaration.MemberForm.{size-MemberForm}
use Rattle.dm_syn.specs.declared.declaration.Declarator.{size-Declarator}
use Rattle.dm_syn.specs.declared.declaration.Direct.{size-Direct}
use Rattle.dm_syn.specs.declared.declaration.Parameter.{size-Parameter}
use Rattle.dm_type.specs.Tables.{IsId}
use Rattle.dm_syn.specs.Views as syntax
use Rattle.dm_typing.specs.Fitting.{AreNumbered}
use Rattle.dm_typing.specs.Specifiers.{nothing_said}
use Rattle.dm_edeclarator.specs.Steps.{said_over, SaidFits, fields_over, FieldsFit, parameters_over, ParametersFit}
use Rattle.dm_eexpr.specs.Parts.{views_over}
use Rattle.dm_typing.specs.Typing.{typed_values, words_said, fields_of, fields_with, enumerators_of, parameters_of}
use Rattle.dm_typing.specs.Views.{type_over, known_over, setting_of}
use Rattle.dm_edeclarator.proofs.ReachLemmas.{Reaches}
use Rattle.dm_eexpr.proofs.LoopLemmas.{onward}
use Rattle.dm_eexpr.proofs.+typing.Given as goal

abbrev pub decreases-expressions::typed_within : goal.decreases-expressions::typed_within
decreases-expressions::typed_within l = 8 * size-Expr l.expr.now + 1

abbrev pub decreases-expressions::typed : goal.decreases-expressions::typed
decreases-expressions::typed l = 8 * size-Expr l.expr.now + 2

abbrev pub decreases-expressions::value_of : goal.decreases-expressions::value_of
decreases-expressions::value_of l = 8 * size-Expr l.expr.now + 3

abbrev pub decreases-expressions::values : goal.decreases-expressions::values
decreases-expressions::values l = 8 * most size-Expr l.exprs.now + 4

abbrev pub decreases-expressions::formed : goal.decreases-expressions::formed
decreases-expressions::formed l = 8 * size-ExprForm l.form.now + 7

abbrev pub decreases-expressions::member_form : goal.decreases-expressions::member_form
decreases-expressions::member_form l = 8 * size-Expr l.whole.now + 5

abbrev pub decreases-expressions::arrow_form : goal.decreases-expressions::arrow_form
decreases-expressions::arrow_form l = 8 * size-Expr l.pointing.now + 5

abbrev pub decreases-expressions::postfix_form : goal.decreases-expressions::postfix_form
decreases-expressions::postfix_form l = 8 * size-Expr l.operand.now + 5

abbrev pub decreases-expressions::prefix_form : goal.decreases-expressions::prefix_form
decreases-expressions::prefix_form l = 8 * size-Expr l.operand.now + 5

abbrev pub decreases-expressions::sizeof_form : goal.decreases-expressions::sizeof_form
decreases-expressions::sizeof_form l = 8 * size-Expr l.operand.now + 5

abbrev pub decreases-expressions::sizeof_name_form : goal.decreases-expressions::sizeof_name_form
decreases-expressions::sizeof_name_form l = 8 * size-TypeName l.name.now + 5

abbrev pub decreases-expressions::comma_form : goal.decreases-expressions::comma_form
decreases-expressions::comma_form l = 8 * most size-Expr l.parts.now + 5

abbrev pub decreases-expressions::index_form : goal.decreases-expressions::index_form
decreases-expressions::index_form l = 8 * max (size-Expr l.a.now) (size-Expr l.b.now) + 5

abbrev pub decreases-expressions::binary_form : goal.decreases-expressions::binary_form
decreases-expressions::binary_form l = 8 * max (size-Expr l.a.now) (size-Expr l.b.now) + 5

abbrev pub decreases-expressions::conditional_form : goal.decreases-expressions::conditional_form
decreases-expressions::conditional_form l = 8 * max (size-Expr l.condition.now) (max (size-Expr l.a.now) (size-Expr l.b.now)) + 5

abbrev pub decreases-expressions::assign_form : goal.decreases-expressions::assign_form
decreases-expressions::assign_form l = 8 * max (size-Expr l.object.now) (size-Expr l.value.now) + 5

abbrev pub decreases-expressions::call_form : goal.decreases-expressions::call_form
decreases-expressions::call_form l = 8 * max (size-Expr l.callee.now) (most size-Expr l.arguments.now) + 5

abbrev pub decreases-expressions::cast_form : goal.decreases-expressions::cast_form
decreases-expressions::cast_form l = 8 * max (size-TypeName l.name.now) (size-Expr l.operand.now) + 5

abbrev pub decreases-syntax::typed_name : goal.decreases-syntax::typed_name
decreases-syntax::typed_name l = 8 * size-TypeName l.name.now + 4

abbrev pub decreases-syntax::typed_with : goal.decreases-syntax::typed_with
decreases-syntax::typed_with l = 8 * max (size-Specifiers l.specifiers.now) (size-Declarator l.declarator.now) + 7

abbrev pub decreases-syntax::declared_type : goal.decreases-syntax::declared_type
decreases-syntax::declared_type l = 8 * size-Declarator l.declarator.now + 3

abbrev pub decreases-syntax::typed_specifiers : goal.decreases-syntax::typed_specifiers
decreases-syntax::typed_specifiers l = 8 * size-Specifiers l.specifiers.now + 3

abbrev pub decreases-syntax::words_said : goal.decreases-syntax::words_said
decreases-syntax::words_said l = 8 * most size-Specifier l.words.now + 5

abbrev pub decreases-syntax::word_said : goal.decreases-syntax::word_said
decreases-syntax::word_said l = 8 * size-Specifier l.word.now + 4

abbrev pub decreases-syntax::typed_struct : goal.decreases-syntax::typed_struct
decreases-syntax::typed_struct l = 8 * size-StructForm l.form.now + 4

abbrev pub decreases-syntax::struct_with : goal.decreases-syntax::struct_with
decreases-syntax::struct_with l = 8 * most size-MemberForm l.members.now + 6

abbrev pub decreases-syntax::fields_of : goal.decreases-syntax::fields_of
decreases-syntax::fields_of l = 8 * most size-MemberForm l.members.now + 5

abbrev pub decreases-syntax::fields_declared : goal.decreases-syntax::fields_declared
decreases-syntax::fields_declared l = 8 * size-MemberForm l.form.now + 4

abbrev pub decreases-syntax::fields_with : goal.decreases-syntax::fields_with
decreases-syntax::fields_with l = 8 * most size-Declarator l.declarators.now + 5

abbrev pub decreases-syntax::field_with : goal.decreases-syntax::field_with
decreases-syntax::field_with l = 8 * size-Declarator l.declarator.now + 4

abbrev pub decreases-syntax::typed_enum : goal.decreases-syntax::typed_enum
decreases-syntax::typed_enum l = 8 * size-EnumForm l.form.now + 4

abbrev pub decreases-syntax::enum_with : goal.decreases-syntax::enum_with
decreases-syntax::enum_with l = 8 * most size-EnumItem l.enumerators.now + 6

abbrev pub decreases-syntax::enumerators_of : goal.decreases-syntax::enumerators_of
decreases-syntax::enumerators_of l = 8 * most size-EnumItem l.enumerators.now + 5

abbrev pub decreases-syntax::enumerator_of : goal.decreases-syntax::enumerator_of
decreases-syntax::enumerator_of l = 8 * size-EnumItem l.item.now + 4

abbrev pub decreases-syntax::enumerator_with : goal.decreases-syntax::enumerator_with
decreases-syntax::enumerator_with l = 8 * size-Expr l.value.now + 4

abbrev pub decreases-syntax::steps_of : goal.decreases-syntax::steps_of
decreases-syntax::steps_of l = 8 * size-Declarator l.declarator.now + 2

abbrev pub decreases-syntax::direct_steps : goal.decreases-syntax::direct_steps
decreases-syntax::direct_steps l = 8 * size-Direct l.direct.now + 4

abbrev pub decreases-syntax::array_steps : goal.decreases-syntax::array_steps
decreases-syntax::array_steps l = 8 * max (size-Direct l.direct.now) (option_map_or size-Expr l.length.now 0) + 6

abbrev pub decreases-syntax::array_with : goal.decreases-syntax::array_with
decreases-syntax::array_with l = 8 * option_map_or size-Expr l.length.now 0 + 5

abbrev pub decreases-syntax::function_steps : goal.decreases-syntax::function_steps
decreases-syntax::function_steps l = 8 * max (size-Direct l.direct.now) (most size-Parameter l.parameters.now) + 6

abbrev pub decreases-syntax::sized : goal.decreases-syntax::sized
decreases-syntax::sized l = 8 * size-Expr l.length.now + 4

abbrev pub decreases-syntax::calling : goal.decreases-syntax::calling
decreases-syntax::calling l = 8 * most size-Parameter l.parameters.now + 5

abbrev pub decreases-syntax::parameters_of : goal.decreases-syntax::parameters_of
decreases-syntax::parameters_of l = 8 * most size-Parameter l.parameters.now + 4

abbrev pub decreases-syntax::parameter_of : goal.decreases-syntax::parameter_of
decreases-syntax::parameter_of l = 8 * size-Parameter l.parameter.now + 3

abbrev pub invariant-expressions::values-loop-expr : goal.invariant-expressions::values-loop-expr
invariant-expressions::values-loop-expr l =
    Reaches l.fn.known l.known (λ later. typed_values (setting_of l.typer) l.used (known_over later l.fn.known) (syntax.exprs (map syntax.expr l.exprs)))
    (λ later. onward (views_over later l.values) (typed_values (setting_of l.typer) l.used (known_over later l.known) (syntax.exprs (map syntax.expr (drop l.expr-index l.exprs)))))
    × AreNumbered l.known.types l.values

abbrev pub invariant-syntax::words_said-loop-word : goal.invariant-syntax::words_said-loop-word
invariant-syntax::words_said-loop-word l =
    Reaches l.fn.known l.known (λ later. words_said (setting_of l.typer) l.used l.alone (known_over later l.fn.known) nothing_said (syntax.words (map syntax.specifier l.words)))
    (λ later. words_said (setting_of l.typer) l.used l.alone (known_over later l.known) (said_over later l.said) (syntax.words (map syntax.specifier (drop l.word-index l.words))))
    × SaidFits l.known.types l.said

abbrev pub invariant-syntax::fields_of-loop-member : goal.invariant-syntax::fields_of-loop-member
invariant-syntax::fields_of-loop-member l =
    Reaches l.fn.known l.known (λ later. fields_of (setting_of l.typer) l.used (known_over later l.fn.known) [] (syntax.members (map syntax.member_form l.members)))
    (λ later. fields_of (setting_of l.typer) l.used (known_over later l.known) (fields_over later l.fields) (syntax.members (map syntax.member_form (drop l.member-index l.members))))
    × FieldsFit l.known.types l.fields

abbrev pub invariant-syntax::fields_with-loop-declarator : goal.invariant-syntax::fields_with-loop-declarator
invariant-syntax::fields_with-loop-declarator l =
    Reaches l.fn.known l.known (λ later. fields_with (setting_of l.typer) l.used (known_over later l.fn.known) (type_over later l.base) (fields_over later l.fn.fields) (syntax.declarators (map syntax.declarator l.declarators)))
    (λ later. fields_with (setting_of l.typer) l.used (known_over later l.known) (type_over later l.base) (fields_over later l.fields) (syntax.declarators (map syntax.declarator (drop l.declarator-index l.declarators))))
    × FieldsFit l.known.types l.fields × IsId l.known.types l.base

abbrev pub invariant-syntax::enumerators_of-loop-enumerator : goal.invariant-syntax::enumerators_of-loop-enumerator
invariant-syntax::enumerators_of-loop-enumerator l =
    Reaches l.fn.known l.known (λ later. enumerators_of (setting_of l.typer) l.used (known_over later l.fn.known) (negsuc 0) (syntax.enumerators (map syntax.enum_item l.enumerators)))
    (λ later. enumerators_of (setting_of l.typer) l.used (known_over later l.known) l.last (syntax.enumerators (map syntax.enum_item (drop l.enumerator-index l.enumerators))))

abbrev pub invariant-syntax::parameters_of-loop-parameter : goal.invariant-syntax::parameters_of-loop-parameter
invariant-syntax::parameters_of-loop-parameter l =
    Reaches l.fn.known l.known (λ later. parameters_of (setting_of l.typer) l.used (known_over later l.fn.known) (syntax.parameters (map syntax.parameter l.parameters)))
    (λ later. onward (parameters_over later l.typed) (parameters_of (setting_of l.typer) l.used (known_over later l.known) (syntax.parameters (map syntax.parameter (drop l.parameter-index l.parameters)))))
    × ParametersFit l.known.types l.typed
