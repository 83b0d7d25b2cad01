-- The typing of units gives the same where types have other numbers.
use Rattle.std.specs.Prelude.{ℕ, Bool, true, false, ◌&&◌, not, if◌then◌else◌, List, [], ◌∷◌, ◌++◌, Option, Some, None, is_some, refl}
use Rattle.dm_token.specs.declared.place.Span.{Span}
use Rattle.dm_token.specs.declared.token.CToken.{CToken}
use Rattle.dm_type.specs.declared.shape.Shape.{Shape}
use Rattle.dm_type.specs.CTypes.{CType}
use Rattle.dm_name_map.specs.Numbers.{Numbers}
use Rattle.dm_syn.specs.Spans.{declarator_span}
use Rattle.dm_syn.specs.Statements.{own_parameters}
use Rattle.dm_syn.specs.Trees.{Specifiers, Declarator, Parameters, Parameter, Stmt, External}
use Rattle.dm_syn.specs.Trees as tree
use Rattle.dm_tree.specs.Trees.{Tree}
use Rattle.dm_tree.specs.Units as unit
use Rattle.dm_typing.specs.Known.{Known, Setting, Outcome, given}
use Rattle.dm_typing.specs.Specifiers.{of_definition}
use Rattle.dm_typing.specs.Typing.{TypedParameter, parameter_of, parameter_at, entered, is_no_parameters}
use Rattle.dm_edecl.specs.Standing.{Standing, Progress, opened}
use Rattle.dm_edecl.specs.Linkages.{entry_of, function_here, number_here, is_defined}
use Rattle.dm_edecl.specs.Declaring.{Specified, typed_declarator, name_at, fits_main, typed_declaration}
use Rattle.dm_edecl.specs.Statements.{Within, typed_items_in}
use Rattle.dm_edecl.specs.Units.{is_only, may_be_defined, defined_parameter, defined_parameters, own_defined, Heading, typed_heading, body_within, typed_body, function_defined, typed_external, typed_externals, unit_setting, beginning, unit_of, typed_unit}
use Rattle.dm_outcome.proofs.Renumbered.{Renumbers, at_one, at_other}
use Rattle.dm_outcome.proofs.RuleLemmas.{complete-same}
use Rattle.dm_outcome.proofs.ExpressionLemmas.{Both, gives, breaks, after-both, with-both, obeys-both, parameter-both}
use Rattle.dm_outcome.proofs.StatementLemmas.{stand_one, stand_other, Beside, goes, halts, further-both, collecting-both, keeps-both, closed-both, declarable-both, function-declared-both, declarator-both, declaration-both, definition-both, stmt-both, items-in-both}

module _ (one other : List Shape) (number : ℕ → ℕ) (re : Renumbers one other number) (setting : Setting) where
  abbrev by_one : Standing → Standing
  by_one standing = stand_one one standing

  abbrev by_other : Standing → Standing
  by_other standing = stand_other other number standing

  -- ---- the parameters of a function definition

  may-be-both : {A : Type 0} (known : Known) (span : Span) (declarator : Declarator) (it : TypedParameter) (x y : Outcome A) → Both one other number x y
      → Both one other number (may_be_defined (at_one one known) span declarator it x) (may_be_defined (at_other other number known) span declarator it y)
  may-be-both known span declarator it x y h =
      obeys-both one other number _ _ 5 (parameter_at span declarator) _ _ (complete-same one other number re known it.kind)
      (obeys-both one other number (is_some it.declared) _ 35 span.first _ _ refl h)

  defined-parameter-both : (alone : Bool) (known : Known) (it : Parameter)
      → Both one other number (defined_parameter setting alone (at_one one known) it) (defined_parameter setting alone (at_other other number known) it)
  defined-parameter-both alone known (tree.parameter span specifiers declarator) =
      after-both one other number (parameter_of setting true (at_one one known) (tree.parameter span specifiers declarator)) _ _ _
      (parameter-both one other number re setting true known (tree.parameter span specifiers declarator)) (λ behind it. go behind it (alone && is_no_parameters (it ∷ [])))
    where
      go : (behind : Known) (it : TypedParameter) (test : Bool)
          → Both one other number (if test then given (at_one one behind) it else may_be_defined (at_one one behind) span declarator it (given (at_one one behind) it))
          (if test then given (at_other other number behind) it else may_be_defined (at_other other number behind) span declarator it (given (at_other other number behind) it))
      go behind it true = gives behind it
      go behind it false = may-be-both behind span declarator it _ _ (gives behind it)

  defined-parameters-both : (alone : Bool) (known : Known) (parameters : Parameters)
      → Both one other number (defined_parameters setting alone (at_one one known) parameters) (defined_parameters setting alone (at_other other number known) parameters)
  defined-parameters-both alone known tree.no_parameters = gives known _
  defined-parameters-both alone known (tree.more_parameters first others) =
      after-both one other number (defined_parameter setting (alone && is_only others) (at_one one known) first) _ _ _ (defined-parameter-both (alone && is_only others) known first) (λ then_known made.
      with-both one other number (defined_parameters setting false (at_one one then_known) others) _ _ _ (defined-parameters-both false then_known others) (λ behind more. refl))

  own-both : (known : Known) (parameters : Option Parameters)
      → Both one other number (own_defined setting (at_one one known) parameters) (own_defined setting (at_other other number known) parameters)
  own-both known None = gives known _
  own-both known (Some parameters) = defined-parameters-both true (entered known) parameters

  -- ---- function definitions

  heading-both : (known : Known) (base : CType) (declarator : Declarator)
      → Both one other number (typed_heading setting (at_one one known) base declarator) (typed_heading setting (at_other other number known) base declarator)
  heading-both known base declarator =
      after-both one other number (own_defined setting (at_one one known) (own_parameters None declarator)) _ _ _ (own-both known (own_parameters None declarator)) (λ inside parameters.
      with-both one other number (typed_declarator setting (at_one one known) base declarator) _ _ _ (declarator-both one other number re setting known base declarator) (λ behind kind. refl))

  body-both : (within : Within) (standing : Standing) (scope : Numbers) (stmt : Stmt)
      → Beside one other number (typed_body setting within (by_one standing) scope stmt) (typed_body setting within (by_other standing) scope stmt)
  body-both within standing scope (tree.block span items) =
      closed-both one other number standing _ _
      (further-both one other number (typed_items_in setting within (opened scope (by_one standing)) items) _ _ _ (items-in-both one other number re setting within (opened scope standing) items)
      (λ behind trees. goes behind _))
  body-both within standing scope stmt = stmt-both one other number re setting within standing stmt

  function-both : (said : Specified) (standing : Standing) (span : Span) (declarator : Declarator) (body : Stmt) (constants : List Tree) (heading : Heading) (entry : unit.Declaration)
      → Beside one other number (function_defined setting said (by_one standing) span declarator body constants heading entry)
      (function_defined setting said (by_other standing) span declarator body constants heading entry)
  function-both said standing span declarator body constants heading entry =
      keeps-both one other number (not (is_defined (number_here standing entry) standing.linked)) _ 2 (name_at declarator) _ _ refl
      (declarable-both one other number re said standing false (declarator_span declarator).first (name_at declarator) entry _ _
      (keeps-both one other number (fits_main entry) _ 36 (name_at declarator) _ _ refl
      (further-both one other number (typed_body setting (body_within heading.kind) (function_here (by_one standing) entry) heading.scope body) _ _ _
      (function-declared-both one other number re setting standing entry (λ behind. typed_body setting (body_within heading.kind) behind heading.scope body)
      (λ behind. body-both (body_within heading.kind) behind heading.scope body)) (λ behind made. goes behind _))))

  -- ---- external declarations

  external-both : (standing : Standing) (it : External) → Beside one other number (typed_external setting (by_one standing) it) (typed_external setting (by_other standing) it)
  external-both standing (tree.external span declaration) =
      further-both one other number (typed_declaration setting (by_one standing) declaration) _ _ _ (declaration-both one other number re setting standing declaration) (λ behind it. goes behind _)
  external-both standing (tree.definition span specifiers declarator body) =
      collecting-both one other number standing _ _ _ _ (definition-both one other number re setting standing.known specifiers of_definition) (λ then_standing constants said.
      collecting-both one other number then_standing _ _ _ _ (heading-both then_standing.known said.kind declarator) (λ behind more heading.
      function-both said behind span declarator body (constants ++ more) heading (entry_of setting behind.known said.storage (name_at declarator) heading.kind)))

  externals-both : (standing : Standing) (externals : List External) → Beside one other number (typed_externals setting (by_one standing) externals) (typed_externals setting (by_other standing) externals)
  externals-both standing [] = goes standing _
  externals-both standing (first ∷ others) =
      further-both one other number (typed_external setting (by_one standing) first) _ _ _ (external-both standing first) (λ then_standing made.
      further-both one other number (typed_externals setting (by_one then_standing) others) _ _ _ (externals-both then_standing others) (λ behind more. goes behind _))

  unit-of-both : (x y : Progress (List unit.External)) → Beside one other number x y → Both one other number (unit_of x) (unit_of y)
  unit-of-both x y (goes behind externals) = gives behind.known _
  unit-of-both x y (halts rule at) = breaks rule at

-- a unit comes to the same, whatever numbers its types have
pub unit-both : (one other : List Shape) (number : ℕ → ℕ) → Renumbers one other number → (tokens : List CToken) (externals : List External)
    → Both one other number (typed_unit one tokens externals) (typed_unit other tokens externals)
unit-both one other number re tokens externals =
    unit-of-both one other number re (unit_setting tokens externals) _ _ (externals-both one other number re (unit_setting tokens externals) (beginning []) externals)
