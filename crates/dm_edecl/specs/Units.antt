-- The typing of external declarations and of translation units (6.9).
--     typed_external setting standing external      an external declaration
--     typed_unit shapes tokens externals      a unit of these tokens, where types have the numbers of these shapes: the typed unit, or the
--         first typing rule that is broken
use Rattle.std.specs.Prelude.{ℕ, Bool, true, false, ◌&&◌, ◌||◌, not, List, [], ◌∷◌, ◌++◌, Option, Some, None, is_some, bytes_eq, if◌then◌else◌}
use Rattle.std.specs.FinMap as map
use Rattle.dm_token.specs.declared.place.Span.{Span}
use Rattle.dm_token.specs.declared.token.CToken.{CToken}
use Rattle.dm_type.specs.declared.shape.Shape.{Shape}
use Rattle.dm_type.specs.CTypes.{CType, void, function as function_type, bare}
use Rattle.dm_scope.specs.Scopes.{Scopes}
use Rattle.dm_name_map.specs.Numbers.{Numbers}
use Rattle.dm_syn.specs.Sources.{spelling_at}
use Rattle.dm_syn.specs.Spans.{declarator_span}
use Rattle.dm_syn.specs.Statements.{own_parameters}
use Rattle.dm_syn.specs.Trees.{Specifiers, Declarator, Parameters, Parameter, Stmt, External}
use Rattle.dm_syn.specs.Trees as tree
use Rattle.dm_tree.specs.Trees.{Tree}
use Rattle.dm_tree.specs.Trees as label
use Rattle.dm_tree.specs.Units.{declares, defines_function, TypedUnit}
use Rattle.dm_tree.specs.Units as unit
use Rattle.dm_typing.specs.Known.{Known, Setting, Outcome, given, broken, after, with_it, obeys}
use Rattle.dm_typing.specs.Conversions.{is_complete}
use Rattle.dm_typing.specs.Specifiers.{of_definition}
use Rattle.dm_typing.specs.Typing.{TypedParameter, parameter_of, parameter_at, entered, is_no_parameters, without_void}
use Rattle.dm_edecl.specs.Standing.{Standing, Progress, goes_on, stops, further, collecting, keeps, opened, closed}
use Rattle.dm_edecl.specs.Linkages.{entry_of, function_here, number_here, is_defined, with_whole_kinds}
use Rattle.dm_edecl.specs.Declaring.{Specified, specified, typed_declarator, name_at, fits_main, declarable, declarators_of, expressions_of, typed_declaration}
use Rattle.dm_edecl.specs.Statements.{Within, statement, typed_stmt, typed_items_in}

-- ---- the parameters of a function definition (6.9.1)

-- the parameter of `(void)`, which stands alone and isn't one
abbrev pub is_only : Parameters → Bool
is_only tree.no_parameters = true
is_only _ = false

-- C5: a parameter of a definition has a complete type (6.7.6.3p4); C35: it has a name (6.9.1p5)
abbrev pub may_be_defined : {A : Type 0} → Known → Span → Declarator → TypedParameter → Outcome A → Outcome A
may_be_defined known span declarator one next =
    obeys (is_complete known one.kind) 5 (parameter_at span declarator) (obeys (is_some one.declared) 35 span.first next)

abbrev pub defined_parameter : Setting → Bool → Known → Parameter → Outcome TypedParameter
defined_parameter setting alone known (tree.parameter span specifiers declarator) =
    after (parameter_of setting true known (tree.parameter span specifiers declarator)) (λ behind one.
    if alone && is_no_parameters (one ∷ []) then given behind one else may_be_defined behind span declarator one (given behind one))

abbrev pub defined_parameters : Setting → Bool → Known → Parameters → Outcome (List TypedParameter)
defined_parameters setting alone known tree.no_parameters = given known []
defined_parameters setting alone known (tree.more_parameters first others) =
    after (defined_parameter setting (alone && is_only others) known first) (λ then_known made.
    with_it (defined_parameters setting false then_known others) (λ behind more. made ∷ more))

abbrev pub own_defined : Setting → Known → Option Parameters → Outcome (List TypedParameter)
own_defined setting known None = given known []
own_defined setting known (Some parameters) = defined_parameters setting true (entered known) parameters

-- ---- the declarator of a function definition

-- what it says: the type of the function, its parameters, and the scope of these, which opens again at the body (6.2.1p4)
pub record Heading : Type 0 where
  pub kind : CType
  pub parameters : List TypedParameter
  pub scope : Numbers

abbrev pub innermost : Scopes → Numbers
innermost [] = map.empty
innermost (scope ∷ scopes) = scope

-- Its own parameters stand first in a declarator, so what they break is broken first.
abbrev pub typed_heading : Setting → Known → CType → Declarator → Outcome Heading
typed_heading setting known base declarator =
    after (own_defined setting known (own_parameters None declarator)) (λ inside parameters.
    with_it (typed_declarator setting known base declarator)
    (λ behind kind. record { kind = kind; parameters = without_void parameters; scope = innermost inside.scopes }))

-- ---- function definitions

abbrev pub put_before : Option ℕ → List ℕ → List ℕ
put_before None numbers = numbers
put_before (Some number) numbers = number ∷ numbers

abbrev pub numbers_of : List TypedParameter → List ℕ
numbers_of [] = []
numbers_of (first ∷ others) = put_before first.declared (numbers_of others)

abbrev pub result_of : CType → CType
result_of (function_type result parameters) = bare result
result_of kind = void

abbrev pub body_within : CType → Within
body_within kind = record { result = result_of kind; breaks = false; continues = false }

-- the body is one scope with the parameters
abbrev pub typed_body : Setting → Within → Standing → Numbers → Stmt → Progress Tree
typed_body setting within standing scope (tree.block span items) =
    closed standing (further (typed_items_in setting within (opened scope standing) items)
    (λ behind trees. goes_on behind (statement setting span label.block trees)))
typed_body setting within standing scope stmt = typed_stmt setting within standing stmt

abbrev pub external_of : Span → List Tree → unit.ExternalForm → unit.External
external_of span constants form = record { span = span; constants = constants; form = form }

-- C2: a function is defined once (6.9p3, p5); and C36, since a definition stands in file scope
abbrev pub function_defined : Setting → Specified → Standing → Span → Declarator → Stmt → List Tree → Heading → unit.Declaration → Progress unit.External
function_defined setting said standing span declarator body constants heading entry =
    keeps (not (is_defined (number_here standing entry) standing.linked)) 2 (name_at declarator)
    (declarable said standing false (declarator_span declarator).first (name_at declarator) entry
    (keeps (fits_main entry) 36 (name_at declarator)
    (further (typed_body setting (body_within heading.kind) (function_here standing entry) heading.scope body)
    (λ behind made. goes_on behind
    (external_of span constants (defines_function (number_here standing entry) (numbers_of heading.parameters) made))))))

-- ---- external declarations

abbrev pub typed_external : Setting → Standing → External → Progress unit.External
typed_external setting standing (tree.external span declaration) =
    further (typed_declaration setting standing declaration)
    (λ behind one. goes_on behind (external_of span one.constants (declares (declarators_of one.locals) (expressions_of one.locals))))
typed_external setting standing (tree.definition span specifiers declarator body) =
    collecting standing (specified setting of_definition false standing.known specifiers) (λ then_standing constants said.
    collecting then_standing (typed_heading setting then_standing.known said.kind declarator) (λ behind more heading.
    function_defined setting said behind span declarator body (constants ++ more) heading
    (entry_of setting behind.known said.storage (name_at declarator) heading.kind)))

abbrev pub typed_externals : Setting → Standing → List External → Progress (List unit.External)
typed_externals setting standing [] = goes_on standing []
typed_externals setting standing (first ∷ others) =
    further (typed_external setting standing first) (λ then_standing made. further (typed_externals setting then_standing others)
    (λ behind more. goes_on behind (made ∷ more)))

-- ---- units

-- the unit defines a function of this name
abbrev pub is_definition_of : List CToken → List ℕ → External → Bool
is_definition_of tokens name (tree.external span declaration) = false
is_definition_of tokens name (tree.definition span specifiers declarator body) =
    bytes_eq (spelling_at (record { tokens = tokens; outer = λ other. false }) (name_at declarator)) name

abbrev pub defines : List CToken → List External → List ℕ → Bool
defines tokens [] name = false
defines tokens (first ∷ others) name = is_definition_of tokens name first || defines tokens others name

abbrev pub unit_setting : List CToken → List External → Setting
unit_setting tokens externals = record {
  source = record { tokens = tokens; outer = λ name. false };
  lacks = λ name. not (defines tokens externals name);
}

-- nothing is declared yet
abbrev pub beginning : List Shape → Standing
beginning shapes = record {
  known = record {
    types = record { shapes = shapes; structs = [] };
    scopes = map.empty ∷ [];
    declared = [];
    begun = [];
    constants = [];
  };
  linked = [];
}

abbrev pub unit_of : Progress (List unit.External) → Outcome TypedUnit
unit_of (goes_on behind externals) =
    given behind.known (record { declared = with_whole_kinds behind.linked 0 behind.known.declared; externals = externals })
unit_of (stops rule at) = broken rule at

abbrev pub typed_unit : List Shape → List CToken → List External → Outcome TypedUnit
typed_unit shapes tokens externals = unit_of (typed_externals (unit_setting tokens externals) (beginning shapes) externals)
