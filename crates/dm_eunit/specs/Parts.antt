-- Parts of the definition of function definitions by names of their own, one for each step that the code takes.
--     parameter_behind alone known parameter one      a parameter of a definition, behind its type
--     declarator_begun, direct_begun      the steps of a declarator, with what its own parameters declare
--     headed outcome      what such a declarator says, as far as the code keeps it
use Rattle.std.specs.Prelude.{ℕ, Bool, true, ◌&&◌, if◌then◌else◌, List, [], ◌∷◌, ◌++◌, Option, None}
use Rattle.dm_type.specs.CTypes.{CType}
use Rattle.dm_name_map.specs.Numbers.{Numbers}
use Rattle.dm_syn.specs.Statements.{own_parameters, own_in_direct}
use Rattle.dm_syn.specs.Trees.{Declarator, Direct, Parameters, Parameter}
use Rattle.dm_syn.specs.Trees as tree
use Rattle.dm_typing.specs.Known.{Known, Setting, Outcome, given, after, with_it}
use Rattle.dm_typing.specs.Typing.{Step, calling, pointers, TypedParameter, is_no_parameters, without_void, entered, steps_of, direct_steps}
use Rattle.dm_edecl.specs.Units.{may_be_defined, defined_parameters, own_defined, Heading, innermost, numbers_of}

-- ---- parameters

abbrev pub parameter_behind : Bool → Known → Parameter → TypedParameter → Outcome TypedParameter
parameter_behind alone known (tree.parameter span specifiers declarator) one =
    if alone && is_no_parameters (one ∷ []) then given known one else may_be_defined known span declarator one (given known one)

-- ---- declarators

-- the steps, the numbers of the definition's own parameters, and their scope
pub record Begun : Type 0 where
  pub steps : List Step
  pub numbers : List ℕ
  pub scope : Numbers

abbrev pub begun_by : Setting → Known → Option Parameters → Outcome (List Step) → Outcome Begun
begun_by setting known own steps =
    after (own_defined setting known own)
    (λ inside parameters. with_it steps (λ behind these. record { steps = these; numbers = numbers_of parameters; scope = innermost inside.scopes }))

abbrev pub declarator_begun : Setting → Known → Declarator → Outcome Begun
declarator_begun setting known declarator = begun_by setting known (own_parameters None declarator) (steps_of setting true known declarator)

abbrev pub direct_begun : Setting → Known → ℕ → Direct → Outcome Begun
direct_begun setting known here direct = begun_by setting known (own_in_direct None direct) (direct_steps setting true known here direct)

-- with other steps
abbrev pub stepped : Begun → List Step → Begun
stepped begun steps = record begun { steps = steps }

abbrev pub pointed : ℕ → List ℕ → Begun → Begun
pointed first consts begun = stepped begun (pointers first consts ++ begun.steps)

-- the definition's own parameters
abbrev pub own_begun : Setting → Known → ℕ → Parameters → Outcome Begun
own_begun setting known here parameters =
    after (defined_parameters setting true (entered known) parameters)
    (λ inside typed. given (record inside { scopes = known.scopes })
    (record { steps = calling here (without_void typed) ∷ []; numbers = numbers_of typed; scope = innermost inside.scopes }))

-- ---- headings

pub record Headed : Type 0 where
  pub kind : CType
  pub numbers : List ℕ
  pub scope : Numbers

abbrev pub headed_by : Heading → Headed
headed_by heading = record { kind = heading.kind; numbers = numbers_of heading.parameters; scope = heading.scope }

abbrev pub headed : Outcome Heading → Outcome Headed
headed outcome = with_it outcome (λ behind heading. headed_by heading)
