-- Parts of the definition of function definitions by names of their own, one for each step that the code takes.
--     answer_of kind      the type of a function's result
--     block_scoped, block_inside      a body that is a block
--     definition_broken said standing here name entry      the rule that a definition breaks first, and its token
--     function_declared said standing declarator entry      the function of a definition: its number
--     function_headed, function_defined      a function definition, behind its specifiers and behind its declarator
--     external_over later one      an external declaration, and `externals_over later all` several
use Rattle.std.specs.Prelude.{ℕ, false, not, IsTrue, List, [], ◌++◌, length, map, All, Option, Some, None}
use Rattle.dm_token.specs.declared.place.Span.{Span}
use Rattle.dm_type.specs.declared.shape.Shape.{Shape}
use Rattle.dm_type.specs.CTypes.{CType, function as function_type, bare}
use Rattle.dm_type.specs.Tables.{Table}
use Rattle.dm_name_map.specs.Numbers.{Numbers}
use Rattle.dm_syn.specs.Spans.{declarator_span}
use Rattle.dm_syn.specs.Trees.{Declarator, Stmt, BlockItems}
use Rattle.dm_tree.specs.Trees.{Tree}
use Rattle.dm_tree.specs.Trees as label
use Rattle.dm_tree.specs.declared.unit.CoreExternal.{CoreExternal}
use Rattle.dm_tree.specs.TypeNumbers.{external_has_known}
use Rattle.dm_tree.specs.Units.{Declaration, External, defines_function}
use Rattle.dm_tree.specs.Views.{view_of_external}
use Rattle.dm_typing.specs.Known.{Setting}
use Rattle.dm_edecl.specs.Standing.{Standing, Progress, goes_on, further, keeps, collecting, opened, closed}
use Rattle.dm_edecl.specs.Declaring.{Specified, name_at, fits_main, declarable}
use Rattle.dm_edecl.specs.Linkages.{entry_of, function_here, number_here, is_defined}
use Rattle.dm_edecl.specs.Statements.{Within, statement, typed_items_in}
use Rattle.dm_edecl.specs.Units.{typed_heading, body_within, typed_body, external_of}
use Rattle.dm_edeclaration.specs.Steps.{broken_unless, rule_broken}
use Rattle.dm_eunit.specs.Parts.{Headed, headed}

-- ---- bodies

abbrev pub answer_of : CType → Option CType
answer_of (function_type result parameters) = Some (bare result)
answer_of kind = None

-- a block without its scope
abbrev pub block_inside : Setting → Within → Span → BlockItems → Standing → Progress Tree
block_inside setting within span items inside =
    further (typed_items_in setting within inside items) (λ behind trees. goes_on behind (statement setting span label.block trees))

abbrev pub block_scoped : Setting → Within → Standing → Numbers → Span → BlockItems → Progress Tree
block_scoped setting within standing scope span items = closed standing (block_inside setting within span items (opened scope standing))

-- ---- what may be defined

-- the first of two rules that are broken
abbrev pub or_broken : Option (ℕ × ℕ) → Option (ℕ × ℕ) → Option (ℕ × ℕ)
or_broken None other = other
or_broken (Some fault) other = Some fault

abbrev pub definition_broken : Specified → Standing → ℕ → ℕ → Declaration → Option (ℕ × ℕ)
definition_broken said standing here name entry =
    broken_unless (not (is_defined (number_here standing entry) standing.linked)) 2 name
    (or_broken (rule_broken said standing false here name entry) (broken_unless (fits_main entry) 36 name None))

abbrev pub function_declared : Specified → Standing → Declarator → Declaration → Progress ℕ
function_declared said standing declarator entry =
    keeps (not (is_defined (number_here standing entry) standing.linked)) 2 (name_at declarator)
    (declarable said standing false (declarator_span declarator).first (name_at declarator) entry
    (keeps (fits_main entry) 36 (name_at declarator)
    (goes_on (function_here standing entry) (number_here standing entry))))

-- a number is as it is
abbrev pub number_over : List Shape → ℕ → ℕ
number_over later number = number

abbrev pub NumberFits : Table → ℕ → Type 0
NumberFits types number = Unit {0}

-- ---- definitions

-- behind the declarator of the function, which has this number
abbrev pub function_ended : Setting → ℕ → Span → List Tree → Stmt → Headed → Standing → Progress External
function_ended setting number span constants body heading standing =
    further (typed_body setting (body_within heading.kind) standing heading.scope body)
    (λ behind made. goes_on behind (external_of span constants (defines_function number heading.numbers made)))

abbrev pub function_defined : Setting → Specified → Standing → Span → List Tree → Declarator → Stmt → Headed → Declaration → Progress External
function_defined setting said standing span constants declarator body heading entry =
    further (function_declared said standing declarator entry) (λ behind number. function_ended setting number span constants body heading behind)

abbrev pub function_headed : Setting → Specified → Standing → Span → List Tree → Declarator → Stmt → Progress External
function_headed setting said standing span constants declarator body =
    collecting standing (headed (typed_heading setting standing.known said.kind declarator)) (λ behind more heading.
    function_defined setting said behind span (constants ++ more) declarator body heading
    (entry_of setting behind.known said.storage (name_at declarator) heading.kind))

-- ---- external declarations

abbrev pub external_over : List Shape → CoreExternal → External
external_over later one = view_of_external (record { shapes = later; structs = [] }) one

abbrev pub ExternalFits : Table → CoreExternal → Type 0
ExternalFits types one = IsTrue (external_has_known (length types.shapes) one)

abbrev pub externals_over : List Shape → List CoreExternal → List External
externals_over later all = map (external_over later) all

abbrev pub ExternalsFit : Table → List CoreExternal → Type 0
ExternalsFit types all = All (ExternalFits types) all
