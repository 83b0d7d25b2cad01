-- The program of a translation unit (6.9), and the states in which its runs begin (5.1.2.2.1, 6.7.9p4, p10).
--     program_of table unit      what the machine needs of a unit
--     start names program main input      the state at the beginning of a run
--     machine_of program      its machine
use Rattle.std.specs.Prelude.{◌≡◌, ℕ, suc, ◌<◌, ◌+◌, ◌==◌, Bool, true, false, not, ◌&&◌, List, [], ◌∷◌, ◌++◌, map, length, take, drop, Option, Some, None, ℤ, pos, is_some, All, if◌then◌else◌}
use Rattle.dm_int.specs.declared.Kind.TheVariants.{Int}
use Rattle.dm_int.specs.declared.Op.{Op}
use Rattle.dm_int.specs.Kinds as kinds
use Rattle.dm_int.specs.Operators as operators
use Rattle.dm_type.specs.CTypes.{CType, integer, pointer, array, bare}
use Rattle.dm_type.specs.Tables.{Table}
use Rattle.dm_tree.specs.declared.unit.Sort.{Sort}
use Rattle.dm_tree.specs.declared.unit.Sort.TheVariants.{Object}
use Rattle.dm_tree.specs.Trees.{Label, declare, object, literal, member, decay, binary, convert, address, follow, Initialiser, Initialisers, one_expression, in_braces, no_items, more_items, expressions_in, Tree, Trees, node, no_trees, more_trees, listed, kind_of, is_statement}
pub use Rattle.dm_tree.specs.TypeNumbers.{argv_kind}
use Rattle.dm_tree.specs.Units.{Declaration, External, ExternalForm, declares, defines_function, TypedUnit}
use Rattle.dm_meaning.specs.Machines.{Machine, going}
use Rattle.dm_meaning.specs.Values.{Name, numbered, literal_of, elsewhere, part, past, Pointer, null, to, Value, integer_value, pointer_value, parts, unset, values, parts_in}
use Rattle.dm_meaning.specs.Objects.{inner_type, all_zero}
use Rattle.dm_meaning.specs.Memory.{Memory, new_block, literal_block, written, IsFresh}
use Rattle.dm_meaning.specs.Causes.{is_null, moved_pointer}
use Rattle.dm_meaning.specs.Programs.{Definition, Static, Program, layout, declaration_at, declaration_of, constant_of}
use Rattle.dm_meaning.specs.Operations.{Objects, object_named, whole, part_of, move_of, or_zero}
use Rattle.dm_meaning.specs.States.{State}
use Rattle.dm_meaning.specs.Statements.{Local, with_expressions, type_declared, named_from, count_items, array_of}
use Rattle.dm_meaning.specs.Steps.{opened_frame, opened_memory, is_main, Step}

-- ---- what a unit defines

abbrev pub is_static_sort : Sort → Bool
is_static_sort (Object true) = true
is_static_sort other = false

abbrev pub is_static_declaration : Option Declaration → Bool
is_static_declaration None = false
is_static_declaration (Some declaration) = is_static_sort declaration.sort

-- the declarators of the declarations in a statement, at any depth, by those of its parts; an expression has none
abbrev pub locals_by : Label → List Tree → List Local → List Local
locals_by (declare lengths declarators) trees below = with_expressions declarators (drop lengths trees)
locals_by label trees below = if is_statement label then below else []

abbrev mutual
  pub locals_in : Tree → List Local
  locals_in (node label kind spans trees) = locals_by label (listed trees) (locals_in_all trees)

  pub locals_in_all : Trees → List Local
  locals_in_all no_trees = []
  locals_in_all (more_trees first rest) = locals_in first ++ locals_in_all rest

-- the declarators of an external declaration, at any depth
abbrev pub locals_of : ExternalForm → List Local
locals_of (declares declarators trees) = with_expressions declarators trees
locals_of (defines_function f parameters body) = locals_in body

abbrev pub all_locals : List External → List Local
all_locals [] = []
all_locals (external ∷ externals) = locals_of external.form ++ all_locals externals

-- an object is defined once: by its declarator with an initialiser, or by tentative definitions (6.9.2)
abbrev pub with_initialiser : Static → Local → Static
with_initialiser static local = if is_some local.declarator.initialiser then record { declared = static.declared; initialiser = local.declarator.initialiser; expressions = local.expressions } else static

abbrev pub with_static : Local → List Static → List Static
with_static local [] = record { declared = local.declarator.declared; initialiser = local.declarator.initialiser; expressions = local.expressions } ∷ []
with_static local (static ∷ statics) =
    if static.declared == local.declarator.declared then with_initialiser static local ∷ statics else static ∷ with_static local statics

abbrev pub is_static : List Declaration → Local → Bool
is_static declared local = local.declarator.defines && is_static_declaration (declaration_at declared local.declarator.declared)

abbrev pub statics_from : List Declaration → List Local → List Static → List Static
statics_from declared [] statics = statics
statics_from declared (local ∷ locals) statics =
    statics_from declared locals (if is_static declared local then with_static local statics else statics)

abbrev pub definitions_by : ExternalForm → List Definition
definitions_by (declares declarators trees) = []
definitions_by (defines_function f parameters body) = record { function = f; parameters = parameters; body = body } ∷ []

abbrev pub definitions_in : List External → List Definition
definitions_in [] = []
definitions_in (external ∷ externals) = definitions_by external.form ++ definitions_in externals

-- What the machine needs of a unit.
abbrev pub program_of : Table → TypedUnit → Program
program_of table unit = record {
  declared = unit.declared;
  functions = definitions_in unit.externals;
  statics = statics_from unit.declared (all_locals unit.externals) [];
  table = table;
}

-- ---- first values of objects of static storage duration: these take no step

-- the object that a declaration names
abbrev pub identifier_of : Option Declaration → List ℕ
identifier_of None = []
identifier_of (Some declaration) = declaration.name

abbrev pub name_of : Option ℕ → List ℕ → Name
name_of (Some n) identifier = numbered n
name_of None identifier = elsewhere identifier

abbrev pub first_pointer : List Pointer → Pointer
first_pointer [] = null
first_pointer (p ∷ others) = p

abbrev pub second_pointer : List Pointer → Pointer
second_pointer [] = null
second_pointer (p ∷ others) = first_pointer others

-- a part of what is pointed to
abbrev pub pointer_into : Pointer → ℕ → Pointer
pointer_into null n = null
pointer_into (to at) n = to (part_of at n)

-- an address that leaves its array is no place in the object, which shows at its use
abbrev pub or_beyond : Pointer → Option Pointer → Pointer
or_beyond p (Some q) = q
or_beyond null None = null
or_beyond (to at) None = to (record { name = at.name; path = past ∷ past ∷ [] })

abbrev pub pointer_moved : Program → Memory → CType → Pointer → ℤ → Pointer
pointer_moved program memory (pointer target) p n = or_beyond p (moved_pointer (layout program) memory target p n)
pointer_moved program memory kind p n = null

abbrev pub is_pointer : CType → Bool
is_pointer (pointer target) = true
is_pointer kind = false

-- a sum or a difference of an address and an integer constant expression
abbrev pub address_plus : Program → Memory → Op → CType → List Tree → List Pointer → Pointer
address_plus program memory op kind (left ∷ right ∷ []) pointers =
    if is_pointer (kind_of left) then pointer_moved program memory kind (first_pointer pointers) (move_of op (or_zero (constant_of program right)))
    else pointer_moved program memory kind (second_pointer pointers) (or_zero (constant_of program left))
address_plus program memory op kind trees pointers = null

-- the address that a tree gives, or that of the object that it designates, by those of its parts (6.6p9)
abbrev pub address_by : Program → Objects → Memory → Label → CType → List Tree → List Pointer → Pointer
address_by program objects memory (object d) kind trees pointers = to (whole (name_of (object_named objects d) (identifier_of (declaration_of program d))))
address_by program objects memory (literal bytes unit) kind trees pointers = to (whole (literal_of bytes unit))
address_by program objects memory (member n) kind trees pointers = pointer_into (first_pointer pointers) n
address_by program objects memory decay kind trees pointers = pointer_into (first_pointer pointers) 0
address_by program objects memory (binary op) kind trees pointers = address_plus program memory op kind trees pointers
address_by program objects memory convert kind trees pointers = first_pointer pointers
address_by program objects memory address kind trees pointers = first_pointer pointers
address_by program objects memory follow kind trees pointers = first_pointer pointers
address_by program objects memory label kind trees pointers = null

abbrev mutual
  pub address_of : Program → Objects → Memory → Tree → Pointer
  address_of program objects memory (node label kind spans trees) =
      address_by program objects memory label kind (listed trees) (addresses_of program objects memory trees)

  pub addresses_of : Program → Objects → Memory → Trees → List Pointer
  addresses_of program objects memory no_trees = []
  addresses_of program objects memory (more_trees first rest) = address_of program objects memory first ∷ addresses_of program objects memory rest

-- the characters of a string literal
abbrev pub characters_by : Label → List Value
characters_by (literal bytes unit) = parts_in (literal_block bytes).contents
characters_by label = []

abbrev pub characters_of : Tree → List Value
characters_of (node label kind spans trees) = characters_by label

-- an integer constant expression, or an address converted to _Bool
abbrev pub number_or : Option ℤ → Pointer → ℤ
number_or (Some z) p = z
number_or None p = operators.truth (not (is_null p))

-- the value that an expression gives an object of this type, converted to it (6.7.9p4, p11)
abbrev pub static_scalar : Program → Objects → Memory → CType → Tree → Value
static_scalar program objects memory (integer kind) tree = integer_value kind (kinds.convert kind (number_or (constant_of program tree) (address_of program objects memory tree)))
static_scalar program objects memory (pointer target) tree = pointer_value (address_of program objects memory tree)
static_scalar program objects memory (array element count) tree = array_of (array element count) (characters_of tree)
static_scalar program objects memory kind tree = unset

abbrev pub static_one : Program → Objects → Memory → CType → List Tree → Value
static_one program objects memory kind [] = unset
static_one program objects memory kind (tree ∷ trees) = static_scalar program objects memory (bare kind) tree

abbrev mutual
  pub static_value : Program → Objects → Memory → CType → Initialiser → List Tree → Value
  static_value program objects memory kind one_expression expressions = static_one program objects memory kind expressions
  static_value program objects memory kind (in_braces items) expressions =
      parts (values (static_parts program objects memory kind 0 items expressions ++ drop (count_items items) (parts_in (all_zero (layout program) kind))))

  pub static_parts : Program → Objects → Memory → CType → ℕ → Initialisers → List Tree → List Value
  static_parts program objects memory kind n no_items expressions = []
  static_parts program objects memory kind n (more_items item items) expressions =
      static_value program objects memory (inner_type (layout program) (bare kind) n) item (take (expressions_in item) expressions)
      ∷ static_parts program objects memory kind (suc n) items (drop (expressions_in item) expressions)

-- ---- the beginning of a run

abbrev pub static_numbers : List Static → List ℕ
static_numbers statics = map (λ static. static.declared) statics

-- objects whose scalars are 0 or null pointers (6.7.9p10)
abbrev pub zeroed_from : Program → (ℕ → ℕ) → ℕ → List ℕ → Memory → Memory
zeroed_from program names i [] memory = memory
zeroed_from program names i (d ∷ ds) memory =
    let kind = type_declared program d in
    zeroed_from program names (suc i) ds ((names i, record (new_block (layout program) kind) { contents = all_zero (layout program) kind }) ∷ memory)

-- the object has its first value, by the addresses that are known from memory
abbrev pub initialised : Program → Objects → Memory → Static → Option ℕ → Option Initialiser → Memory → Memory
initialised program objects known static (Some n) (Some initialiser) memory =
    written memory (whole (numbered n)) (static_value program objects known (type_declared program static.declared) initialiser static.expressions)
initialised program objects known static n initialiser memory = memory

abbrev pub all_initialised : Program → Objects → Memory → List Static → Memory → Memory
all_initialised program objects known [] memory = memory
all_initialised program objects known (static ∷ statics) memory =
    all_initialised program objects known statics
    (initialised program objects known static (object_named objects static.declared) static.initialiser memory)

abbrev pub statics_memory : Program → (ℕ → ℕ) → Objects → Memory
statics_memory program names objects =
    let zeroed = zeroed_from program names 0 (static_numbers program.statics) [] in
    all_initialised program objects zeroed program.statics zeroed

-- `main` starts with argc 0 and an argv of one null pointer (5.1.2.2.1p2)
abbrev pub arguments_for : ℕ → List ℕ → List Value
arguments_for n [] = []
arguments_for n (parameter ∷ others) =
    integer_value Int (pos 0) ∷ pointer_value (to (record { name = numbered n; path = part 0 ∷ [] })) ∷ []

-- The state at the beginning of a run: the objects of static storage duration, that of argv, and those of `main` have the names in order.
abbrev pub start : (ℕ → ℕ) → Program → Definition → List ℕ → State
start names program main input =
    let statics = named_from names 0 (static_numbers program.statics) [] in
    let argv = length program.statics in
    let others : ℕ → ℕ = λ i. names (suc argv + i) in
    let memory = (names argv, record (new_block (layout program) argv_kind) { contents = all_zero (layout program) argv_kind }) ∷ statics_memory program names statics in
    record {
      standing = going;
      frame = opened_frame program others main;
      callers = [];
      statics = statics;
      world = record {
        memory = opened_memory program others main (arguments_for (names argv) main.parameters) memory;
        input = input;
        output = [];
      };
    }

-- the definition of `main`, if there is one
abbrev pub main_in : Program → List Definition → Option Definition
main_in program [] = None
main_in program (definition ∷ definitions) =
    if is_main (declaration_of program definition.function) then Some definition else main_in program definitions

abbrev pub main_of : Program → Option Definition
main_of program = main_in program program.functions

-- an input is a list of bytes
abbrev pub AreBytes : List ℕ → Type 0
AreBytes input = All (λ byte. byte < 256) input

-- a run of the program on an input may begin so: new objects may take any names
abbrev pub Begins : Program → List ℕ → State → Type 0
Begins program input state =
    AreBytes input × (names : ℕ → ℕ) × IsFresh names [] × (main : Definition) × (main_of program ≡ Some main) × (state ≡ start names program main input)

-- the machine of a program
abbrev pub machine_of : Program → Machine
machine_of program = record {
  State = State;
  Begins = Begins program;
  Step = Step program;
  standing = λ state. state.standing;
  output = λ state. state.world.output;
}
