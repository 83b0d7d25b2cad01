-- So are the states in which runs begin.
use Rattle.std.specs.Prelude.{◌≡◌, refl, ℕ, suc, ◌+◌, List, [], ◌∷◌, ◌++◌, drop, take, length, Option, Some, ℤ, if◌then◌else◌}
use Rattle.dm_int.specs.declared.Op.{Op}
use Rattle.dm_int.specs.Kinds as kinds
use Rattle.dm_type.specs.CTypes.{CType, integer, pointer, bare}
use Rattle.dm_type.specs.Tables.{Table}
use Rattle.dm_tree.specs.Trees as label
use Rattle.dm_tree.specs.Trees.{Label, Initialiser, Initialisers, one_expression, in_braces, no_items, more_items, expressions_in, Tree, Trees, node, no_trees, more_trees, listed, kind_of}
use Rattle.dm_meaning.specs.Machines.{going}
use Rattle.dm_meaning.specs.Values.{numbered, Pointer, integer_value, pointer_value, parts, values, parts_in}
use Rattle.dm_meaning.specs.Objects.{inner_type, all_zero}
use Rattle.dm_meaning.specs.Memory.{Memory, new_block, written}
use Rattle.dm_meaning.specs.Causes.{moved_pointer}
use Rattle.dm_meaning.specs.Programs.{Definition, Static, Program, layout, declaration_of, constant_of}
use Rattle.dm_meaning.specs.Operations.{Objects, object_named, whole, move_of, or_zero}
use Rattle.dm_meaning.specs.Statements.{type_declared, named_from, count_items}
use Rattle.dm_meaning.specs.Steps.{is_main}
use Rattle.dm_meaning.specs.Units.{first_pointer, second_pointer, or_beyond, pointer_moved, is_pointer, address_plus, address_by, address_of, addresses_of, number_or, static_scalar, static_one, static_value, static_parts, static_numbers, zeroed_from, initialised, all_initialised, statics_memory, argv_kind, arguments_for, start, main_in, main_of}
use Rattle.dm_sound.specs.SameTables.{over}
use Rattle.dm_same.proofs.StepLemmas.{frame_same, memory_same}

module _ (program : Program) (old new : Table) (laid : layout (over program new) ≡ layout (over program old))
    (constants : (tree : Tree) → constant_of (over program new) tree ≡ constant_of (over program old) tree) where
  -- ---- addresses

  pointer_same : (memory : Memory) (kind : CType) (p : Pointer) (n : ℤ) → pointer_moved (over program new) memory kind p n ≡ pointer_moved (over program old) memory kind p n
  pointer_same memory (pointer target) p n = λ i. or_beyond p (moved_pointer (laid i) memory target p n)
  pointer_same memory kind p n = refl

  -- the same numbers lead from an address to the same one
  sum_same : (memory : Memory) (op : Op) (kind : CType) (trees : List Tree) (pointers : List Pointer)
      → address_plus (over program new) memory op kind trees pointers ≡ address_plus (over program old) memory op kind trees pointers
  sum_same memory op kind (left ∷ right ∷ []) pointers =
      λ i. if is_pointer (kind_of left) then pointer_same memory kind (first_pointer pointers) (move_of op (or_zero (constants right i))) i
      else pointer_same memory kind (second_pointer pointers) (or_zero (constants left i)) i
  sum_same memory op kind trees pointers = refl

  by_same : (objects : Objects) (memory : Memory) (form : Label) (kind : CType) (trees : List Tree) (pointers : List Pointer)
      → address_by (over program new) objects memory form kind trees pointers ≡ address_by (over program old) objects memory form kind trees pointers
  by_same objects memory (label.binary op) kind trees pointers = sum_same memory op kind trees pointers
  by_same objects memory form kind trees pointers = refl

  mutual
    address_same : (objects : Objects) (memory : Memory) (tree : Tree) → address_of (over program new) objects memory tree ≡ address_of (over program old) objects memory tree
    address_same objects memory (node form kind spans trees) =
        λ i. by_same objects memory form kind (listed trees) (addresses_same objects memory trees i) i

    addresses_same : (objects : Objects) (memory : Memory) (trees : Trees) → addresses_of (over program new) objects memory trees ≡ addresses_of (over program old) objects memory trees
    addresses_same objects memory no_trees = refl
    addresses_same objects memory (more_trees first rest) = λ i. address_same objects memory first i ∷ addresses_same objects memory rest i

  -- ---- first values

  scalar_same : (objects : Objects) (memory : Memory) (kind : CType) (tree : Tree) → static_scalar (over program new) objects memory kind tree ≡ static_scalar (over program old) objects memory kind tree
  scalar_same objects memory (integer kind) tree =
      λ i. integer_value kind (kinds.convert kind (number_or (constants tree i) (address_same objects memory tree i)))
  scalar_same objects memory (pointer target) tree = λ i. pointer_value (address_same objects memory tree i)
  scalar_same objects memory kind tree = refl

  one_same : (objects : Objects) (memory : Memory) (kind : CType) (trees : List Tree) → static_one (over program new) objects memory kind trees ≡ static_one (over program old) objects memory kind trees
  one_same objects memory kind [] = refl
  one_same objects memory kind (tree ∷ trees) = scalar_same objects memory (bare kind) tree

  mutual
    value_same : (objects : Objects) (memory : Memory) (kind : CType) (initialiser : Initialiser) (expressions : List Tree)
        → static_value (over program new) objects memory kind initialiser expressions ≡ static_value (over program old) objects memory kind initialiser expressions
    value_same objects memory kind one_expression expressions = one_same objects memory kind expressions
    value_same objects memory kind (in_braces items) expressions =
        λ i. parts (values (parts_same objects memory kind 0 items expressions i ++ drop (count_items items) (parts_in (all_zero (laid i) kind))))

    parts_same : (objects : Objects) (memory : Memory) (kind : CType) (n : ℕ) (items : Initialisers) (expressions : List Tree)
        → static_parts (over program new) objects memory kind n items expressions ≡ static_parts (over program old) objects memory kind n items expressions
    parts_same objects memory kind n no_items expressions = refl
    parts_same objects memory kind n (more_items item items) expressions =
        λ i. value_same objects memory (inner_type (laid i) (bare kind) n) item (take (expressions_in item) expressions) i
        ∷ parts_same objects memory kind (suc n) items (drop (expressions_in item) expressions) i

  -- ---- the beginning of a run

  zeroed_same : (names : ℕ → ℕ) (n : ℕ) (ds : List ℕ) (memory : Memory) → zeroed_from (over program new) names n ds memory ≡ zeroed_from (over program old) names n ds memory
  zeroed_same names n [] memory = refl
  zeroed_same names n (d ∷ ds) memory =
      λ i. let kind = type_declared (over program old) d in
      zeroed_same names (suc n) ds ((names n, record (new_block (laid i) kind) { contents = all_zero (laid i) kind }) ∷ memory) i

  initialised_same : (objects : Objects) (known : Memory) (static : Static) (named : Option ℕ) (initialiser : Option Initialiser) (memory : Memory)
      → initialised (over program new) objects known static named initialiser memory ≡ initialised (over program old) objects known static named initialiser memory
  initialised_same objects known static (Some n) (Some initialiser) memory =
      λ i. written memory (whole (numbered n)) (value_same objects known (type_declared (over program old) static.declared) initialiser static.expressions i)
  initialised_same objects known static named initialiser memory = refl

  all_same : (objects : Objects) (known : Memory) (statics : List Static) (memory : Memory)
      → all_initialised (over program new) objects known statics memory ≡ all_initialised (over program old) objects known statics memory
  all_same objects known [] memory = refl
  all_same objects known (static ∷ statics) memory =
      λ i. all_same objects known statics (initialised_same objects known static (object_named objects static.declared) static.initialiser memory i) i

  statics_same : (names : ℕ → ℕ) (objects : Objects) → statics_memory (over program new) names objects ≡ statics_memory (over program old) names objects
  statics_same names objects =
      λ i. let zeroed = zeroed_same names 0 (static_numbers program.statics) [] i in all_same objects zeroed program.statics zeroed i

  pub start_same : (names : ℕ → ℕ) (main : Definition) (input : List ℕ) → start names (over program new) main input ≡ start names (over program old) main input
  start_same names main input =
      let statics = named_from names 0 (static_numbers program.statics) [] in
      let argv = length program.statics in
      let others : ℕ → ℕ = λ n. names (suc argv + n) in
      λ i. record {
        standing = going;
        frame = frame_same program old new laid others main i;
        callers = [];
        statics = statics;
        world = record {
          memory = memory_same program old new laid others main (arguments_for (names argv) main.parameters)
              ((names argv, record (new_block (laid i) argv_kind) { contents = all_zero (laid i) argv_kind }) ∷ statics_same names statics i) i;
          input = input;
          output = [];
        };
      }

  main_in_same : (definitions : List Definition) → main_in (over program new) definitions ≡ main_in (over program old) definitions
  main_in_same [] = refl
  main_in_same (one ∷ others) = λ i. if is_main (declaration_of program one.function) then Some one else main_in_same others i

  pub main_same : main_of (over program new) ≡ main_of (over program old)
  main_same = main_in_same program.functions
