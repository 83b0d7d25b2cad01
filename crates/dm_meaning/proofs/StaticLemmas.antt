-- The first values of objects of static storage duration don't depend on the functions of a program.
use Rattle.std.specs.Prelude.{◌≡◌, refl, ℕ, suc, List, [], ◌∷◌, ◌++◌, take, drop, Option, Some, None}
use Rattle.std.proofs.Common.{ap, ◌∙◌}
use Rattle.dm_int.specs.declared.Op.{Op}
use Rattle.dm_int.specs.Kinds as kinds
use Rattle.dm_type.specs.CTypes.{CType, void, integer, pointer, array, struct, function as function_type, const, bare}
use Rattle.dm_tree.specs.Trees.{Label, binary, Initialiser, Initialisers, one_expression, in_braces, no_items, more_items, expressions_in, Tree, Trees, node, no_trees, more_trees, listed}
use Rattle.dm_meaning.specs.Values.{numbered, Pointer, integer_value, pointer_value, values, parts_in, parts as compound}
use Rattle.dm_meaning.specs.Objects.{inner_type, all_zero}
use Rattle.dm_meaning.specs.Memory.{Memory, written}
use Rattle.dm_meaning.specs.Programs.{Definition, Static, Program, layout, constant_of}
use Rattle.dm_meaning.specs.Operations.{Objects, object_named, whole}
use Rattle.dm_meaning.specs.Statements.{type_declared, count_items}
use Rattle.dm_meaning.specs.Units.{address_plus, address_by, address_of, addresses_of, number_or, static_scalar, static_one, static_value, static_parts, static_numbers, zeroed_from, initialised, all_initialised, statics_memory}

module _ (program : Program) (functions : List Definition) where
  abbrev other : Program
  other = record { declared = program.declared; functions = functions; statics = program.statics; table = program.table }

  module _ (objects : Objects) (memory : Memory) where
    plus_same : (op : Op) (kind : CType) (trees : List Tree) (pointers : List Pointer) → address_plus other memory op kind trees pointers ≡ address_plus program memory op kind trees pointers
    plus_same op kind [] pointers = refl
    plus_same op kind (x ∷ []) pointers = refl
    plus_same op kind (x ∷ y ∷ []) pointers = refl
    plus_same op kind (x ∷ y ∷ z ∷ rest) pointers = refl

    by_label : (label : Label) (kind : CType) (trees : List Tree) (pointers : List Pointer) → address_by other objects memory label kind trees pointers ≡ address_by program objects memory label kind trees pointers
    by_label (binary op) kind trees pointers = plus_same op kind trees pointers
    by_label label kind trees pointers = refl

    mutual
      address_same : (tree : Tree) → address_of other objects memory tree ≡ address_of program objects memory tree
      address_same (node label kind spans parts) =
          ap (address_by other objects memory label kind (listed parts)) (addresses_same parts) ∙ by_label label kind (listed parts) (addresses_of program objects memory parts)

      addresses_same : (trees : Trees) → addresses_of other objects memory trees ≡ addresses_of program objects memory trees
      addresses_same no_trees = refl
      addresses_same (more_trees first rest) =
          ap (λ p. p ∷ addresses_of other objects memory rest) (address_same first) ∙ ap (λ l. address_of program objects memory first ∷ l) (addresses_same rest)

    scalar_same : (kind : CType) (tree : Tree) → static_scalar other objects memory kind tree ≡ static_scalar program objects memory kind tree
    scalar_same void tree = refl
    scalar_same (integer kind) tree = ap (λ p. integer_value kind (kinds.convert kind (number_or (constant_of program tree) p))) (address_same tree)
    scalar_same (pointer target) tree = ap pointer_value (address_same tree)
    scalar_same (array element length_known) tree = refl
    scalar_same (struct n) tree = refl
    scalar_same (function_type result parameters) tree = refl
    scalar_same (const type) tree = refl

    one_same : (kind : CType) (trees : List Tree) → static_one other objects memory kind trees ≡ static_one program objects memory kind trees
    one_same kind [] = refl
    one_same kind (tree ∷ trees) = scalar_same (bare kind) tree

    mutual
      value_same : (kind : CType) (initialiser : Initialiser) (trees : List Tree) → static_value other objects memory kind initialiser trees ≡ static_value program objects memory kind initialiser trees
      value_same kind one_expression trees = one_same kind trees
      value_same kind (in_braces items) trees =
          ap (λ l. compound (values (l ++ drop (count_items items) (parts_in (all_zero (layout program) kind))))) (parts_same kind 0 items trees)

      parts_same : (kind : CType) (n : ℕ) (items : Initialisers) (trees : List Tree) → static_parts other objects memory kind n items trees ≡ static_parts program objects memory kind n items trees
      parts_same kind n no_items trees = refl
      parts_same kind n (more_items item items) trees =
          ap (λ v. v ∷ static_parts other objects memory kind (suc n) items (drop (expressions_in item) trees))
          (value_same (inner_type (layout program) (bare kind) n) item (take (expressions_in item) trees))
          ∙ ap (λ l. static_value program objects memory (inner_type (layout program) (bare kind) n) item (take (expressions_in item) trees) ∷ l)
          (parts_same kind (suc n) items (drop (expressions_in item) trees))

    initialised_same : (static : Static) (n : Option ℕ) (initialiser : Option Initialiser) (before : Memory)
        → initialised other objects memory static n initialiser before ≡ initialised program objects memory static n initialiser before
    initialised_same static None None before = refl
    initialised_same static None (Some initialiser) before = refl
    initialised_same static (Some n) None before = refl
    initialised_same static (Some n) (Some initialiser) before =
        ap (λ v. written before (whole (numbered n)) v) (value_same (type_declared program static.declared) initialiser static.expressions)

    all_initialised_same : (statics : List Static) (before : Memory) → all_initialised other objects memory statics before ≡ all_initialised program objects memory statics before
    all_initialised_same [] before = refl
    all_initialised_same (static ∷ statics) before =
        ap (all_initialised other objects memory statics) (initialised_same static (object_named objects static.declared) static.initialiser before)
        ∙ all_initialised_same statics (initialised program objects memory static (object_named objects static.declared) static.initialiser before)

  zeroed_same : (names : ℕ → ℕ) (i : ℕ) (ds : List ℕ) (memory : Memory) → zeroed_from other names i ds memory ≡ zeroed_from program names i ds memory
  zeroed_same names i [] memory = refl
  zeroed_same names i (d ∷ ds) memory = zeroed_same names (suc i) ds _

  pub statics_memory_same : (names : ℕ → ℕ) (objects : Objects) → statics_memory other names objects ≡ statics_memory program names objects
  statics_memory_same names objects =
      let zeroed = zeroed_from program names 0 (static_numbers program.statics) [] in
      ap (λ z. all_initialised other objects z program.statics z) (zeroed_same names 0 (static_numbers program.statics) [])
      ∙ all_initialised_same objects zeroed program.statics zeroed
