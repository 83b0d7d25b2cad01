-- At the beginning of a run no pointer leads to an object that is neither of static storage duration nor argv's: the first values of objects of static
-- storage duration are addresses of these.
use Rattle.std.specs.Prelude.{◌≡◌, ℕ, suc, ◌+◌, Bool, true, false, List, [], ◌∷◌, ◌++◌, length, take, drop, Option, Some, None, ℤ, if◌then◌else◌}
use Rattle.std.proofs.Common.{ap}
use Rattle.dm_int.specs.declared.Op.{Op}
use Rattle.dm_type.specs.CTypes.{CType, integer, pointer, array, bare}
use Rattle.dm_tree.specs.Trees.{Label, object, literal, member, decay, binary, convert, address, follow, Tree, Trees, node, no_trees, more_trees, listed, kind_of, parts_of, Initialiser, Initialisers, one_expression, in_braces, no_items, more_items, expressions_in}
use Rattle.dm_meaning.specs.Among.{IsAmong}
use Rattle.dm_meaning.specs.Causes.{path_moved, moved_pointer, pointer_along}
use Rattle.dm_meaning.specs.Memory.{Memory, new_block, literal_block, look}
use Rattle.dm_meaning.specs.Objects.{inner_type, all_zero}
use Rattle.dm_meaning.specs.Operations.{Objects, object_named, whole, move_of, or_zero}
use Rattle.dm_meaning.specs.Programs.{Definition, Static, Program, layout, declaration_of, constant_of}
use Rattle.dm_meaning.specs.Statements.{type_declared, declared_in, named_from, items_tasks, count_items}
use Rattle.dm_meaning.specs.Steps.{given_from, opened_frame}
use Rattle.dm_meaning.specs.Units.{identifier_of, name_of, first_pointer, second_pointer, pointer_into, or_beyond, pointer_moved, is_pointer, address_plus, address_by, address_of, addresses_of, characters_by, characters_of, static_scalar, static_one, static_value, static_parts, static_numbers, zeroed_from, initialised, all_initialised, statics_memory, argv_kind, arguments_for, start}
use Rattle.dm_meaning.specs.Values.{Path, numbered, Pointer, null, to, parts_in}
use Rattle.dm_meaning.proofs.OptionLemmas.{none_is_some}
use Rattle.dm_rewrite.specs.Closed.{PointerAvoids, Avoids, ListAvoids, MemoryAvoids}
use Rattle.dm_rewrite.specs.ClosedStates.{ProgramNamesOnly, OnlyNames, IsUnreached}
use Rattle.dm_rewrite.proofs.ClosedLemmas.{values_avoid, parts_avoid, characters_avoid, written_avoids, added_avoids}
use Rattle.dm_rewrite.proofs.ClosedStateLemmas.{joined_avoid, dropped_avoid, zeros_avoid, array_avoids, given_avoid, made_avoid, only_join, all_waited, items_wait}

same_number : (m n : ℕ) → numbered m ≡ numbered n → m ≡ n
same_number m n e = cc

-- ---- first values

module _ (n : ℕ) (program : Program) (objects : Objects) (none : (e : ℕ) → object_named objects e ≡ Some n → ⊥) (known : Memory) where
  abbrev PointersAvoid : List Pointer → Type 0
  PointersAvoid [] = Unit {0}
  PointersAvoid (p ∷ others) = PointerAvoids n p × PointersAvoid others

  name_avoids : (o : Option ℕ) (identifier : List ℕ) → (o ≡ Some n → ⊥) → PointerAvoids n (to (whole (name_of o identifier)))
  name_avoids (Some m) identifier h = λ e. h (ap Some (same_number m n e))
  name_avoids None identifier h = λ e. absurd (cc)

  first_avoids : (pointers : List Pointer) → PointersAvoid pointers → PointerAvoids n (first_pointer pointers)
  first_avoids [] h = tt
  first_avoids (p ∷ others) h = h.0

  second_avoids : (pointers : List Pointer) → PointersAvoid pointers → PointerAvoids n (second_pointer pointers)
  second_avoids [] h = tt
  second_avoids (p ∷ others) h = first_avoids others h.1

  into_avoids : (p : Pointer) (k : ℕ) → PointerAvoids n p → PointerAvoids n (pointer_into p k)
  into_avoids null k h = tt
  into_avoids (to at) k h = h

  further_avoids : (target : CType) (p : Pointer) (z : ℤ) → PointerAvoids n p → PointerAvoids n (or_beyond p (moved_pointer (layout program) known target p z))
  further_avoids target null z h = tt
  further_avoids target (to at) z h = by_path (path_moved (layout program) (look known at.name) target at.path z)
    where
      by_path : (o : Option Path) → PointerAvoids n (or_beyond (to at) (pointer_along at.name o))
      by_path None = h
      by_path (Some path) = h

  moved_avoids : (kind : CType) (p : Pointer) (z : ℤ) → PointerAvoids n p → PointerAvoids n (pointer_moved program known kind p z)
  moved_avoids (pointer target) p z h = further_avoids target p z h
  moved_avoids kind p z h = tt

  plus_avoids : (op : Op) (kind : CType) (trees : List Tree) (pointers : List Pointer) → PointersAvoid pointers → PointerAvoids n (address_plus program known op kind trees pointers)
  plus_avoids op kind (left ∷ right ∷ []) pointers h = by_side (is_pointer (kind_of left))
    where
      by_side : (b : Bool)
          → PointerAvoids n (if b then pointer_moved program known kind (first_pointer pointers) (move_of op (or_zero (constant_of program right)))
          else pointer_moved program known kind (second_pointer pointers) (or_zero (constant_of program left)))
      by_side true = moved_avoids kind (first_pointer pointers) (move_of op (or_zero (constant_of program right))) (first_avoids pointers h)
      by_side false = moved_avoids kind (second_pointer pointers) (or_zero (constant_of program left)) (second_avoids pointers h)
  plus_avoids op kind trees pointers h = tt

  label_avoids : (label : Label) (kind : CType) (trees : List Tree) (pointers : List Pointer) → PointersAvoid pointers → PointerAvoids n (address_by program objects known label kind trees pointers)
  label_avoids (object d) kind trees pointers h = name_avoids (object_named objects d) (identifier_of (declaration_of program d)) (none d)
  label_avoids (literal bytes unit) kind trees pointers h = λ e. absurd (cc)
  label_avoids (member k) kind trees pointers h = into_avoids (first_pointer pointers) k (first_avoids pointers h)
  label_avoids decay kind trees pointers h = into_avoids (first_pointer pointers) 0 (first_avoids pointers h)
  label_avoids (binary op) kind trees pointers h = plus_avoids op kind trees pointers h
  label_avoids convert kind trees pointers h = first_avoids pointers h
  label_avoids address kind trees pointers h = first_avoids pointers h
  label_avoids follow kind trees pointers h = first_avoids pointers h
  label_avoids label kind trees pointers h = tt

  mutual
    address_avoids : (tree : Tree) → PointerAvoids n (address_of program objects known tree)
    address_avoids (node label kind spans trees) = label_avoids label kind (listed trees) (addresses_of program objects known trees) (addresses_avoid trees)

    addresses_avoid : (trees : Trees) → PointersAvoid (addresses_of program objects known trees)
    addresses_avoid no_trees = tt
    addresses_avoid (more_trees first rest) = (address_avoids first, addresses_avoid rest)

  text_avoids : (label : Label) → ListAvoids n (characters_by label)
  text_avoids (literal bytes unit) = parts_avoid n (literal_block bytes).contents (values_avoid n _ (characters_avoid n bytes))
  text_avoids label = tt

  tree_text_avoids : (tree : Tree) → ListAvoids n (characters_of tree)
  tree_text_avoids (node label kind spans trees) = text_avoids label

  scalar_avoids : (kind : CType) (tree : Tree) → Avoids n (static_scalar program objects known kind tree)
  scalar_avoids (integer kind) tree = tt
  scalar_avoids (pointer target) tree = address_avoids tree
  scalar_avoids (array element count) tree = array_avoids n (array element count) (characters_of tree) (tree_text_avoids tree)
  scalar_avoids kind tree = tt

  one_avoids : (kind : CType) (trees : List Tree) → Avoids n (static_one program objects known kind trees)
  one_avoids kind [] = tt
  one_avoids kind (tree ∷ trees) = scalar_avoids (bare kind) tree

  mutual
    first_value_avoids : (kind : CType) (initialiser : Initialiser) (expressions : List Tree) → Avoids n (static_value program objects known kind initialiser expressions)
    first_value_avoids kind one_expression expressions = one_avoids kind expressions
    first_value_avoids kind (in_braces items) expressions =
        values_avoid n (static_parts program objects known kind 0 items expressions ++ drop (count_items items) (parts_in (all_zero (layout program) kind)))
        (joined_avoid n (static_parts program objects known kind 0 items expressions) (drop (count_items items) (parts_in (all_zero (layout program) kind))) (first_values_avoid kind 0 items expressions)
        (dropped_avoid n (count_items items) (parts_in (all_zero (layout program) kind)) (parts_avoid n (all_zero (layout program) kind) (zeros_avoid n (layout program) kind))))

    first_values_avoid : (kind : CType) (k : ℕ) (items : Initialisers) (expressions : List Tree) → ListAvoids n (static_parts program objects known kind k items expressions)
    first_values_avoid kind k no_items expressions = tt
    first_values_avoid kind k (more_items item items) expressions = (
      first_value_avoids (inner_type (layout program) (bare kind) k) item (take (expressions_in item) expressions),
      first_values_avoid kind (suc k) items (drop (expressions_in item) expressions),
    )

  initialised_avoids : (static : Static) (o : Option ℕ) (initialiser : Option Initialiser) (memory : Memory) → MemoryAvoids n memory → MemoryAvoids n (initialised program objects known static o initialiser memory)
  initialised_avoids static (Some m) (Some initialiser) memory h =
      written_avoids n memory (whole (numbered m)) (static_value program objects known (type_declared program static.declared) initialiser static.expressions) h
      (first_value_avoids (type_declared program static.declared) initialiser static.expressions)
  initialised_avoids static (Some m) None memory h = h
  initialised_avoids static None initialiser memory h = h

  all_initialised_avoid : (statics : List Static) (memory : Memory) → MemoryAvoids n memory → MemoryAvoids n (all_initialised program objects known statics memory)
  all_initialised_avoid [] memory h = h
  all_initialised_avoid (static ∷ statics) memory h =
      all_initialised_avoid statics (initialised program objects known static (object_named objects static.declared) static.initialiser memory)
      (initialised_avoids static (object_named objects static.declared) static.initialiser memory h)

zeroed_avoids : (n : ℕ) (program : Program) (names : ℕ → ℕ) (i : ℕ) (ds : List ℕ) (memory : Memory) → MemoryAvoids n memory → MemoryAvoids n (zeroed_from program names i ds memory)
zeroed_avoids n program names i [] memory h = h
zeroed_avoids n program names i (d ∷ ds) memory h =
    zeroed_avoids n program names (suc i) ds ((names i, record (new_block (layout program) (type_declared program d)) { contents = all_zero (layout program) (type_declared program d) }) ∷ memory)
    (added_avoids n (names i) (record (new_block (layout program) (type_declared program d)) { contents = all_zero (layout program) (type_declared program d) }) memory
    (zeros_avoid n (layout program) (type_declared program d)) h)

-- ---- the beginning of a run

arguments_avoid : (n k : ℕ) (parameters : List ℕ) → (k ≡ n → ⊥) → ListAvoids n (arguments_for k parameters)
arguments_avoid n k [] h = tt
arguments_avoid n k (parameter ∷ others) h = (tt, ((λ e. h (same_number k n e)), tt))

module _ (n d : ℕ) (program : Program) (all : ProgramNamesOnly d program) (names : ℕ → ℕ) (main : Definition) (found : IsAmong main program.functions) (input : List ℕ) where
  abbrev statics : Objects
  statics = named_from names 0 (static_numbers program.statics) []

  abbrev others : ℕ → ℕ
  others i = names (suc (length program.statics) + i)

  -- of an object that isn't one of these, and of which only the one declaration is the name
  pub unreached_start : ((e : ℕ) → object_named statics e ≡ Some n → ⊥) → OnlyNames n d statics → (names (length program.statics) ≡ n → ⊥) → OnlyNames n d (opened_frame program others main).objects
      → IsUnreached n d (start names program main input)
  unreached_start none only_statics not_argv only =
      let argv_block = record (new_block (layout program) argv_kind) { contents = all_zero (layout program) argv_kind } in
      let zeroed = zeroed_from program names 0 (static_numbers program.statics) [] in
      let before = (names (length program.statics), argv_block) ∷ statics_memory program names statics in
      let arguments = arguments_for (names (length program.statics)) main.parameters in
      let items = parts_of main.body in
      let zeros = zeroed_avoids n program names 0 (static_numbers program.statics) [] (λ m block e. absurd (none_is_some block e)) in
      let first = added_avoids n (names (length program.statics)) argv_block (statics_memory program names statics) (zeros_avoid n (layout program) argv_kind)
      (all_initialised_avoid n program statics none zeroed program.statics zeroed zeros) in record {
        memory =
            made_avoid n program others (length main.parameters) (declared_in program items) (given_from program others 0 main.parameters arguments before)
            (given_avoid n program others 0 main.parameters arguments before (arguments_avoid n (names (length program.statics)) main.parameters not_argv) first);
        statics = only_statics;
        frame = (
          only,
          all_waited n d (statics ++ (opened_frame program others main).objects) (only_join n d statics (opened_frame program others main).objects only_statics only) (items_tasks items)
              (items_wait n d items (all main found)),
        );
        callers = tt;
      }
