-- The beginnings of runs of the two programs agree, and so the new program refines the old one.
use Rattle.std.specs.Prelude.{◌≡◌, refl, ◌⊎◌, ℕ, suc, ◌+◌, Bool, true, false, List, [], ◌∷◌, ◌++◌, map, length, take, drop, Option, Some, None, option_map, ℤ, if◌then◌else◌}
use Rattle.std.proofs.Common.{arith, ap, sym, ◌∙◌, subst, inl, inr}
use Rattle.dm_int.specs.declared.Op.{Op}
use Rattle.dm_int.specs.Kinds as kinds
use Rattle.dm_type.specs.CTypes.{CType, void, integer, pointer, array, struct, function as function_type, const, bare}
use Rattle.dm_tree.specs.declared.unit.Sort.{Sort}
use Rattle.dm_tree.specs.Constants.{is_constant_form, constant_forms, has_constant_form}
use Rattle.dm_tree.specs.Trees.{Label, enumerator, literal, object, member, decay, address, follow, convert, binary, Spans, Initialiser, Initialisers, one_expression, in_braces, no_items, more_items, expressions_in, Tree, Trees, node, no_trees, more_trees, kind_of, listed}
use Rattle.dm_tree.specs.Units.{Declaration}
use Rattle.dm_meaning.specs.Machines.{Goes}
use Rattle.dm_meaning.specs.Refinement.{Refines}
use Rattle.dm_meaning.specs.Simulation.{GoesWrong, Meets, IsSimulation, simulated}
use Rattle.dm_meaning.specs.Values.{numbered, Pointer, null, to, integer_value, pointer_value, values, parts_in, parts as compound}
use Rattle.dm_meaning.specs.Objects.{inner_type, all_zero}
use Rattle.dm_meaning.specs.Memory.{Memory, new_block, written}
use Rattle.dm_meaning.specs.Programs.{Definition, Static, Program, layout, declaration_of, constant_of}
use Rattle.dm_meaning.specs.Operations.{Objects, object_named, whole, move_of, or_zero}
use Rattle.dm_meaning.specs.States.{State}
use Rattle.dm_meaning.specs.Statements.{type_declared, named_from, count_items, array_of}
use Rattle.dm_meaning.specs.Steps.{opened_frame, opened_memory, is_main}
use Rattle.dm_meaning.specs.Units.{identifier_of, name_of, first_pointer, second_pointer, is_pointer, pointer_moved, address_plus, address_by, address_of, addresses_of, characters_by, characters_of, number_or, static_scalar, static_one, static_value, static_parts, static_numbers, zeroed_from, initialised, all_initialised, statics_memory, argv_kind, arguments_for, start, main_in, main_of, Begins, machine_of}
use Rattle.dm_meaning.specs.Replaced.{Replaced, new_of, relabelled, Zipped, Agrees, AllAgree, facts_of, DefinitionAgrees, StaticAgrees, IsReplacement}
use Rattle.dm_meaning.proofs.OptionLemmas.{none_is_some, some_is_some, and_left, and_right}
use Rattle.dm_meaning.proofs.ConstantLemmas.{no_form, constant_parts}
use Rattle.dm_meaning.proofs.RunLemmas.{OptionAgrees, renamed_objects, object_renamed}
use Rattle.dm_meaning.proofs.StatementLemmas.{zipped_take, zipped_drop, listed_agrees, named_from_renamed, same_type, agreeing_kind, agreeing_constant}
use Rattle.dm_meaning.proofs.StateLemmas.{StateAgrees, same_main, frame_objects, frame_tasks, frame_memory, step_met}

name_fact : Option (List ℕ × Sort × CType) → List ℕ
name_fact None = []
name_fact (Some facts) = facts.0

identifier_is : (o : Option Declaration) → identifier_of o ≡ name_fact (option_map facts_of o)
unfolding name_fact
identifier_is None = refl
identifier_is (Some declaration) = refl

-- ---- a constant expression is no address

module _ (program : Program) (objects : Objects) (memory : Memory) where
  abbrev NoAddress : Tree → Type 0
  NoAddress tree = is_constant_form tree ≡ true → address_of program objects memory tree ≡ null

  abbrev NoAddresses : Trees → Type 0
  NoAddresses no_trees = Unit {0}
  NoAddresses (more_trees first rest) = NoAddress first × NoAddresses rest

  no_address_convert : (kind : CType) (spans : Spans) (parts : Trees) → NoAddresses parts → NoAddress (node convert kind spans parts)
  no_address_convert kind spans no_trees below form = refl
  no_address_convert kind spans (more_trees first rest) below form = below.0 (and_right _ _ form)

  null_moved : (kind : CType) (z : ℤ) → pointer_moved program memory kind null z ≡ null
  null_moved (pointer target) z = refl
  null_moved kind z = refl

  moved_null : (kind : CType) (p : Pointer) (z : ℤ) → p ≡ null → pointer_moved program memory kind p z ≡ null
  moved_null kind p z e = ap (λ q. pointer_moved program memory kind q z) e ∙ null_moved kind z

  if_both : {A : Type 0} (b : Bool) (x y z : A) → x ≡ z → y ≡ z → (if b then x else y) ≡ z
  if_both true x y z e f = e
  if_both false x y z e f = f

  no_address_binary : (op : Op) (kind : CType) (spans : Spans) (parts : Trees) → NoAddresses parts → NoAddress (node (binary op) kind spans parts)
  no_address_binary op kind spans no_trees below form = refl
  no_address_binary op kind spans (more_trees first no_trees) below form = refl
  no_address_binary op kind spans (more_trees first (more_trees second (more_trees third rest))) below form = refl
  no_address_binary op kind spans (more_trees first (more_trees second no_trees)) below form =
      let forms = and_right _ _ form in
      if_both (is_pointer (kind_of first)) _ _ null
      (moved_null kind (address_of program objects memory first) _ (below.0 (and_left _ _ forms)))
      (moved_null kind (address_of program objects memory second) _ (below.1.0 (and_left _ _ (and_right _ _ forms))))

  no_address_node : (label : Label) (kind : CType) (spans : Spans) (parts : Trees) → NoAddresses parts → NoAddress (node label kind spans parts)
  no_address_node convert kind spans parts below = no_address_convert kind spans parts below
  no_address_node (binary op) kind spans parts below = no_address_binary op kind spans parts below
  no_address_node (object d) kind spans parts below = λ form. absurd (no_form (object d) kind (constant_forms parts) refl refl form)
  no_address_node (literal bytes unit) kind spans parts below = λ form. absurd (no_form (literal bytes unit) kind (constant_forms parts) refl refl form)
  no_address_node (member n) kind spans parts below = λ form. absurd (no_form (member n) kind (constant_forms parts) refl refl form)
  no_address_node decay kind spans parts below = λ form. absurd (no_form decay kind (constant_forms parts) refl refl form)
  no_address_node address kind spans parts below = λ form. absurd (no_form address kind (constant_forms parts) refl refl form)
  no_address_node follow kind spans parts below = λ form. absurd (no_form follow kind (constant_forms parts) refl refl form)
  no_address_node label kind spans parts below = λ form. refl

  mutual
    no_address : (tree : Tree) → NoAddress tree
    no_address (node label kind spans parts) = no_address_node label kind spans parts (no_addresses parts)

    no_addresses : (trees : Trees) → NoAddresses trees
    no_addresses no_trees = tt
    no_addresses (more_trees first rest) = (no_address first, no_addresses rest)

module _ (change : Replaced) (replacement : IsReplacement change) where
  same_identifier : (d : ℕ) → identifier_of (declaration_of (new_of change) (change.rename d)) ≡ identifier_of (declaration_of change.old d)
  same_identifier d = identifier_is (declaration_of (new_of change) (change.rename d)) ∙ ap name_fact (replacement.told d) ∙ sym (identifier_is (declaration_of change.old d))

  -- ---- first values of objects of static storage duration

  plus_agrees : (memory : Memory) (op : Op) (kind : CType) (trees others : List Tree) (pointers : List Pointer) → Zipped (Agrees change) trees others
      → address_plus (new_of change) memory op kind trees pointers ≡ address_plus change.old memory op kind others pointers
  plus_agrees memory op kind [] [] pointers h = refl
  plus_agrees memory op kind [] (y ∷ ys) pointers h = absurd h
  plus_agrees memory op kind (x ∷ xs) [] pointers h = absurd h
  plus_agrees memory op kind (x ∷ []) (y ∷ []) pointers h = refl
  plus_agrees memory op kind (x ∷ []) (y ∷ y' ∷ ys) pointers h = absurd h.1
  plus_agrees memory op kind (x ∷ x' ∷ xs) (y ∷ []) pointers h = absurd h.1
  plus_agrees memory op kind (x ∷ x' ∷ []) (y ∷ y' ∷ []) pointers h =
      ap (λ k. if is_pointer k then pointer_moved (new_of change) memory kind (first_pointer pointers) (move_of op (or_zero (constant_of (new_of change) x')))
      else pointer_moved (new_of change) memory kind (second_pointer pointers) (or_zero (constant_of (new_of change) x))) (agreeing_kind change replacement x y h.0)
      ∙ ap (λ o. if is_pointer (kind_of y) then pointer_moved change.old memory kind (first_pointer pointers) (move_of op (or_zero o))
      else pointer_moved change.old memory kind (second_pointer pointers) (or_zero (constant_of (new_of change) x))) (agreeing_constant change replacement x' y' h.1.0)
      ∙ ap (λ o. if is_pointer (kind_of y) then pointer_moved change.old memory kind (first_pointer pointers) (move_of op (or_zero (constant_of change.old y')))
      else pointer_moved change.old memory kind (second_pointer pointers) (or_zero o)) (agreeing_constant change replacement x y h.0)
  plus_agrees memory op kind (x ∷ x' ∷ []) (y ∷ y' ∷ y'' ∷ ys) pointers h = absurd h.1.1
  plus_agrees memory op kind (x ∷ x' ∷ x'' ∷ xs) (y ∷ y' ∷ []) pointers h = absurd h.1.1
  plus_agrees memory op kind (x ∷ x' ∷ x'' ∷ xs) (y ∷ y' ∷ y'' ∷ ys) pointers h = refl

  module _ (objects : Objects) (memory : Memory) where
    by_label : (label : Label) (kind : CType) (trees others : List Tree) (pointers : List Pointer) → Zipped (Agrees change) trees others
        → address_by (new_of change) (renamed_objects change.rename objects) memory (relabelled change.rename label) kind trees pointers
        ≡ address_by change.old objects memory label kind others pointers
    by_label (object d) kind trees others pointers h =
        ap (λ o. to (whole (name_of o (identifier_of (declaration_of (new_of change) (change.rename d)))))) (object_renamed change.rename replacement.injective objects d)
        ∙ ap (λ i. to (whole (name_of (object_named objects d) i))) (same_identifier d)
    by_label (binary op) kind trees others pointers h = plus_agrees memory op kind trees others pointers h
    by_label label kind trees others pointers h = refl

    mutual
      address_agrees : (tree other : Tree) → Agrees change tree other → address_of (new_of change) (renamed_objects change.rename objects) memory tree ≡ address_of change.old objects memory other
      address_agrees (node label kind spans parts) (node other other_kind other_spans others) (inl h) =
          ap (λ l. address_by (new_of change) (renamed_objects change.rename objects) memory l kind (listed parts) (addresses_of (new_of change) (renamed_objects change.rename objects) memory parts)) h.0
          ∙ ap (λ k. address_by (new_of change) (renamed_objects change.rename objects) memory (relabelled change.rename other) k (listed parts) (addresses_of (new_of change) (renamed_objects change.rename objects) memory parts)) h.1
          ∙ ap (λ ps. address_by (new_of change) (renamed_objects change.rename objects) memory (relabelled change.rename other) other_kind (listed parts) ps) (addresses_agree parts others h.2)
          ∙ by_label other other_kind (listed parts) (listed others) (addresses_of change.old objects memory others) (listed_agrees change parts others h.2)
      address_agrees (node label kind spans parts) (node other other_kind other_spans others) (inr h) =
          ap (λ l. address_by (new_of change) (renamed_objects change.rename objects) memory l kind (listed parts) (addresses_of (new_of change) (renamed_objects change.rename objects) memory parts)) h.is
          ∙ sym (no_address change.old objects memory (node other other_kind other_spans others) (constant_parts change.old (node other other_kind other_spans others) h.value h.constant).0)

      addresses_agree : (trees others : Trees) → AllAgree change trees others → addresses_of (new_of change) (renamed_objects change.rename objects) memory trees ≡ addresses_of change.old objects memory others
      addresses_agree no_trees no_trees h = refl
      addresses_agree no_trees (more_trees other others) h = absurd h
      addresses_agree (more_trees first rest) no_trees h = absurd h
      addresses_agree (more_trees first rest) (more_trees other others) h =
          ap (λ p. p ∷ addresses_of (new_of change) (renamed_objects change.rename objects) memory rest) (address_agrees first other h.0)
          ∙ ap (λ l. address_of change.old objects memory other ∷ l) (addresses_agree rest others h.1)

    label_characters : (label : Label) → characters_by (relabelled change.rename label) ≡ characters_by label
    label_characters (enumerator d) = refl
    label_characters label = refl

    constant_characters : (label : Label) (kind : CType) (passes : List Bool) → has_constant_form label kind passes ≡ true → characters_by label ≡ []
    constant_characters (literal bytes unit) kind passes h = absurd (no_form (literal bytes unit) kind passes refl refl h)
    constant_characters label kind passes h = refl

    characters_agree : (tree other : Tree) → Agrees change tree other → characters_of tree ≡ characters_of other
    characters_agree (node label kind spans parts) (node other other_kind other_spans others) (inl h) = ap characters_by h.0 ∙ label_characters other
    characters_agree (node label kind spans parts) (node other other_kind other_spans others) (inr h) =
        ap characters_by h.is
        ∙ sym (constant_characters other other_kind (constant_forms others) (constant_parts change.old (node other other_kind other_spans others) h.value h.constant).0)

    scalar_agrees : (kind : CType) (tree other : Tree) → Agrees change tree other
        → static_scalar (new_of change) (renamed_objects change.rename objects) memory kind tree ≡ static_scalar change.old objects memory kind other
    scalar_agrees void tree other h = refl
    scalar_agrees (integer kind) tree other h =
        ap (λ o. integer_value kind (kinds.convert kind (number_or o (address_of (new_of change) (renamed_objects change.rename objects) memory tree)))) (agreeing_constant change replacement tree other h)
        ∙ ap (λ p. integer_value kind (kinds.convert kind (number_or (constant_of change.old other) p))) (address_agrees tree other h)
    scalar_agrees (pointer target) tree other h = ap pointer_value (address_agrees tree other h)
    scalar_agrees (array element length_known) tree other h = ap (array_of (array element length_known)) (characters_agree tree other h)
    scalar_agrees (struct n) tree other h = refl
    scalar_agrees (function_type result parameters) tree other h = refl
    scalar_agrees (const type) tree other h = refl

    one_agrees : (kind : CType) (trees others : List Tree) → Zipped (Agrees change) trees others
        → static_one (new_of change) (renamed_objects change.rename objects) memory kind trees ≡ static_one change.old objects memory kind others
    one_agrees kind [] [] h = refl
    one_agrees kind [] (y ∷ ys) h = absurd h
    one_agrees kind (x ∷ xs) [] h = absurd h
    one_agrees kind (x ∷ xs) (y ∷ ys) h = scalar_agrees (bare kind) x y h.0

    mutual
      value_agrees : (kind : CType) (initialiser : Initialiser) (trees others : List Tree) → Zipped (Agrees change) trees others
          → static_value (new_of change) (renamed_objects change.rename objects) memory kind initialiser trees ≡ static_value change.old objects memory kind initialiser others
      value_agrees kind one_expression trees others h = one_agrees kind trees others h
      value_agrees kind (in_braces items) trees others h =
          ap (λ l. compound (values (l ++ drop (count_items items) (parts_in (all_zero (layout change.old) kind))))) (parts_agree kind 0 items trees others h)

      parts_agree : (kind : CType) (n : ℕ) (items : Initialisers) (trees others : List Tree) → Zipped (Agrees change) trees others
          → static_parts (new_of change) (renamed_objects change.rename objects) memory kind n items trees ≡ static_parts change.old objects memory kind n items others
      parts_agree kind n no_items trees others h = refl
      parts_agree kind n (more_items item items) trees others h =
          ap (λ v. v ∷ static_parts (new_of change) (renamed_objects change.rename objects) memory kind (suc n) items (drop (expressions_in item) trees))
          (value_agrees (inner_type (layout change.old) (bare kind) n) item (take (expressions_in item) trees) (take (expressions_in item) others) (zipped_take (Agrees change) (expressions_in item) trees others h))
          ∙ ap (λ l. static_value change.old objects memory (inner_type (layout change.old) (bare kind) n) item (take (expressions_in item) others) ∷ l)
          (parts_agree kind (suc n) items (drop (expressions_in item) trees) (drop (expressions_in item) others) (zipped_drop (Agrees change) (expressions_in item) trees others h))

    initialised_agrees : (static other : Static) → StaticAgrees change static other → (n : Option ℕ) (initialiser : Option Initialiser) (before : Memory)
        → initialised (new_of change) (renamed_objects change.rename objects) memory static n initialiser before ≡ initialised change.old objects memory other n initialiser before
    initialised_agrees static other h None None before = refl
    initialised_agrees static other h None (Some initialiser) before = refl
    initialised_agrees static other h (Some n) None before = refl
    initialised_agrees static other h (Some n) (Some initialiser) before =
        ap (λ d. written before (whole (numbered n)) (static_value (new_of change) (renamed_objects change.rename objects) memory (type_declared (new_of change) d) initialiser static.expressions)) h.0
        ∙ ap (λ k. written before (whole (numbered n)) (static_value (new_of change) (renamed_objects change.rename objects) memory k initialiser static.expressions)) (same_type change replacement other.declared)
        ∙ ap (λ v. written before (whole (numbered n)) v) (value_agrees (type_declared change.old other.declared) initialiser static.expressions other.expressions h.2)

    all_initialised_agree : (statics others : List Static) → Zipped (StaticAgrees change) statics others → (before : Memory)
        → all_initialised (new_of change) (renamed_objects change.rename objects) memory statics before ≡ all_initialised change.old objects memory others before
    all_initialised_agree [] [] h before = refl
    all_initialised_agree [] (other ∷ others) h before = absurd h
    all_initialised_agree (static ∷ statics) [] h before = absurd h
    all_initialised_agree (static ∷ statics) (other ∷ others) h before =
        ap (all_initialised (new_of change) (renamed_objects change.rename objects) memory statics)
        (ap (λ d. initialised (new_of change) (renamed_objects change.rename objects) memory static (object_named (renamed_objects change.rename objects) d) static.initialiser before) h.0.0
        ∙ ap (λ o. initialised (new_of change) (renamed_objects change.rename objects) memory static o static.initialiser before) (object_renamed change.rename replacement.injective objects other.declared)
        ∙ ap (λ i. initialised (new_of change) (renamed_objects change.rename objects) memory static (object_named objects other.declared) i before) h.0.1
        ∙ initialised_agrees static other h.0 (object_named objects other.declared) other.initialiser before)
        ∙ all_initialised_agree statics others h.1 (initialised change.old objects memory other (object_named objects other.declared) other.initialiser before)

  numbers_agree : (statics others : List Static) → Zipped (StaticAgrees change) statics others → static_numbers statics ≡ map change.rename (static_numbers others)
  numbers_agree [] [] h = refl
  numbers_agree [] (other ∷ others) h = absurd h
  numbers_agree (static ∷ statics) [] h = absurd h
  numbers_agree (static ∷ statics) (other ∷ others) h = ap (λ d. d ∷ static_numbers statics) h.0.0 ∙ ap (λ l. change.rename other.declared ∷ l) (numbers_agree statics others h.1)

  zeroed_agrees : (names : ℕ → ℕ) (i : ℕ) (ds : List ℕ) (memory : Memory) → zeroed_from (new_of change) names i (map change.rename ds) memory ≡ zeroed_from change.old names i ds memory
  zeroed_agrees names i [] memory = refl
  zeroed_agrees names i (d ∷ ds) memory =
      ap (λ kind. zeroed_from (new_of change) names (suc i) (map change.rename ds) ((names i, record (new_block (layout change.old) kind) { contents = all_zero (layout change.old) kind }) ∷ memory)) (same_type change replacement d)
      ∙ zeroed_agrees names (suc i) ds _

  abbrev old_statics : (ℕ → ℕ) → Objects
  old_statics names = named_from names 0 (static_numbers change.old.statics) []

  pub statics_agree : (names : ℕ → ℕ) → named_from names 0 (static_numbers change.statics) [] ≡ renamed_objects change.rename (old_statics names)
  statics_agree names =
      ap (λ ds. named_from names 0 ds []) (numbers_agree change.statics change.old.statics replacement.statics) ∙ named_from_renamed change.rename names 0 (static_numbers change.old.statics) []

  zeroed_same : (names : ℕ → ℕ) → zeroed_from (new_of change) names 0 (static_numbers change.statics) [] ≡ zeroed_from change.old names 0 (static_numbers change.old.statics) []
  zeroed_same names =
      ap (λ ds. zeroed_from (new_of change) names 0 ds []) (numbers_agree change.statics change.old.statics replacement.statics) ∙ zeroed_agrees names 0 (static_numbers change.old.statics) []

  pub memory_agrees : (names : ℕ → ℕ) → statics_memory (new_of change) names (named_from names 0 (static_numbers change.statics) []) ≡ statics_memory change.old names (old_statics names)
  memory_agrees names =
      let zeroed = zeroed_from change.old names 0 (static_numbers change.old.statics) [] in
      ap (λ o. all_initialised (new_of change) o (zeroed_from (new_of change) names 0 (static_numbers change.statics) []) change.statics (zeroed_from (new_of change) names 0 (static_numbers change.statics) [])) (statics_agree names)
      ∙ ap (λ z. all_initialised (new_of change) (renamed_objects change.rename (old_statics names)) z change.statics z) (zeroed_same names)
      ∙ all_initialised_agree (old_statics names) zeroed change.statics change.old.statics replacement.statics zeroed

  pub zipped_length : {X Y : Type 0} (R : X → Y → Type 0) (xs : List X) (ys : List Y) → Zipped R xs ys → length xs ≡ length ys
  zipped_length R [] [] h = refl
  zipped_length R [] (y ∷ ys) h = absurd h
  zipped_length R (x ∷ xs) [] h = absurd h
  zipped_length R (x ∷ xs) (y ∷ ys) h = ap suc (zipped_length R xs ys h.1)

  pub arguments_agree : (n : ℕ) (ds : List ℕ) → arguments_for n (map change.rename ds) ≡ arguments_for n ds
  arguments_agree n [] = refl
  arguments_agree n (d ∷ ds) = refl

  -- ---- main

  main_agrees : (fs gs : List Definition) → Zipped (DefinitionAgrees change) fs gs → OptionAgrees (DefinitionAgrees change) (main_in (new_of change) fs) (main_in change.old gs)
  main_agrees [] [] h = tt
  main_agrees [] (g ∷ gs) h = absurd h
  main_agrees (f ∷ fs) [] h = absurd h
  main_agrees (f ∷ fs) (g ∷ gs) h =
      let same : is_main (declaration_of (new_of change) f.function) ≡ is_main (declaration_of change.old g.function) =
      ap (λ d. is_main (declaration_of (new_of change) d)) h.0.0 ∙ same_main change replacement g.function in
      subst (λ b. OptionAgrees (DefinitionAgrees change) (if b then Some f else main_in (new_of change) fs) (main_in change.old (g ∷ gs))) (sym same)
      (by_bool (is_main (declaration_of change.old g.function)) (main_agrees fs gs h.1))
    where
      by_bool : (b : Bool) → OptionAgrees (DefinitionAgrees change) (main_in (new_of change) fs) (main_in change.old gs)
          → OptionAgrees (DefinitionAgrees change) (if b then Some f else main_in (new_of change) fs) (if b then Some g else main_in change.old gs)
      by_bool true k = h.0
      by_bool false k = k

  pub other_main : (one other : Option Definition) (main : Definition) → OptionAgrees (DefinitionAgrees change) one other → one ≡ Some main → (m : Definition) × (other ≡ Some m) × DefinitionAgrees change main m
  other_main None other main h e = absurd (none_is_some main e)
  other_main (Some one) None main h e = absurd h
  other_main (Some one) (Some other) main h e = (other, refl, subst (λ d. DefinitionAgrees change d other) (some_is_some one main e) h)

  -- ---- beginnings

  start_agrees : (names : ℕ → ℕ) (main other : Definition) (input : List ℕ) → DefinitionAgrees change main other → StateAgrees change (start names (new_of change) main input) (start names change.old other input)
  start_agrees names main other input h =
      let count = zipped_length (StaticAgrees change) change.statics change.old.statics replacement.statics in
      let argv_block = record (new_block (layout change.old) argv_kind) { contents = all_zero (layout change.old) argv_kind } in
      let others : (ℕ → ℕ → ℕ) = λ n i. names (suc n + i) in
      record {
        standing = refl;
        function = h.0;
        objects =
            ap (λ n. (opened_frame (new_of change) (λ i. names (suc n + i)) main).objects) count
            ∙ frame_objects change replacement (λ i. names (suc (length change.old.statics) + i)) main other h;
        tasks = frame_tasks change replacement (λ i. names (suc (length change.old.statics) + i)) main other h;
        callers = tt;
        statics = statics_agree names;
        world =
            ap (λ n. record { memory = opened_memory (new_of change) (λ i. names (suc n + i)) main (arguments_for (names n) main.parameters) ((names n, argv_block) ∷ statics_memory (new_of change) names (named_from names 0 (static_numbers change.statics) [])); input = input; output = [] }) count
            ∙ ap (λ m. record { memory = opened_memory (new_of change) (λ i. names (suc (length change.old.statics) + i)) main (arguments_for (names (length change.old.statics)) main.parameters) ((names (length change.old.statics), argv_block) ∷ m); input = input; output = [] }) (memory_agrees names)
            ∙ ap (λ ps. record { memory = opened_memory (new_of change) (λ i. names (suc (length change.old.statics) + i)) main (arguments_for (names (length change.old.statics)) ps) ((names (length change.old.statics), argv_block) ∷ statics_memory change.old names (old_statics names)); input = input; output = [] }) h.1
            ∙ ap (λ vs. record { memory = opened_memory (new_of change) (λ i. names (suc (length change.old.statics) + i)) main vs ((names (length change.old.statics), argv_block) ∷ statics_memory change.old names (old_statics names)); input = input; output = [] }) (arguments_agree (names (length change.old.statics)) other.parameters)
            ∙ ap (λ m. record { memory = m; input = input; output = [] }) (frame_memory change replacement (λ i. names (suc (length change.old.statics) + i)) main other (arguments_for (names (length change.old.statics)) other.parameters) ((names (length change.old.statics), argv_block) ∷ statics_memory change.old names (old_statics names)) h);
      }

  begins_agrees : (input : List ℕ) (state : State) → Begins (new_of change) input state → (other : State) × Begins change.old input other × StateAgrees change state other
  begins_agrees input state (bytes, names, fresh, main, is_main_here, e) =
      let found = other_main (main_of (new_of change)) (main_of change.old) main (main_agrees change.functions change.old.functions replacement.functions) is_main_here in (
        start names change.old found.0 input,
        (bytes, names, fresh, found.0, found.1, refl),
        subst (λ s. StateAgrees change s (start names change.old found.0 input)) (sym e) (start_agrees names main found.0 input found.2),
      )

  -- ---- the simulation

  Relates : ℕ → State → State → Type 0
  Relates w state other = StateAgrees change state other

  goes_nothing : (program : Program) (t : State) → Goes (machine_of program) 0 t t
  unfolding Goes
  goes_nothing program t = refl

  simulation : IsSimulation (machine_of (new_of change)) (machine_of change.old) Relates 0 0
  unfolding Relates
  simulation = record {
    begins = λ input s b. let t = begins_agrees input s b in (0, t.0, omega arith, t.1, t.2);
    steps = λ w s s' t h step. met w s' t (step_met change replacement s s' t h step);
    going_on = λ w s t h e. inr (sym h.standing ∙ e, ap (λ (world : _). world.output) (sym h.world));
    ending = λ w s t status h e. inr (0, t, goes_nothing change.old t, sym h.standing ∙ e, ap (λ (world : _). world.output) (sym h.world));
    wrong = λ w s t cause place h e. (0, t, goes_nothing change.old t, cause, place, sym h.standing ∙ e);
  }
    where
      met : (w : ℕ) (s' t : State) → GoesWrong (machine_of change.old) t ⊎ ((n : ℕ) × (last : State) × Goes (machine_of change.old) (suc n) t last × StateAgrees change s' last)
          → GoesWrong (machine_of change.old) t ⊎ Meets (machine_of (new_of change)) (machine_of change.old) (λ i state other. StateAgrees change state other) 0 w s' t
      met w s' t (inl k) = inl k
      met w s' t (inr k) = inr (suc k.0, 0, k.1, k.2, omega arith, k.3)

-- A program in which constant expressions have become enumerators refines the program without.
pub enumerated_refines : (change : Replaced) → IsReplacement change → Refines (machine_of (new_of change)) (machine_of change.old)
enumerated_refines change replacement = simulated (machine_of (new_of change)) (machine_of change.old) (Relates change replacement) 0 0 (simulation change replacement)
