-- So are the steps of statements and declarations.
use Rattle.std.specs.Prelude.{◌≡◌, refl, ℕ, suc, ◌||◌, List, [], ◌∷◌, ◌++◌, Option, ℤ, if◌then◌else◌}
use Rattle.dm_token.specs.declared.place.Place.{Place}
use Rattle.dm_type.specs.CTypes.{CType}
use Rattle.dm_tree.specs.Trees as label
use Rattle.dm_tree.specs.Trees.{Label, case, default, Tree, node, no_trees, more_trees, listed, Declarator, Initialiser, one_expression, in_braces}
use Rattle.dm_meaning.specs.Values.{At, Value, integer_value, pointer_value, parts, unset}
use Rattle.dm_meaning.specs.Memory.{Memory, new_block, contents_at, written}
use Rattle.dm_meaning.specs.Programs.{Definition, Program, layout, constant_of}
use Rattle.dm_meaning.specs.Operations.{Result, Objects}
use Rattle.dm_meaning.specs.Expressions.{value_of}
use Rattle.dm_meaning.specs.States.{Loop, Use, selects, Task, ends, tests}
use Rattle.dm_meaning.specs.Statements.{onward, is_automatic, automatic_in, declared_by_label, declared_by, declared_in, type_declared, named_from, made_from, items_tasks, unlabelled, entered, memory_entered, start_tasks, as_list, begin_for, on_one_tree, on_tree_if, loop_with, begin_form, begin_tree, begin_statement, part_tasks, value_listed, count_items, begin_initialiser, is_number, has_case, has_default, from_first, or_items, selected_by, concluded}
use Rattle.dm_void.specs.Bodies.{with_functions}

module _ (program : Program) (functions : List Definition) where
  -- ---- the objects of a block

  automatic_same : (declarators : List Declarator) → automatic_in (with_functions program functions) declarators ≡ automatic_in program declarators
  automatic_same [] = refl
  automatic_same (one ∷ others) = λ i. (if is_automatic program one then one.declared ∷ [] else []) ++ automatic_same others i

  label_same : (form : Label) → declared_by_label (with_functions program functions) form ≡ declared_by_label program form
  label_same (label.declare lengths declarators) = automatic_same declarators
  label_same form = refl

  item_same : (item : Tree) → declared_by (with_functions program functions) item ≡ declared_by program item
  item_same (node form kind spans trees) = label_same form

  pub declared_same : (items : List Tree) → declared_in (with_functions program functions) items ≡ declared_in program items
  declared_same [] = refl
  declared_same (item ∷ items) = λ i. item_same item i ++ declared_same items i

  pub made_same : (names : ℕ → ℕ) (n : ℕ) (ds : List ℕ) (memory : Memory) → made_from (with_functions program functions) names n ds memory ≡ made_from program names n ds memory
  made_same names n [] memory = refl
  made_same names n (d ∷ ds) memory = λ i. made_same names (suc n) ds ((names n, new_block (layout program) (type_declared program d)) ∷ memory) i

  abbrev entered_same : (names : ℕ → ℕ) (items : List Tree) (objects : Objects) → entered (with_functions program functions) names items objects ≡ entered program names items objects
  entered_same names items objects = λ i. named_from names 0 (declared_same items i) objects

  abbrev memory_same : (names : ℕ → ℕ) (items : List Tree) (memory : Memory) → memory_entered (with_functions program functions) names items memory ≡ memory_entered program names items memory
  memory_same names items memory = λ i. made_same names 0 (declared_same items i) memory i

  -- ---- what begins

  for_same : (names : ℕ → ℕ) (objects : Objects) (rest : List Task) (memory : Memory) (start : Option Tree) (loop : Loop)
      → begin_for (with_functions program functions) names objects rest memory start loop ≡ begin_for program names objects rest memory start loop
  for_same names objects rest memory start loop =
      λ i. let inner = entered_same names (as_list start) objects i in
      onward inner (start_tasks start ++ tests inner loop ∷ ends objects ∷ rest) (memory_same names (as_list start) memory i)

  form_same : (names : ℕ → ℕ) (objects : Objects) (rest : List Task) (memory : Memory) (form : Label) (trees : List Tree)
      → begin_form (with_functions program functions) names objects rest memory form trees ≡ begin_form program names objects rest memory form trees
  form_same names objects rest memory label.block items =
      λ i. onward (entered_same names items objects i) (items_tasks items ++ ends objects ∷ rest) (memory_same names items memory i)
  form_same names objects rest memory (label.for_loop first second third) trees =
      λ i. on_tree_if first trees (λ start others. on_tree_if second others (λ condition seconds. on_tree_if third seconds (λ after thirds.
      on_one_tree thirds (λ body. for_same names objects rest memory start (loop_with condition after body) i)
      (onward objects (ends objects ∷ rest) memory)) (onward objects (ends objects ∷ rest) memory)) (onward objects (ends objects ∷ rest) memory))
      (onward objects (ends objects ∷ rest) memory)
  form_same names objects rest memory form trees = refl

  tree_same : (names : ℕ → ℕ) (objects : Objects) (rest : List Task) (memory : Memory) (tree : Tree)
      → begin_tree (with_functions program functions) names objects rest memory tree ≡ begin_tree program names objects rest memory tree
  tree_same names objects rest memory (node form kind spans trees) = form_same names objects rest memory form (listed trees)

  pub statement_same : (names : ℕ → ℕ) (objects : Objects) (rest : List Task) (memory : Memory) (tree : Tree)
      → begin_statement (with_functions program functions) names objects rest memory tree ≡ begin_statement program names objects rest memory tree
  statement_same names objects rest memory tree = tree_same names objects rest memory (unlabelled tree)

  pub initialiser_same : (objects : Objects) (rest : List Task) (memory : Memory) (at : At) (kind : CType) (initialiser : Initialiser) (trees : List Tree)
      → begin_initialiser (with_functions program functions) objects rest memory at kind initialiser trees ≡ begin_initialiser program objects rest memory at kind initialiser trees
  initialiser_same objects rest memory at kind one_expression trees = refl
  initialiser_same objects rest memory at kind (in_braces items) trees =
      λ i. onward objects (part_tasks (layout program) at kind 0 items trees ++ rest) (written memory at (value_listed (layout program) kind (count_items items) (contents_at memory at)))

  -- ---- the end of a full expression

  case_same : (z : ℤ) (tree : Tree) → has_case (with_functions program functions) z tree ≡ has_case program z tree
  case_same z (node case kind spans (more_trees value (more_trees statement rest))) = λ i. is_number z (constant_of program value) || case_same z statement i
  case_same z (node default kind spans (more_trees statement rest)) = case_same z statement
  case_same z tree = refl

  selected_same : (value : Value) (items : List Tree) → selected_by (with_functions program functions) value items ≡ selected_by program value items
  selected_same (integer_value kind z) items = λ i. or_items (from_first (λ tree. case_same z tree i) items) (or_items (from_first has_default items) [])
  selected_same (pointer_value p) items = refl
  selected_same (parts all) items = refl
  selected_same unset items = refl

  pub concluded_same : (objects : Objects) (rest : List Task) (memory : Memory) (place : Place) (use_of : Use) (result : Result)
      → concluded (with_functions program functions) objects rest memory place use_of result ≡ concluded program objects rest memory place use_of result
  concluded_same objects rest memory place (selects items) result = λ i. onward objects (items_tasks (selected_same (value_of result) items i) ++ rest) memory
  concluded_same objects rest memory place use_of result = refl
