-- So are the frames of calls.
use Rattle.std.specs.Prelude.{◌≡◌, refl, ℕ, suc, List, [], ◌∷◌, length}
use Rattle.dm_tree.specs.Trees.{parts_of}
use Rattle.dm_meaning.specs.Values.{Value}
use Rattle.dm_meaning.specs.Memory.{Memory, new_block}
use Rattle.dm_meaning.specs.Programs.{Program, Definition, layout}
use Rattle.dm_meaning.specs.Statements.{type_declared, named_from, items_tasks}
use Rattle.dm_meaning.specs.Steps.{given_from, opened_frame, opened_memory}
use Rattle.dm_void.specs.Bodies.{with_functions}
use Rattle.dm_void.proofs.SameStatementLemmas.{declared_same, made_same}

module _ (program : Program) (functions : List Definition) where
  -- ---- the frame of a call

  given_same : (names : ℕ → ℕ) (n : ℕ) (ds : List ℕ) (values : List Value) (memory : Memory)
      → given_from (with_functions program functions) names n ds values memory ≡ given_from program names n ds values memory
  given_same names n [] values memory = refl
  given_same names n (d ∷ ds) [] memory = λ i. given_same names (suc n) ds [] ((names n, new_block (layout program) (type_declared program d)) ∷ memory) i
  given_same names n (d ∷ ds) (value ∷ values) memory =
      λ i. given_same names (suc n) ds values ((names n, record (new_block (layout program) (type_declared program d)) { contents = value }) ∷ memory) i

  pub frame_same : (names : ℕ → ℕ) (definition : Definition) → opened_frame (with_functions program functions) names definition ≡ opened_frame program names definition
  frame_same names definition = λ i. record {
    function = definition.function;
    objects = named_from names (length definition.parameters) (declared_same program functions (parts_of definition.body) i) (named_from names 0 definition.parameters []);
    tasks = items_tasks (parts_of definition.body);
  }

  pub memory_same : (names : ℕ → ℕ) (definition : Definition) (arguments : List Value) (memory : Memory)
      → opened_memory (with_functions program functions) names definition arguments memory ≡ opened_memory program names definition arguments memory
  memory_same names definition arguments memory =
      λ i. made_same program functions names (length definition.parameters) (declared_same program functions (parts_of definition.body) i)
      (given_same names 0 definition.parameters arguments memory i) i
