-- The steps of each expression under evaluation are the same, if the same functions are defined.
use Rattle.std.specs.Prelude.{◌≡◌, refl, ℕ, List, [], ◌++◌, map, Option, Some, None, pos}
use Rattle.dm_token.specs.declared.place.Place.{Place}
use Rattle.dm_type.specs.CTypes.{CType}
use Rattle.dm_tree.specs.Trees as label
use Rattle.dm_tree.specs.Trees.{Label}
use Rattle.dm_tree.specs.Units.{Declaration}
use Rattle.dm_meaning.specs.Values.{At, Value}
use Rattle.dm_meaning.specs.Primitives.{Prim}
use Rattle.dm_meaning.specs.Programs.{Program, Definition, layout, declaration_of, definition_in, definition_of}
use Rattle.dm_meaning.specs.Operations.{World, Objects, Operand, Scene, number_alone}
use Rattle.dm_meaning.specs.Running.{Doing, evaluates, gives_truth, gives_value, Run, done, to_do, Runs, no_runs, more_runs, locks_in_all, Open, first_open, others_open, open_parts, operands_in, within, in_first, in_others}
use Rattle.dm_meaning.specs.Expressions.{lifted, as_move, value_of, nth_run, function_named, answered, undefined_called, called, call_step, kind_of_run, form_step, node_step, own_or_inner, where_open, moves, moves_in}
use Rattle.dm_void.specs.Bodies.{with_functions}
use Rattle.dm_void.proofs.SameOperationLemmas.{before, after, operate_same}

-- both are there, or none
abbrev pub AreBoth : Option Definition → Option Definition → Type 0
AreBoth None None = Unit {0}
AreBoth (Some definition) (Some other) = Unit {0}
AreBoth found other = ⊥

module _ (program : Program) (functions : List Definition) (defined : (d : ℕ) → AreBoth (definition_of program d) (definition_in functions d)) (objects : Objects) where
  abbrev here : Scene
  here = before program functions objects

  abbrev there : Scene
  there = after program functions objects

  -- ---- calls

  undefined_same : (world : World) (kind : CType) (place : Place) (arguments : List Value) (found : Option Declaration)
      → undefined_called there world kind place arguments found ≡ undefined_called here world kind place arguments found
  undefined_same world kind place arguments None = refl
  undefined_same world kind place arguments (Some declaration) =
      λ i. answered world kind place (Prim declaration.name declaration.kind (layout program) world.memory arguments world.input world.output)

  called_same : (world : World) (kind : CType) (place : Place) (arguments : List Value) (d : ℕ) (found other : Option Definition) → AreBoth found other
      → called there world kind place arguments d other ≡ called here world kind place arguments d found
  called_same world kind place arguments d None None h = undefined_same world kind place arguments (declaration_of program d)
  called_same world kind place arguments d None (Some definition) h = absurd h
  called_same world kind place arguments d (Some definition) None h = absurd h
  called_same world kind place arguments d (Some definition) (Some other) h = refl

  call_same : (world : World) (kind : CType) (place : Place) (arguments : List Value) (named : Option ℕ)
      → call_step there world kind place arguments named ≡ call_step here world kind place arguments named
  call_same world kind place arguments None = refl
  call_same world kind place arguments (Some d) = called_same world kind place arguments d (definition_of program d) (definition_in functions d) (defined d)

  -- ---- nodes

  form_same : (world : World) (locks : List At) (form : Label) (kind : CType) (place : Place) (parts : Runs) (operands : List Operand)
      → form_step there world locks form kind place parts operands ≡ form_step here world locks form kind place parts operands
  form_same world locks label.both kind place parts operands = refl
  form_same world locks label.either kind place parts operands = refl
  form_same world locks label.choose kind place parts operands = refl
  form_same world locks label.comma kind place parts operands = refl
  form_same world locks label.call kind place parts operands =
      call_same world kind place (map (λ (a : Operand). value_of a.result) operands) (function_named (nth_run 0 parts))
  form_same world locks label.sizeof_tree kind place parts operands =
      λ i. as_move kind place [] (number_alone world kind (pos ((layout program).size (kind_of_run (nth_run 0 parts)))))
  form_same world locks form kind place parts operands =
      λ i. as_move kind place (locks_in_all parts) (operate_same program functions objects world locks form kind operands i)

  node_same : (world : World) (locks : List At) (doing : Doing) (kind : CType) (place : Place) (parts : Runs) (operands : List Operand)
      → node_step there world locks doing kind place parts operands ≡ node_step here world locks doing kind place parts operands
  node_same world locks (evaluates form) kind place parts operands = form_same world locks form kind place parts operands
  node_same world locks gives_truth kind place parts operands = refl
  node_same world locks gives_value kind place parts operands = refl

  -- ---- all steps of a tree

  mutual
    pub moves_same : (world : World) (locks : List At) (run : Run) → moves there world locks run ≡ moves here world locks run
    moves_same world locks (done kind result own) = refl
    moves_same world locks (to_do doing kind place parts) =
        λ i. own_or_inner (operands_in (open_parts doing) parts) (λ operands. node_same world locks doing kind place parts operands i)
        (map (lifted (to_do doing kind place) (within doing kind place)) (moves_in_same world locks (open_parts doing) parts i))

    moves_in_same : (world : World) (locks : List At) (opens : Open) (parts : Runs) → moves_in there world locks opens parts ≡ moves_in here world locks opens parts
    moves_in_same world locks opens no_runs = refl
    moves_in_same world locks opens (more_runs first rest) =
        λ i. where_open (first_open opens) (map (lifted (λ run. more_runs run rest) (λ hole. in_first hole rest)) (moves_same world locks first i))
        ++ map (lifted (more_runs first) (in_others first)) (moves_in_same world locks (others_open opens) rest i)
