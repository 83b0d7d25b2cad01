-- The bodies of functions of the new program and of the old one, which are the same but for calls of the added function in full expressions.
--     Known      what is known of the old program
--     frame_stage change known statics objects      what names stand for in a frame of the old program
--     Agrees change known tree other      statements, or expressions that agree wherever they are evaluated
--     IsWholeProgram program      no statement stands in a full expression of its bodies
--     NoStatements program      nor is a full expression one in any run
--     CallsInPlace change known      the programs are the same but for such calls and the added function
use Rattle.std.specs.List.{list_all}
use Rattle.std.specs.Prelude.{◌≡◌, ◌⊎◌, ℕ, Bool, true, false, List, [], ◌∷◌, ◌++◌, map, Some, if◌then◌else◌}
use Rattle.dm_token.specs.declared.place.Place.{Place}
use Rattle.dm_type.specs.CTypes.{CType}
use Rattle.dm_tree.specs.Trees.{return, is_statement, Spans, Tree, Trees, node, no_trees, more_trees, label_of, kind_of, trees_of, parts_of}
use Rattle.dm_meaning.specs.Among.{IsAmong}
use Rattle.dm_meaning.specs.Called.{Called, new_of, SameCase, statics_of}
use Rattle.dm_meaning.specs.Operations.{Objects, object_named}
use Rattle.dm_meaning.specs.Machines.{RunsTo}
use Rattle.dm_meaning.specs.Programs.{Definition, Program, declaration_of, definition_of}
use Rattle.dm_meaning.specs.Replaced.{relabelled, Zipped, StaticAgrees}
use Rattle.dm_meaning.specs.Running.{begun}
use Rattle.dm_meaning.specs.States.{Use, Task, evaluates, State}
use Rattle.dm_meaning.specs.Statements.{unfolded}
use Rattle.dm_meaning.specs.Steps.{is_main}
use Rattle.dm_meaning.specs.Units.{main_of, machine_of}
use Rattle.dm_meaning.specs.Wholes.{is_expression, is_whole}
use Rattle.dm_meaning.proofs.RunLemmas.{OptionAgrees}
use Rattle.dm_rewrite.specs.Effects.{Stage}
use Rattle.dm_central.specs.Added.{IsAdded}
use Rattle.dm_central.specs.Agreement.{BegunOutside}
use Rattle.dm_central.specs.NodeSteps.{old_stage}

-- Which declarations are of closed objects, which functions are quiet, and which expressions always come to something.
pub record Known : Type 0 where
  pub closed : ℕ → Bool
  pub quiet : ℕ → Bool
  pub safe : Tree → Bool

-- none of them
abbrev pub nothing_known : Known
nothing_known = record { closed = λ d. false; quiet = λ f. false; safe = λ tree. false }

-- ---- frames

-- the objects of these declarations
abbrev pub closed_numbers : (ℕ → Bool) → Objects → List ℕ
closed_numbers closed [] = []
closed_numbers closed (entry ∷ entries) = (if closed entry.0 then entry.1 ∷ [] else []) ++ closed_numbers closed entries

-- the objects of static storage duration, and those of the frame, among which the closed ones are
abbrev pub frame_stage : Called → Known → Objects → Objects → Stage
frame_stage change known statics objects = old_stage change (statics ++ objects) (closed_numbers known.closed objects) known.quiet

-- no object has two names, what names a closed object there names one of the frame, and nothing else names it
pub record AreNamedOnce (known : Known) (statics objects : Objects) : Type 0 where
  pub apart : (c d n : ℕ) → object_named (statics ++ objects) c ≡ Some n → object_named (statics ++ objects) d ≡ Some n → c ≡ d
  pub closed_ones : (d n : ℕ) → known.closed d ≡ true → object_named (statics ++ objects) d ≡ Some n → IsAmong n (closed_numbers known.closed objects)
  pub closed_names : (d n : ℕ) → IsAmong n (closed_numbers known.closed objects) → object_named (statics ++ objects) d ≡ Some n → known.closed d ≡ true

-- ---- trees

-- The expressions agree in each frame.
abbrev pub ExpressionAgrees : Called → Known → Tree → Tree → Type 0
ExpressionAgrees change known tree other =
    (is_expression other ≡ true)
    × ((statics objects : Objects) → AreNamedOnce known statics objects → BegunOutside change (frame_stage change known statics objects) known.safe [] tree other)

abbrev mutual
  pub Agrees : Called → Known → Tree → Tree → Type 0
  Agrees change known (node label kind spans parts) other =
      ((is_statement (label_of other) ≡ true) × (label ≡ relabelled change.rename (label_of other)) × (kind ≡ kind_of other)
      × SameCase change (label_of other) parts (trees_of other) × AllAgree change known parts (trees_of other))
      ⊎ ExpressionAgrees change known (node label kind spans parts) other

  pub AllAgree : Called → Known → Trees → Trees → Type 0
  AllAgree change known no_trees no_trees = Unit {0}
  AllAgree change known (more_trees first rest) (more_trees other others) = Agrees change known first other × AllAgree change known rest others
  AllAgree change known parts others = ⊥

-- ---- programs

abbrev pub DefinitionAgrees : Called → Known → Definition → Definition → Type 0
DefinitionAgrees change known definition other =
    (definition.function ≡ change.rename other.function) × (definition.parameters ≡ map change.rename other.parameters)
    × AllAgree change known (trees_of definition.body) (trees_of other.body)

-- The programs differ in such calls and in the added function alone, which isn't `main`, and whose body is one `return` of its expression: the
-- functions and the static objects agree.
pub record CallsInPlace (change : Called) (known : Known) : Type 0 where
  pub injective : (c d : ℕ) → change.rename c ≡ change.rename d → c ≡ d
  pub apart : (d : ℕ) → change.rename d ≡ change.added.function → ⊥
  pub added : IsAdded change
  pub functions : (g : ℕ) → OptionAgrees (DefinitionAgrees change known) (definition_of (new_of change) (change.rename g)) (definition_of change.old g)
  pub mains : OptionAgrees (DefinitionAgrees change known) (main_of (new_of change)) (main_of change.old)
  pub statics : Zipped (StaticAgrees (statics_of change)) change.statics change.old.statics
  pub not_main : is_main (declaration_of (new_of change) change.added.function) ≡ false
  pub return_kind : CType
  pub return_spans : Spans
  pub returns : parts_of change.added.body ≡ node return return_kind return_spans (more_trees change.body no_trees) ∷ []

-- In no run of the program a full expression is a statement, as no typed one is.
abbrev pub NoStatements : Program → Type 0
NoStatements program =
    (input : List ℕ) (n : ℕ) (state : State) → RunsTo (machine_of program) input n state
    → (place : Place) (tree : Tree) (use_of : Use) (rest : List Task) → unfolded state.frame.tasks ≡ evaluates place (begun tree) use_of ∷ rest
    → is_statement (label_of tree) ≡ false

-- The statements of its bodies have none in their full expressions, as no typed statement has.
abbrev pub IsWholeProgram : Program → Type 0
IsWholeProgram program = (definition : Definition) → IsAmong definition program.functions → list_all is_whole (parts_of definition.body) ≡ true
