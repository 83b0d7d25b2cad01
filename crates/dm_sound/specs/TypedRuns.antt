-- Trees under evaluation, and the steps of expressions.
--     ComesFrom layout tree run      the evaluation of a tree has come to this
--     HoleComesFrom layout tree called hole      so where the part that is left out is a call of this type
--     MoveFits program memory tree move      what a step of a typed expression does
use Rattle.std.specs.Prelude.{◌≡◌, ◌⊎◌, ℕ, zero, suc, Bool, true, false, not, IsTrue, All, MatchBool, List, [], ◌∷◌, Option, Some, None}
use Rattle.dm_int.specs.declared.Kind.{Kind}
use Rattle.dm_type.specs.CTypes.{CType, void, function as function_type, bare}
use Rattle.dm_tree.specs.Composites.{covers}
use Rattle.dm_tree.specs.Initialisers.{InitialiserFits}
use Rattle.dm_tree.specs.Scenes.{is_lvalue}
use Rattle.dm_tree.specs.Trees.{Label, both, either, choose, comma, Tree, Trees, no_trees, more_trees, kind_of, label_of, trees_of}
use Rattle.dm_tree.specs.Typing.{FunctionFits}
use Rattle.dm_tree.specs.Units.{Declaration, External, ExternalForm, declares, defines_function, TypedUnit}
use Rattle.dm_meaning.specs.Among.{IsAmong}
use Rattle.dm_meaning.specs.Values.{Value}
use Rattle.dm_meaning.specs.Objects.{Layout}
use Rattle.dm_meaning.specs.Memory.{Memory}
use Rattle.dm_meaning.specs.Causes.{is_unset}
use Rattle.dm_meaning.specs.Programs.{Program, Definition, Static, layout, declaration_of, definition_of}
use Rattle.dm_meaning.specs.Operations.{World}
use Rattle.dm_meaning.specs.Running.{Doing, evaluates, gives_truth, gives_value, Run, done, to_do, Runs, no_runs, more_runs, begun, Open, every, first_open, others_open, open_of, Hole, here, within, Holes, in_first, in_others}
use Rattle.dm_meaning.specs.Expressions.{Move, goes, calls, fails, exits}
use Rattle.dm_meaning.specs.Statements.{type_declared}
use Rattle.dm_meaning.specs.Units.{AreBytes}
use Rattle.dm_sound.specs.TypedValues.{HasType, AreTyped, StaySet}
use Rattle.dm_sound.specs.TypedTrees.{IsProper, IsProperTree, scene_in}
use Rattle.dm_sound.specs.TypedSteps.{IsResult, IsTypedScope}

-- ---- programs

-- the definition of a function fits its type, and the types of its trees are proper
pub record IsTypedFunction (program : Program) (definition : Definition) : Type 0 where
  pub entry : Declaration
  pub declared : declaration_of program definition.function ≡ Some entry
  pub fits : FunctionFits (scene_in program void false false None) definition.parameters definition.body entry
  pub proper : IsProperTree definition.body

-- the initialiser of an object of static storage duration, if it has one, fits the object's declaration (6.7.9); its expressions are those of
-- a function with this result, or of none
pub record IsTypedStatic (program : Program) (static : Static) : Type 0 where
  pub entry : Declaration
  pub declared : declaration_of program static.declared ≡ Some entry
  pub result : CType
  pub breaks : Bool
  pub continues : Bool
  pub labels : Option Kind
  pub fits : InitialiserFits (scene_in program result breaks continues labels) entry true static.initialiser static.expressions

-- the declarations, the functions and the objects of static storage duration of a program
pub record IsTypedProgram (program : Program) : Type 0 where
  pub scope : IsTypedScope program
  pub functions : (definition : Definition) → IsAmong definition program.functions → IsTypedFunction program definition
  pub statics : (static : Static) → IsAmong static program.statics → IsTypedStatic program static

-- memory and input: each object holds a value of its type, and the input is one of bytes
pub record IsTypedWorld (program : Program) (world : World) : Type 0 where
  pub memory : AreTyped (layout program) world.memory
  pub input : AreBytes world.input

-- ---- trees under evaluation

-- the part of this number alone
abbrev pub only : ℕ → Trees → Trees
only n no_trees = no_trees
only zero (more_trees first rest) = more_trees first no_trees
only (suc n) (more_trees first rest) = only n rest

-- && or || (6.5.13, 6.5.14)
abbrev pub is_logical : Label → Bool
is_logical both = true
is_logical either = true
is_logical label = false

-- A node of the tree goes on by its own form, or with the operand that &&, ||, ?: or the comma has chosen, where it is told of the trees
-- below it which of them may be evaluated.
abbrev pub GoesOn : Tree → Doing → (Open → Trees → Type 0) → Type 0
GoesOn tree (evaluates label) Below = (label ≡ label_of tree) × Below (open_of label) (trees_of tree)
GoesOn tree gives_truth Below = IsTrue (is_logical (label_of tree)) × Below every (only 1 (trees_of tree))
GoesOn tree gives_value Below =
    ((label_of tree ≡ comma) × Below every (only 1 (trees_of tree)))
    ⊎ ((label_of tree ≡ choose) × (Below every (only 1 (trees_of tree)) ⊎ Below every (only 2 (trees_of tree))))

abbrev mutual
  -- The evaluation of the tree has come to this: to a result of it, or to a node of which parts are evaluated, where those that may not be
  -- have not begun.
  pub ComesFrom : Layout → Tree → Run → Type 0
  ComesFrom laid tree (done kind result locks) = (kind ≡ kind_of tree) × IsResult laid tree result
  ComesFrom laid tree (to_do doing kind place parts) = (kind ≡ kind_of tree) × GoesOn tree doing (λ opens trees. AllComeFrom laid opens trees parts)

  pub AllComeFrom : Layout → Open → Trees → Runs → Type 0
  AllComeFrom laid opens no_trees no_runs = Unit {0}
  AllComeFrom laid opens (more_trees tree trees) (more_runs run runs) =
      MatchBool (first_open opens) (ComesFrom laid tree run) (run ≡ begun tree) × AllComeFrom laid (others_open opens) trees runs
  AllComeFrom laid opens trees runs = ⊥

-- ---- calls

abbrev mutual
  -- the same, where the part that is left out is a call whose value is of this type
  pub HoleComesFrom : Layout → Tree → CType → Hole → Type 0
  HoleComesFrom laid tree called here = (called ≡ kind_of tree) × IsTrue (not (is_lvalue tree))
  HoleComesFrom laid tree called (within doing kind place parts) = (kind ≡ kind_of tree) × GoesOn tree doing (λ opens trees. HolesComeFrom laid called opens trees parts)

  pub HolesComeFrom : Layout → CType → Open → Trees → Holes → Type 0
  HolesComeFrom laid called opens no_trees holes = ⊥
  HolesComeFrom laid called opens (more_trees tree trees) (in_first hole rest) =
      IsTrue (first_open opens) × HoleComesFrom laid tree called hole × AllComeFrom laid (others_open opens) trees rest
  HolesComeFrom laid called opens (more_trees tree trees) (in_others first holes) =
      MatchBool (first_open opens) (ComesFrom laid tree first) (first ≡ begun tree) × HolesComeFrom laid called (others_open opens) trees holes

-- the type of the result of a function
abbrev pub result_in : CType → CType
result_in (function_type result parameters) = result
result_in type = void

abbrev pub result_of : Program → ℕ → CType
result_of program f = result_in (type_declared program f)

-- there are as many arguments as parameters, and each is a value of its parameter's type (6.5.2.2p2)
abbrev pub ArgumentsFit : Program → List ℕ → List Value → Type 0
ArgumentsFit program [] [] = Unit {0}
ArgumentsFit program (d ∷ ds) (value ∷ values) = HasType (layout program) (type_declared program d) value × ArgumentsFit program ds values
ArgumentsFit program ds values = ⊥

-- each of these values was set
abbrev pub AreGivenValues : List Value → Type 0
AreGivenValues [] = Unit {0}
AreGivenValues (value ∷ values) = (is_unset value ≡ false) × AreGivenValues values

-- a function that the program defines is called with an argument for each parameter, which was set, and the call has the type of its result, as that was
-- known where the call stands (6.5.2.2p1, p5)
pub record CallFits (program : Program) (f : ℕ) (arguments : List Value) (kind : CType) : Type 0 where
  pub definition : Definition
  pub defined : definition_of program f ≡ Some definition
  pub arguments_fit : ArgumentsFit program definition.parameters arguments
  pub arguments_set : AreGivenValues arguments
  pub result : CType
  pub gives : kind ≡ bare result
  pub covered : IsTrue (covers (result_of program f) result)

-- What a step of a typed expression does: it leaves a tree to which the evaluation of the same tree has come and each object a value of
-- its type, and unsets none; or it calls a function, whose call is left out; or it is undefined, or ends the program.
abbrev pub MoveFits : Program → Memory → Tree → Move Run Hole → Type 0
MoveFits program memory tree (goes world run) = IsTypedWorld program world × StaySet memory world.memory × ComesFrom (layout program) tree run
MoveFits program memory tree (calls f arguments kind hole) = CallFits program f arguments kind × HoleComesFrom (layout program) tree kind hole
MoveFits program memory tree (fails cause place) = Unit {0}
MoveFits program memory tree (exits status) = Unit {0}

-- ---- units

-- the types of the nodes of an external declaration are proper
abbrev pub IsProperForm : ExternalForm → Type 0
IsProperForm (declares declarators trees) = All IsProperTree trees
IsProperForm (defines_function f parameters body) = IsProperTree body

-- those of a unit and of its entries, as where a table of types gave them
pub record IsProperUnit (one : TypedUnit) : Type 0 where
  pub entries : All (λ (entry : Declaration). IsProper entry.kind) one.declared
  pub externals : All (λ (external : External). IsProperForm external.form) one.externals
