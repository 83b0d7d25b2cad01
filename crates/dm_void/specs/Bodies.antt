-- Functions whose body is one expression statement (6.8.3p2), and programs in which one returns the value of that expression. The machine runs these
-- too, though a function without a result has no `return` with an expression (6.8.6.4p1).
--     with_functions program functions      the program with other functions
--     IsRestated program f value other functions      with these functions, f returns the value of one expression, where it drops that of another in the
--                                                     program
--     IsNeverCalled program f      the function f runs at no time
--     AreUncalled program f      no other function names it
use Rattle.std.specs.Prelude.{◌≡◌, ◌⊎◌, ℕ, List, [], ◌∷◌, ◌++◌}
use Rattle.dm_type.specs.CTypes.{CType}
use Rattle.dm_tree.specs.Trees.{Label, function, full, return, Spans, Tree, Trees, node, no_trees, more_trees, parts_of}
use Rattle.dm_meaning.specs.Among.{IsAmong}
use Rattle.dm_meaning.specs.Machines.{RunsTo}
use Rattle.dm_meaning.specs.Programs.{Definition, Program}
use Rattle.dm_meaning.specs.States.{State}
use Rattle.dm_meaning.specs.Units.{machine_of}

abbrev pub with_functions : Program → List Definition → Program
with_functions program functions = record { declared = program.declared; functions = functions; statics = program.statics; table = program.table }

-- One function has another body: a `return` stands in place of the expression statement.
pub record IsRestated (program : Program) (f : ℕ) (value other : Tree) (functions : List Definition) : Type 0 where
  pub before : List Definition
  pub behind : List Definition
  pub parameters : List ℕ
  pub body : Tree
  pub other_body : Tree
  pub was : program.functions ≡ before ++ record { function = f; parameters = parameters; body = body } ∷ behind
  pub is : functions ≡ before ++ record { function = f; parameters = parameters; body = other_body } ∷ behind
  pub kind : CType
  pub spans : Spans
  pub drops : parts_of body ≡ node full kind spans (more_trees value no_trees) ∷ []
  pub other_kind : CType
  pub other_spans : Spans
  pub returns : parts_of other_body ≡ node return other_kind other_spans (more_trees other no_trees) ∷ []

-- in no state of a run is it the function that is running
abbrev pub IsNeverCalled : Program → ℕ → Type 0
IsNeverCalled program f =
    (input : List ℕ) (n : ℕ) (state : State) → RunsTo (machine_of program) input n state → state.frame.function ≡ f → ⊥

-- ---- functions that are never named

abbrev pub IsOtherName : ℕ → Label → Type 0
IsOtherName f (function d) = d ≡ f → ⊥
IsOtherName f label = Unit {0}

abbrev mutual
  -- no node names the function
  pub NotNamed : ℕ → Tree → Type 0
  NotNamed f (node label kind spans parts) = IsOtherName f label × NoneNamed f parts

  pub NoneNamed : ℕ → Trees → Type 0
  NoneNamed f no_trees = Unit {0}
  NoneNamed f (more_trees first rest) = NotNamed f first × NoneNamed f rest

abbrev pub AllNotNamed : ℕ → List Tree → Type 0
AllNotNamed f [] = Unit {0}
AllNotNamed f (tree ∷ trees) = NotNamed f tree × AllNotNamed f trees

-- but in the body of its own definition
abbrev pub AreUncalled : Program → ℕ → Type 0
AreUncalled program f = (definition : Definition) → IsAmong definition program.functions → (definition.function ≡ f) ⊎ AllNotNamed f (parts_of definition.body)
