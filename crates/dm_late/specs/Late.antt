-- Arguments that are read late in the expression of an added function: behind the beginning of the expression, several times, or not in each case.
--     Judged      which objects are closed, which functions are quiet, and which parameters are read late
--     AreReadFirst judged runs parameters body      where a run stands, each parameter is read first, and once unless it is read late; or its arguments
--         are to be safe
--     IsStable judged trees argument      an argument comes to the same while these trees are evaluated
--     EvaluatesAlike judged rewriting parameters at beside runs tree other      so do the arguments of all runs in a tree that are read late, and
--         those whose parameters aren't read first are safe
--     EvaluateAlike judged rewriting parameters externals others      and in all functions of a unit
--     AreClosed judged unit rename new      closed objects are automatic, and only read and written
--     AreQuiet judged program      quiet functions return the value of a tree that writes nothing
use Rattle.std.specs.Prelude.{◌≡◌, ◌⊎◌, ℕ, suc, Bool, true, false, List, [], ◌∷◌, ◌++◌, map, if◌then◌else◌}
use Rattle.std.specs.List.{AllByRecursion}
use Rattle.dm_runs.specs.declared.run.Run.{Run}
use Rattle.dm_type.specs.CTypes.{CType}
use Rattle.dm_tree.specs.Trees.{Label, object, read, return, is_statement, Spans, Tree, Trees, node, no_trees, more_trees, label_of, spans_of, trees_of, parts_of}
use Rattle.dm_tree.specs.Units.{External, ExternalForm, defines_function, TypedUnit}
use Rattle.dm_meaning.specs.Among.{IsAmong}
use Rattle.dm_meaning.specs.CalledWithAll.{times_named}
use Rattle.dm_meaning.specs.Programs.{Definition, Program}
use Rattle.dm_meaning.specs.Running.{begun, Open, first_open, others_open, open_of}
use Rattle.dm_effect.specs.Entities.{writes_here}
use Rattle.dm_effect.specs.Scoped.{is_automatic}
use Rattle.dm_rewrite.specs.ClosedStates.{ProgramNamesOnly}
use Rattle.dm_rewrite.specs.Computed.{IsPure}
use Rattle.dm_central.specs.Arguments.{ReadsSomewhere, ReadsFirst}
use Rattle.dm_central.specs.QuietFrames.{WritesNothing}
use Rattle.dm_agree.specs.Standing.{runs_at, runs_below}
use Rattle.dm_agree.specs.Agreement.{Rewriting, Left, standing_for, AllLeft}
use Rattle.dm_late.specs.Settled.{erased, spot}

-- By the numbers of old declarations, and of the parameters; and by what an argument is where its full expression stands.
pub record Judged : Type 0 where
  pub closed : ℕ → Bool
  pub quiet : ℕ → Bool
  pub late : ℕ → Bool
  -- it is read first, or its arguments are safe
  pub first : ℕ → Bool
  pub safe : Tree → Bool

-- ---- the expression of the added function

-- A parameter that isn't read late is read once, and first. One that is read late is read first, or somewhere, but not in a type name alone.
abbrev pub IsRead : Judged → ℕ → Tree → Type 0
IsRead judged p body =
    (judged.late p ≡ false → times_named p body ≡ 1) × (judged.first p ≡ true → ReadsFirst p body) × (judged.first p ≡ false → (judged.late p ≡ true) × ReadsSomewhere p body)

-- Nothing is asked of a function whose macro has no run.
abbrev pub AreReadFirst : Judged → List Run → List ℕ → Tree → Type 0
AreReadFirst judged runs parameters body = (run : Run) → IsAmong run runs → (p : ℕ) → IsAmong p parameters → IsRead judged p body

-- ---- what trees write

abbrev mutual
  -- no node stores in the object by its name
  pub NotWritten : ℕ → Tree → Type 0
  NotWritten d (node label kind spans parts) = (writes_here d (node label kind spans parts) ≡ false) × NoneWritten d parts

  pub NoneWritten : ℕ → Trees → Type 0
  NoneWritten d no_trees = Unit {0}
  NoneWritten d (more_trees first rest) = NotWritten d first × NoneWritten d rest

-- ---- arguments that stay the same

-- a read is one of a closed object that no tree here writes
abbrev pub ReadsSteady : Judged → List Tree → Label → Trees → Type 0
ReadsSteady judged trees read (more_trees (node (object d) kind spans no_trees) no_trees) = (judged.closed d ≡ true) × AllByRecursion (NotWritten d) trees
ReadsSteady judged trees read parts = ⊥
ReadsSteady judged trees label parts = Unit {0}

abbrev mutual
  pub IsSteady : Judged → List Tree → Tree → Type 0
  IsSteady judged trees (node label kind spans parts) = ReadsSteady judged trees label parts × AreSteady judged trees parts

  pub AreSteady : Judged → List Tree → Trees → Type 0
  AreSteady judged trees no_trees = Unit {0}
  AreSteady judged trees (more_trees first rest) = IsSteady judged trees first × AreSteady judged trees rest

-- it neither stores nor calls, and these trees write nothing, or nothing that it reads
abbrev pub IsStable : Judged → List Tree → Tree → Type 0
IsStable judged trees argument = IsPure (begun argument) × (AllByRecursion (WritesNothing judged.quiet) trees ⊎ IsSteady judged trees argument)

-- ---- trees that are evaluated in any order beside others (6.5p3)

-- the parts that may be evaluated
abbrev pub open_trees : Open → Trees → List Tree
open_trees opens no_trees = []
open_trees opens (more_trees first rest) = (if first_open opens then first ∷ [] else []) ++ open_trees (others_open opens) rest

-- beside the first part: those before it, the others, and what is beside the node
abbrev pub beside_first : Open → List Tree → List Tree → Trees → List Tree
beside_first opens before beside others = if first_open opens then before ++ (open_trees (others_open opens) others ++ beside) else beside

abbrev pub before_others : Open → List Tree → Tree → List Tree
before_others opens before other = if first_open opens then before ++ other ∷ [] else before

-- ---- arguments of runs

abbrev pub trees_left : List Left → List Tree
trees_left lefts = map (λ (left : Left). left.tree) lefts

-- the trees that stand for the parameters from the n-th on, of which these are the new arguments
abbrev pub trees_from : Rewriting → ℕ → Trees → Run → List Run → Tree → List Tree
trees_from it n no_trees run inner other = []
trees_from it n (more_trees first rest) run inner other = trees_left (standing_for it run inner n other) ++ trees_from it (suc n) rest run inner other

-- where its parameter isn't read first, it is safe where the full expression stands
abbrev pub IsSafe : Judged → Spans → ℕ → Tree → Type 0
IsSafe judged at p tree = judged.first p ≡ false → judged.safe (erased at tree) ≡ true

-- arguments that are read late are stable while the run and what is beside it are evaluated
abbrev pub AreStable : Judged → Rewriting → Spans → List Tree → ℕ → List ℕ → Run → List Run → Tree → Type 0
AreStable judged it at beside n [] run inner other = Unit {0}
AreStable judged it at beside n (p ∷ ps) run inner other =
    (judged.late p ≡ true → AllLeft (λ runs tree. IsStable judged (other ∷ beside) tree × IsSafe judged at p tree) (standing_for it run inner n other))
    × AreStable judged it at beside (suc n) ps run inner other

-- by what stands at a tree: nothing, or a run
abbrev pub IfRun : List Run → Type 0 → (Run → List Run → Type 0) → Type 0
IfRun [] Below Passed = Below
IfRun (run ∷ inner) Below Passed = Passed run inner

-- a statement's parts are full expressions or statements, which are evaluated one after the other (6.8p4)
abbrev pub beside_part : Bool → Open → List Tree → List Tree → Trees → List Tree
beside_part statement opens before beside others = if statement then [] else beside_first opens before beside others

-- where the full expression stands
abbrev pub part_at : Bool → Spans → Tree → Spans
part_at statement at other = if statement then spot (spans_of other) else at

abbrev mutual
  pub EvaluatesAlike : Judged → Rewriting → List ℕ → Spans → List Tree → List Run → Tree → Tree → Type 0
  EvaluatesAlike judged it ps at beside runs (node label kind spans parts) other =
      IfRun runs (AllAlike judged it ps (is_statement (label_of other)) (open_of (label_of other)) at [] beside (label_of other) (spans_of other) parts (trees_of other))
      (λ run inner. AreStable judged it at beside 0 ps run inner other × PassAlike judged it ps at beside parts run inner other)

  pub AllAlike : Judged → Rewriting → List ℕ → Bool → Open → Spans → List Tree → List Tree → Label → Spans → Trees → Trees → Type 0
  AllAlike judged it ps statement opens at before beside label spans (more_trees first rest) (more_trees other others) =
      EvaluatesAlike judged it ps (part_at statement at other) (beside_part statement opens before beside others) (runs_below it.runs label spans other) first other
      × AllAlike judged it ps statement (others_open opens) at (before_others opens before other) beside label spans rest others
  AllAlike judged it ps statement opens at before beside label spans trees others = Unit {0}

  -- behind the function's name, each argument beside the others
  pub PassAlike : Judged → Rewriting → List ℕ → Spans → List Tree → Trees → Run → List Run → Tree → Type 0
  PassAlike judged it ps at beside no_trees run inner other = Unit {0}
  PassAlike judged it ps at beside (more_trees named arguments) run inner other = PassAlikeFrom judged it ps at [] beside 0 arguments run inner other

  pub PassAlikeFrom : Judged → Rewriting → List ℕ → Spans → List Tree → List Tree → ℕ → Trees → Run → List Run → Tree → Type 0
  PassAlikeFrom judged it ps at before beside n no_trees run inner other = Unit {0}
  PassAlikeFrom judged it ps at before beside n (more_trees first rest) run inner other =
      AllLeft (λ runs tree. EvaluatesAlike judged it ps at (before ++ (trees_from it (suc n) rest run inner other ++ beside)) runs first tree) (standing_for it run inner n other)
      × PassAlikeFrom judged it ps at (before ++ trees_left (standing_for it run inner n other)) beside (suc n) rest run inner other

-- ---- units

-- initialisers of file scope are constant, and evaluate nothing
abbrev pub FormAlike : Judged → Rewriting → List ℕ → ExternalForm → ExternalForm → Type 0
FormAlike judged it ps (defines_function f parameters body) (defines_function g others other) = EvaluatesAlike judged it ps (spot (spans_of other)) [] (runs_at it.runs other) body other
FormAlike judged it ps form other = Unit {0}

abbrev pub EvaluateAlike : Judged → Rewriting → List ℕ → List External → List External → Type 0
EvaluateAlike judged it ps (external ∷ externals) (other ∷ others) = FormAlike judged it ps external.form other.form × EvaluateAlike judged it ps externals others
EvaluateAlike judged it ps externals others = Unit {0}

-- No address of a closed object is taken, which is one of a function's own (6.2.4p5).
abbrev pub AreClosed : Judged → TypedUnit → (ℕ → ℕ) → Program → Type 0
AreClosed judged old rename new = (d : ℕ) → judged.closed d ≡ true → (is_automatic old.declared d ≡ true) × ProgramNamesOnly (rename d) new

pub record ReturnsQuietly (quiet : ℕ → Bool) (definition : Definition) : Type 0 where
  pub kind : CType
  pub spans : Spans
  pub value : Tree
  pub returns_it : parts_of definition.body ≡ node return kind spans (more_trees value no_trees) ∷ []
  pub quietly : WritesNothing quiet value

abbrev pub AreQuiet : Judged → Program → Type 0
AreQuiet judged program = (definition : Definition) → IsAmong definition program.functions → judged.quiet definition.function ≡ true → ReturnsQuietly judged.quiet definition
