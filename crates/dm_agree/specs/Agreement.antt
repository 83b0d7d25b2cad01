-- Two trees agree, but that calls of an added function, an added enumerator or reads of an added object stand where runs of a macro stood.
--     Rewriting      the runs, what is added, the renaming of declarations, and the values of constants
--     SameBody it parameters run here tree other      the added function's body is a run's tree, with reads of parameters at the occurrences
--     standing_for it run inner n other      the trees at the occurrences of a run's parameter
--     Agrees it runs tree other      a new tree agrees with an old one, at which these runs still stand, from the outside in
use Rattle.std.specs.Prelude.{◌≡◌, ℕ, suc, ◌==◌, List, [], ◌∷◌, ◌++◌, Option, Some, None, slice_get, ℤ, if◌then◌else◌}
use Rattle.dm_runs.specs.declared.run.Occurrence.{Occurrence}
use Rattle.dm_runs.specs.declared.run.Run.{Run}
use Rattle.dm_type.specs.CTypes.{CType}
use Rattle.dm_tree.specs.Trees.{Label, enumerator, read, call, Spans, Tree, Trees, node, no_trees, more_trees, label_of, kind_of, spans_of, trees_of}
use Rattle.dm_meaning.specs.Replaced.{relabelled, Zipped}
use Rattle.dm_effect.specs.Entities.{object_first, function_first}
use Rattle.dm_agree.specs.Standing.{runs_at, runs_below, occurrences_at, occurrences_below}

-- What is added to the new unit. A later kind of rewriting adds a case here, and one in `AtRun`.
pub data Added : Type 0 where
  -- nothing: the unit doesn't read the definition
  nothing : Added
  -- a function: its number, those of its parameters, and the expression of its body
  added_function : ℕ → List ℕ → Tree → Added
  -- an enumerator, and an object that is const: the number and the value
  added_enumerator : ℕ → ℤ → Added
  added_constant : ℕ → ℤ → Added

pub record Rewriting : Type 0 where
  -- the runs in the old unit
  pub runs : List Run
  pub added : Added
  -- the number among the new declarations of each old one
  pub rename : ℕ → ℕ
  -- the value of an integer constant expression of the old unit
  pub value : Tree → Option ℤ

-- ---- nodes

-- Two nodes are the same apart from their parts. Agreement up to widening conversions weakens this.
abbrev pub SameNode : Rewriting → Label → CType → Tree → Type 0
SameNode it label kind other = (label ≡ relabelled it.rename (label_of other)) × (kind ≡ kind_of other)

-- a node reads an object of this number, with the type of an old tree
abbrev pub IsReadOf : Option ℕ → Label → CType → Trees → Tree → Type 0
IsReadOf None label kind parts other = ⊥
IsReadOf (Some d) label kind parts other = (label ≡ read) × (kind ≡ kind_of other) × (object_first parts ≡ Some d)

-- ---- the body of the added function

-- what stands at a tree of a run: occurrences of its parameters, and other runs
pub record Here : Type 0 where
  pub occurrences : List Occurrence
  pub runs : List Run

abbrev pub here_at : Run → List Run → Tree → Here
here_at run inner tree = record { occurrences = occurrences_at run.occurrences tree; runs = inner }

abbrev pub here_below : Rewriting → Run → Label → Spans → Tree → Here
here_below it run label spans part =
    record { occurrences = occurrences_below run.occurrences label spans part; runs = runs_below it.runs label spans part }

-- At an occurrence the body reads the parameter. Elsewhere it has the same node, and no run of the macro stands: its name isn't replaced in
-- what it leaves itself (6.10.3.4p2).
abbrev pub BodyBy : Rewriting → List ℕ → List Occurrence → List Run → Label → CType → Trees → Tree → Type 0 → Type 0
BodyBy it parameters [] [] label kind parts other Below = SameNode it label kind other × Below
BodyBy it parameters [] (run ∷ runs) label kind parts other Below = ⊥
BodyBy it parameters (one ∷ others) runs label kind parts other Below = IsReadOf (slice_get parameters one.parameter) label kind parts other

abbrev mutual
  -- a tree of the body, and one of the run, at which these stand
  pub SameBody : Rewriting → List ℕ → Run → Here → Tree → Tree → Type 0
  SameBody it parameters run here (node label kind spans parts) other =
      BodyBy it parameters here.occurrences here.runs label kind parts other
      (SameBodies it parameters run (label_of other) (spans_of other) parts (trees_of other))

  pub SameBodies : Rewriting → List ℕ → Run → Label → Spans → Trees → Trees → Type 0
  SameBodies it parameters run label spans no_trees no_trees = Unit {0}
  SameBodies it parameters run label spans (more_trees first rest) (more_trees other others) =
      SameBody it parameters run (here_below it run label spans other) first other × SameBodies it parameters run label spans rest others
  SameBodies it parameters run label spans parts others = ⊥

-- ---- the trees at occurrences

-- an old tree, and the runs that still stand at it
pub record Left : Type 0 where
  pub runs : List Run
  pub tree : Tree

-- at an occurrence of this parameter the tree itself; below one of another parameter nothing
abbrev pub left_at : ℕ → List Occurrence → List Run → Tree → List Left → List Left
left_at n [] runs tree below = below
left_at n (one ∷ others) runs tree below = if one.parameter == n then record { runs = runs; tree = tree } ∷ [] else []

abbrev mutual
  -- the trees at the occurrences of a parameter in a tree of the run, from the left
  pub standing_in : Rewriting → Run → ℕ → Here → Tree → List Left
  standing_in it run n here (node label kind spans parts) =
      left_at n here.occurrences here.runs (node label kind spans parts) (standing_below it run n label spans parts)

  pub standing_below : Rewriting → Run → ℕ → Label → Spans → Trees → List Left
  standing_below it run n label spans no_trees = []
  standing_below it run n label spans (more_trees first rest) =
      standing_in it run n (here_below it run label spans first) first ++ standing_below it run n label spans rest

-- the trees at the occurrences of a parameter of a run that stands at a tree, as do these runs inside it
abbrev pub standing_for : Rewriting → Run → List Run → ℕ → Tree → List Left
standing_for it run inner n other = standing_in it run n (here_at run inner other) other

-- ---- the places of runs

-- a call of the added function, of the run's type, with the run's tree as its body
abbrev pub IsCallOf : Rewriting → ℕ → List ℕ → Tree → Run → List Run → Label → CType → Trees → Tree → Type 0
IsCallOf it f parameters body run inner label kind parts other =
    (label ≡ call) × (kind ≡ kind_of other) × (function_first parts ≡ Some f) × SameBody it parameters run (here_at run inner other) body other

-- What stands at a run: what was added, with the run's type, and with its value where it is an enumerator or an object. The arguments of a
-- call pass what stood at the occurrences.
abbrev pub AtRun : Rewriting → Added → Run → List Run → Label → CType → Trees → Tree → Type 0 → Type 0
AtRun it nothing run inner label kind parts other Passed = ⊥
AtRun it (added_function f parameters body) run inner label kind parts other Passed = IsCallOf it f parameters body run inner label kind parts other × Passed
AtRun it (added_enumerator d value) run inner label kind parts other Passed =
    (label ≡ enumerator d) × (kind ≡ kind_of other) × (parts ≡ no_trees) × (it.value other ≡ Some value)
AtRun it (added_constant d value) run inner label kind parts other Passed = IsReadOf (Some d) label kind parts other × (it.value other ≡ Some value)

-- the outermost of the runs that still stand at the old tree, or none
abbrev pub AgreesBy : Rewriting → List Run → Label → CType → Trees → Tree → Type 0 → (Run → List Run → Type 0) → Type 0
AgreesBy it [] label kind parts other Below Passed = SameNode it label kind other × Below
AgreesBy it (run ∷ inner) label kind parts other Below Passed = AtRun it it.added run inner label kind parts other (Passed run inner)

-- a relation holds of each of these trees
abbrev pub AllLeft : (List Run → Tree → Type 0) → List Left → Type 0
AllLeft R [] = Unit {0}
AllLeft R (first ∷ others) = R first.runs first.tree × AllLeft R others

-- ---- trees

abbrev mutual
  pub Agrees : Rewriting → List Run → Tree → Tree → Type 0
  Agrees it runs (node label kind spans parts) other =
      AgreesBy it runs label kind parts other (AllAgree it (label_of other) (spans_of other) parts (trees_of other)) (λ run inner. Passes it parts run inner other)

  -- part by part, each with the runs that stand there
  pub AllAgree : Rewriting → Label → Spans → Trees → Trees → Type 0
  AllAgree it label spans no_trees no_trees = Unit {0}
  AllAgree it label spans (more_trees first rest) (more_trees other others) =
      Agrees it (runs_below it.runs label spans other) first other × AllAgree it label spans rest others
  AllAgree it label spans parts others = ⊥

  -- behind the function's name, each argument agrees with the trees at the occurrences of its parameter
  pub Passes : Rewriting → Trees → Run → List Run → Tree → Type 0
  Passes it no_trees run inner other = ⊥
  Passes it (more_trees named arguments) run inner other = PassesFrom it 0 arguments run inner other

  pub PassesFrom : Rewriting → ℕ → Trees → Run → List Run → Tree → Type 0
  PassesFrom it n no_trees run inner other = Unit {0}
  PassesFrom it n (more_trees first rest) run inner other =
      AllLeft (λ runs tree. Agrees it runs first tree) (standing_for it run inner n other) × PassesFrom it (suc n) rest run inner other

-- a whole tree, and trees one by one
abbrev pub AgreesWhole : Rewriting → Tree → Tree → Type 0
AgreesWhole it tree other = Agrees it (runs_at it.runs other) tree other

abbrev pub AllAgreeWhole : Rewriting → List Tree → List Tree → Type 0
AllAgreeWhole it trees others = Zipped (AgreesWhole it) trees others
