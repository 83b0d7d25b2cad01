-- The arguments of a call, and what stands at the occurrences of their parameters.
use Rattle.std.proofs.Common.{◌≡◌, ◌↔◌, ◌+◌, ◌<◌, ◌==◌, ℕ, zero, suc, Bool, true, false, if◌then◌else◌, List, [], ◌∷◌, ◌++◌, Option, Some, None, is_some, not, slice_get, refl, sym, ap, ◌∙◌, subst, arith}
use Rattle.std.proofs.lemmas.Bool.{eqb-true, eq-eqb, ne_eqb, false≢true}
use Rattle.dm_runs.specs.declared.run.Occurrence.{Occurrence}
use Rattle.dm_runs.specs.declared.run.Run.{Run}
use Rattle.dm_tree.specs.Trees.{Label, Spans, Tree, Trees, node, no_trees, more_trees, label_of, kind_of, spans_of, trees_of, trees}
use Rattle.dm_agree.specs.Agreement.{Rewriting, SameNode, IsReadOf, Here, here_at, here_below, BodyBy, SameBody, SameBodies, Left, left_at, standing_in, standing_below, AllLeft, Agrees, PassesFrom}
use Rattle.dm_agree.specs.Arguments.{Argument, argument_at, arguments_in, arguments_below, nothing_here, Passed, AllPassed}
use Rattle.dm_agree.specs.Index.{first_parameter}
use Rattle.dm_agree.proofs.StepLemmas.{itself, through, back}

-- ---- what stands at the occurrences of one parameter

abbrev of_parameter : ℕ → List Argument → List Left
of_parameter n [] = []
of_parameter n (one ∷ others) = if one.parameter == n then one.left ∷ of_parameter n others else of_parameter n others

of-append : (n : ℕ) (these those : List Argument) → of_parameter n (these ++ those) ≡ of_parameter n these ++ of_parameter n those
of-append n [] those = refl
of-append n (one ∷ others) those = ap (λ rest. if one.parameter == n then one.left ∷ rest else rest) (of-append n others those) ∙ chosen (one.parameter == n)
  where
    chosen : (test : Bool) → (if test then one.left ∷ (of_parameter n others ++ of_parameter n those) else of_parameter n others ++ of_parameter n those)
        ≡ (if test then one.left ∷ of_parameter n others else of_parameter n others) ++ of_parameter n those
    chosen true = refl
    chosen false = refl

module _ (R : List Run → Tree → Type 0) where
  left-append : (these those : List Left) → (AllLeft R these × AllLeft R those) ↔ AllLeft R (these ++ those)
  left-append [] those = (λ both. both.1, λ all. (tt, all))
  left-append (one ∷ others) those =
      let rest = left-append others those in
      (λ both. (both.0.0, rest.0 (both.0.1, both.1)), λ all. ((all.0, (rest.1 all.1).0), (rest.1 all.1).1))

  abbrev SameLeft : List Left → List Left → Type 0
  SameLeft these those = AllLeft R these ↔ AllLeft R those

  -- in the other order
  turned : (a b c d : List Left) → SameLeft a c → SameLeft b d → SameLeft (a ++ b) (d ++ c)
  turned a b c d first second = (
    λ all. let both = (left-append a b).1 all in (left-append d c).0 (second.0 both.1, first.0 both.0),
    λ all. let both = (left-append d c).1 all in (left-append a b).0 (first.1 both.1, second.1 both.0),
  )

  module _ (it : Rewriting) (run : Run) (n : ℕ) where
    at-one : (occurrences : List Occurrence) (runs : List Run) (tree : Tree) (below : List Left) (found : List Argument)
        → SameLeft below (of_parameter n found) → SameLeft (left_at n occurrences runs tree below) (of_parameter n (argument_at occurrences runs tree found))
    at-one [] runs tree below found same = same
    at-one (one ∷ others) runs tree below found same = itself

    mutual
      left-in : (here : Here) (tree : Tree) → SameLeft (standing_in it run n here tree) (of_parameter n (arguments_in it run here tree))
      left-in here (node label kind spans parts) =
          at-one here.occurrences here.runs (node label kind spans parts) (standing_below it run n label spans parts) (arguments_below it run label spans parts) (left-below label spans parts)

      left-below : (label : Label) (spans : Spans) (parts : Trees) → SameLeft (standing_below it run n label spans parts) (of_parameter n (arguments_below it run label spans parts))
      left-below label spans no_trees = itself
      left-below label spans (more_trees first rest) =
          let here = here_below it run label spans first in
          subst (λ (found : List Left). SameLeft (standing_in it run n here first ++ standing_below it run n label spans rest) found)
          (sym (of-append n (arguments_below it run label spans rest) (arguments_in it run here first)))
          (turned (standing_in it run n here first) (standing_below it run n label spans rest) (of_parameter n (arguments_in it run here first)) (of_parameter n (arguments_below it run label spans rest))
          (left-in here first) (left-below label spans rest))

-- ---- the argument of a parameter, where arguments are counted from n

abbrev argument_from : ℕ → List Tree → ℕ → Option Tree
argument_from n [] p = None
argument_from n (first ∷ rest) p = if p == n then Some first else argument_from (suc n) rest p

none-before : (n : ℕ) (arguments : List Tree) (p : ℕ) → p < n → argument_from n arguments p ≡ None
none-before n [] p lt = refl
none-before n (first ∷ rest) p lt =
    ap (λ test. if test then Some first else argument_from (suc n) rest p) (ne_eqb p n (λ e. absurd (omega (arith, lt, e)))) ∙ none-before (suc n) rest p (omega (arith, lt))

from-get : (n : ℕ) (arguments : List Tree) (k : ℕ) → argument_from n arguments (n + k) ≡ slice_get arguments k
from-get n [] k = refl
from-get n (first ∷ rest) zero = ap (λ test. if test then Some first else argument_from (suc n) rest (n + 0)) (eq-eqb (n + 0) n (omega arith))
from-get n (first ∷ rest) (suc k) =
    let more : n + suc k ≡ suc n + k = omega arith in
    ap (λ test. if test then Some first else argument_from (suc n) rest (n + suc k)) (ne_eqb (n + suc k) n (λ e. absurd (omega (arith, e))))
    ∙ ap (argument_from (suc n) rest) more ∙ from-get (suc n) rest k

module _ (it : Rewriting) where
  abbrev AllPassedFrom : ℕ → List Tree → List Argument → Type 0
  AllPassedFrom n arguments [] = Unit {0}
  AllPassedFrom n arguments (one ∷ others) = Passed it (argument_from n arguments one.parameter) one.left × AllPassedFrom n arguments others

  none-passes : (n : ℕ) (found : List Argument) → AllPassedFrom n [] found
  none-passes n [] = tt
  none-passes n (one ∷ others) = (tt, none-passes n others)

  -- one occurrence, of the first of the arguments or of a later one
  divided : (first : Tree) (later : Option Tree) (left : Left) (rest : List Left) (Later : Type 0) (test : Bool) → (test ≡ true → later ≡ None)
      → (AllLeft (λ runs tree. Agrees it runs first tree) (if test then left ∷ rest else rest) × (Passed it later left × Later))
      ↔ (Passed it (if test then Some first else later) left × (AllLeft (λ runs tree. Agrees it runs first tree) rest × Later))
  divided first later left rest Later true none = (
    λ all. (all.0.0, (all.0.1, all.1.1)),
    λ all. ((all.0, all.1.0), (subst (λ (one : Option Tree). Passed it one left) (sym (none refl)) tt, all.1.1)),
  )
  divided first later left rest Later false none = (λ all. (all.1.0, (all.0, all.1.1)), λ all. (all.1.0, (all.0, all.1.1)))

  first-passes : (n : ℕ) (first : Tree) (rest : List Tree) (found : List Argument)
      → (AllLeft (λ runs tree. Agrees it runs first tree) (of_parameter n found) × AllPassedFrom (suc n) rest found) ↔ AllPassedFrom n (first ∷ rest) found
  first-passes n first rest [] = (λ all. tt, λ all. (tt, tt))
  first-passes n first rest (one ∷ others) =
      let later = first-passes n first rest others in
      through (divided first (argument_from (suc n) rest one.parameter) one.left (of_parameter n others) (AllPassedFrom (suc n) rest others) (one.parameter == n)
      (λ yes'. let same = eqb-true one.parameter n yes' in none-before (suc n) rest one.parameter (omega (arith, same))))
      (λ all. (all.0, later.0 all.1), λ all. (all.0, later.1 all.1))

  module _ (run : Run) (inner : List Run) (other : Tree) where
    passes-from : (n : ℕ) (arguments : List Tree) → AllPassedFrom n arguments (arguments_in it run (here_at run inner other) other) ↔ PassesFrom it n (trees arguments) run inner other
    passes-from n [] = (λ all. tt, λ all. none-passes n (arguments_in it run (here_at run inner other) other))
    passes-from n (first ∷ rest) =
        let found = arguments_in it run (here_at run inner other) other in
        let here = left-in (λ runs tree. Agrees it runs first tree) it run n (here_at run inner other) other in
        let later = passes-from (suc n) rest in
        through (back (first-passes n first rest found)) (λ all. (here.1 all.0, later.0 all.1), λ all. (here.0 all.0, later.1 all.1))

  all-from : (arguments : List Tree) (found : List Argument) → AllPassed it arguments found ↔ AllPassedFrom 0 arguments found
  all-from arguments [] = itself
  all-from arguments (one ∷ others) =
      let rest = all-from arguments others in
      let counted : one.parameter ≡ 0 + one.parameter = omega arith in
      let same : argument_from 0 arguments one.parameter ≡ slice_get arguments one.parameter = ap (argument_from 0 arguments) counted ∙ from-get 0 arguments one.parameter in (
        λ all. (subst (λ (argument : Option Tree). Passed it argument one.left) (sym same) all.0, rest.0 all.1),
        λ all. (subst (λ (argument : Option Tree). Passed it argument one.left) same all.0, rest.1 all.1),
      )

  -- each occurrence's argument agrees
  pub arguments-pass : (run : Run) (inner : List Run) (other : Tree) (arguments : List Tree)
      → AllPassed it arguments (arguments_in it run (here_at run inner other) other) ↔ PassesFrom it 0 (trees arguments) run inner other
  arguments-pass run inner other arguments = through (all-from arguments (arguments_in it run (here_at run inner other) other)) (passes-from run inner other 0 arguments)

-- ---- what stands at a tree of the run

pub none-some : (found : Option ℕ) (test : Bool) → is_some found ≡ not test → test ≡ true → found ≡ None
none-some None test is yes' = refl
none-some (Some n) test is yes' = absurd (false≢true (sym (is ∙ ap not yes')))

none-there : (occurrences : List Occurrence) → first_parameter occurrences ≡ None → occurrences ≡ []
none-there [] is = refl
none-there (one ∷ others) is = absurd (cc)

pub nothing-there : (here : Here) → first_parameter here.occurrences ≡ None → here.runs ≡ [] → here ≡ nothing_here
nothing-there here none clear = let no_occurrences = none-there here.occurrences none in λ i. record { occurrences = no_occurrences i; runs = clear i }

pub argument-there : (it : Rewriting) (run : Run) (here : Here) (tree : Tree) (p : ℕ) → first_parameter here.occurrences ≡ Some p
    → arguments_in it run here tree ≡ record { parameter = p; left = record { runs = here.runs; tree = tree } } ∷ []
argument-there it run here (node label kind spans parts) p is = at here.occurrences is
  where
    at : (occurrences : List Occurrence) → first_parameter occurrences ≡ Some p
        → argument_at occurrences here.runs (node label kind spans parts) (arguments_below it run label spans parts) ≡ record { parameter = p; left = record { runs = here.runs; tree = node label kind spans parts } } ∷ []
    at [] none = absurd (cc)
    at (one ∷ others) some =
        let same : one.parameter ≡ p = cc in
        ap (λ (n : ℕ). record { parameter = n; left = record { runs = here.runs; tree = node label kind spans parts } } ∷ []) same

module _ (it : Rewriting) (parameters : List ℕ) (run : Run) where
  -- an occurrence
  pub read-there : (here : Here) (new other : Tree) (p : ℕ) → first_parameter here.occurrences ≡ Some p
      → IsReadOf (slice_get parameters p) (label_of new) (kind_of new) (trees_of new) other ↔ SameBody it parameters run here new other
  read-there here (node label kind spans parts) other p is = at here.occurrences is
    where
      Below : Type 0
      Below = SameBodies it parameters run (label_of other) (spans_of other) parts (trees_of other)

      at : (occurrences : List Occurrence) → first_parameter occurrences ≡ Some p → IsReadOf (slice_get parameters p) label kind parts other ↔ BodyBy it parameters occurrences here.runs label kind parts other Below
      at [] none = absurd (cc)
      at (one ∷ others) some =
          let same : p ≡ one.parameter = cc in
          subst (λ (n : ℕ). IsReadOf (slice_get parameters p) label kind parts other ↔ IsReadOf (slice_get parameters n) label kind parts other) same itself

  -- a run inside, of which no occurrence has the tree
  pub run-there : (here : Here) (new other : Tree) → first_parameter here.occurrences ≡ None → (here.runs ≡ [] → ⊥) → SameBody it parameters run here new other → ⊥
  run-there here (node label kind spans parts) other none some same = at here.occurrences here.runs none some same
    where
      at : (occurrences : List Occurrence) (runs : List Run) → first_parameter occurrences ≡ None → (runs ≡ [] → ⊥)
          → BodyBy it parameters occurrences runs label kind parts other (SameBodies it parameters run (label_of other) (spans_of other) parts (trees_of other)) → ⊥
      at [] [] none some same = some refl
      at [] (one ∷ others) none some same = same
      at (one ∷ others) runs none some same = absurd (cc)

  -- neither
  pub body-there : (new other : Tree) → (SameNode it (label_of new) (kind_of new) other × SameBodies it parameters run (label_of other) (spans_of other) (trees_of new) (trees_of other))
      ↔ SameBody it parameters run nothing_here new other
  body-there (node label kind spans parts) other = itself
