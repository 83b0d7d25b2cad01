-- Units whose programs are settled: what scoping and the declarations themselves say of that.
--     numbers_below tree      what the declarators in a tree declare, in order
--     IsInitialisedUnit needs unit      certain objects are declared once, with initialisers, or are parameters
--     has_first_value unit d      an object is a parameter, or has an initialiser
use Rattle.std.specs.Prelude.{◌≡◌, ℕ, ◌==◌, Bool, true, not, ◌&&◌, ◌||◌, is_some, if◌then◌else◌, IsTrue, All, List, [], ◌∷◌, ◌++◌, slice_get}
use Rattle.std.specs.List.{list_all}
use Rattle.dm_tree.specs.Trees.{Label, declare, switch, Declarator, Tree, Trees, node, no_trees, more_trees}
use Rattle.dm_tree.specs.Units.{External, ExternalForm, declares, defines_function, TypedUnit}
use Rattle.dm_meaning.specs.Among.{IsAmong}
use Rattle.dm_meaning.specs.Statements.{is_automatic_declaration}
use Rattle.dm_effect.specs.Scoped.{declared_here, is_in_scope, is_automatic}
use Rattle.dm_initialised.specs.Settled.{GiveValues, declared_in_parts, AreOthers}

abbrev mutual
  pub numbers_below : Tree → List ℕ
  numbers_below (node label kind spans parts) = declared_here label ++ numbers_below_all parts

  pub numbers_below_all : Trees → List ℕ
  numbers_below_all no_trees = []
  numbers_below_all (more_trees first rest) = numbers_below first ++ numbers_below_all rest

-- no such object is declared twice
abbrev pub AreOnce : (ℕ → Bool) → List ℕ → Type 0
AreOnce needs [] = Unit {0}
AreOnce needs (d ∷ ds) = (needs d ≡ true → IsAmong d ds → ⊥) × AreOnce needs ds

-- a declarator of such an object gives it a value, and no item of a `switch` declares one
abbrev pub LabelGives : (ℕ → Bool) → Label → Trees → Type 0
LabelGives needs (declare lengths declarators) parts = GiveValues needs declarators
LabelGives needs switch parts = AreOthers needs (declared_in_parts parts)
LabelGives needs label parts = Unit {0}

abbrev mutual
  pub TreeGives : (ℕ → Bool) → Tree → Type 0
  TreeGives needs (node label kind spans parts) = LabelGives needs label parts × TreesGive needs parts

  pub TreesGive : (ℕ → Bool) → Trees → Type 0
  TreesGive needs no_trees = Unit {0}
  TreesGive needs (more_trees first rest) = TreeGives needs first × TreesGive needs rest

abbrev pub FormGives : (ℕ → Bool) → ExternalForm → Type 0
FormGives needs (declares declarators trees) = Unit {0}
FormGives needs (defines_function f parameters body) = AreOnce needs (parameters ++ numbers_below body) × TreeGives needs body

-- These objects are automatic; each is declared once in its function, as a parameter or by a declarator with an initialiser.
pub record IsInitialisedUnit (needs : ℕ → Bool) (one : TypedUnit) : Type 0 where
  pub automatic : (d : ℕ) → needs d ≡ true → IsTrue (is_automatic_declaration (slice_get one.declared d))
  pub functions : All (λ (external : External). FormGives needs external.form) one.externals

-- ---- the objects of a unit that have first values

-- an object isn't declared twice
abbrev pub is_once : ℕ → List ℕ → Bool
is_once d [] = true
is_once d (n ∷ ns) = if n == d then not (is_in_scope ns d) else is_once d ns

-- a declarator gives the object its first value, if it declares it
abbrev pub gives_first : ℕ → Declarator → Bool
gives_first d one = not (one.declared == d) || (one.defines && is_some one.initialiser)

abbrev pub given_by : ℕ → Label → Trees → Bool
given_by d (declare lengths declarators) parts = list_all (gives_first d) declarators
given_by d switch parts = not (is_in_scope (declared_in_parts parts) d)
given_by d label parts = true

-- each declarator of the object in a tree does, and no item of a `switch` declares it
abbrev mutual
  pub given_in : ℕ → Tree → Bool
  given_in d (node label kind spans parts) = given_by d label parts && given_in_all d parts

  pub given_in_all : ℕ → Trees → Bool
  given_in_all d no_trees = true
  given_in_all d (more_trees first rest) = given_in d first && given_in_all d rest

abbrev pub given_in_form : ℕ → ExternalForm → Bool
given_in_form d (declares declarators trees) = true
given_in_form d (defines_function f parameters body) = is_once d (parameters ++ numbers_below body) && given_in d body

-- an automatic object has a first value: that of an argument, where it is a parameter, or of the initialiser of its declarator
abbrev pub has_first_value : TypedUnit → ℕ → Bool
has_first_value one d = is_automatic one.declared d && list_all (λ (external : External). given_in_form d external.form) one.externals
