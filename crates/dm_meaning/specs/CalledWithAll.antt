-- The parameters of an added function, and the arguments of its calls (6.5.2.2).
--     given names xs d      what the second list has where the first one has this number
--     times_named d tree      how often a tree names an object
use Rattle.std.specs.Prelude.{ℕ, ◌+◌, ◌==◌, List, [], ◌∷◌, Option, Some, None, if◌then◌else◌}
use Rattle.dm_tree.specs.Trees.{Label, object, Tree, Trees, node, no_trees, more_trees}
use Rattle.dm_meaning.specs.Among.{IsAmong}

-- ---- parameters and arguments

-- what stands in the second list where the first one has this number for the first time
abbrev pub given : {A : Type 0} → List ℕ → List A → ℕ → Option A
given [] xs d = None
given (p ∷ ps) [] d = None
given (p ∷ ps) (x ∷ xs) d = if p == d then Some x else given ps xs d

abbrev pub AreDistinct : List ℕ → Type 0
AreDistinct [] = Unit {0}
AreDistinct (p ∷ ps) = (IsAmong p ps → ⊥) × AreDistinct ps

-- whether a form names the object
abbrev pub times_here : ℕ → Label → ℕ
times_here d (object c) = if c == d then 1 else 0
times_here d label = 0

abbrev mutual
  -- how often a tree names it
  pub times_named : ℕ → Tree → ℕ
  times_named d (node label kind spans parts) = times_here d label + times_named_in d parts

  pub times_named_in : ℕ → Trees → ℕ
  times_named_in d no_trees = 0
  times_named_in d (more_trees first rest) = times_named d first + times_named_in d rest
