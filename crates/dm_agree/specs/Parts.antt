-- The trees directly below a node of the code.
--     nows refs      what references point to
--     are_all_known n trees      each number of a type in the trees is below n
use Rattle.std.specs.Prelude.{ℕ, ◌≤◌, Bool, List, [], ◌∷◌, ◌++◌, map, Option, Some, None}
use Rattle.std.specs.Borrow.{Bor}
use denote.Param.Weighed.{most}
use Rattle.dm_tree.specs.declared.tree.Core.{Core, size-Core}
use Rattle.dm_tree.specs.declared.tree.Form.TheFolds as folds
use Rattle.dm_tree.specs.declared.tree.Initial.{Initial}
use Rattle.dm_tree.specs.TypeNumbers.{all_pass, are_known, form_known, initial_known, core_known, local_known}
use Rattle.dm_agree.specs.declared.parts.Operands.{Operands}

abbrev pub nows : List (Bor Core) → List Core
nows refs = map (λ (one : Bor Core). one.now) refs

abbrev pub are_all_known : ℕ → List Core → Bool
are_all_known n trees = all_pass (map (are_known n) trees)

abbrev pub AreBelow : ℕ → List Core → Type 0
AreBelow depth trees = most size-Core trees ≤ depth

abbrev pub operands_in : Operands → List Core
operands_in operands = operands.front.now ++ operands.back.now

-- a tree that may be left out
abbrev pub if_given : Option Core → List Core
if_given None = []
if_given (Some tree) = tree ∷ []

abbrev pub there : Option (Bor Core) → List Core
there None = []
there (Some tree) = tree.now ∷ []

abbrev pub are_known_in_initial : ℕ → Initial → Bool
are_known_in_initial types = folds.fold-Initial Bool Bool Bool Bool (form_known types) initial_known (core_known types) local_known
