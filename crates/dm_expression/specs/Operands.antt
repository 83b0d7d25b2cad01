-- The operands of nodes that may be evaluated.
--     open_trees opens parts      which of the parts of a node they are
use Rattle.std.specs.Prelude.{ℕ, List, [], ◌∷◌, IsTrue}
use Rattle.dm_tree.specs.declared.tree.Core.{Core}
use Rattle.dm_tree.specs.Trees.{Tree}
use Rattle.dm_tree.specs.TypeNumbers.{are_known}
use Rattle.dm_meaning.specs.Running.{Open, every, only_first, but_first, nothing}
use Rattle.dm_expression.specs.declared.waiting.Operands.{Operands}
use Rattle.dm_expression.specs.declared.waiting.Operands.TheVariants as operands

abbrev pub open_trees : Open → List Tree → List Tree
open_trees every parts = parts
open_trees only_first [] = []
open_trees only_first (first ∷ rest) = first ∷ []
open_trees but_first [] = []
open_trees but_first (first ∷ rest) = rest
open_trees nothing parts = []

abbrev pub cores_in : Operands → List Core
cores_in operands.None = []
cores_in (operands.One a) = a.now ∷ []
cores_in (operands.Two a b) = a.now ∷ b.now ∷ []
cores_in (operands.Many all) = all.now

-- each type number in a list of trees is below n
abbrev pub AreAllKnown : ℕ → List Core → Type 0
AreAllKnown n [] = Unit {0}
AreAllKnown n (core ∷ rest) = IsTrue (are_known n core) × AreAllKnown n rest
