-- What the examples share.
use Rattle.std.specs.Prelude.{All, [], ◌∷◌}
use Rattle.std.proofs.lemmas.List.Elements.{All-from_recursion}
use Rattle.dm_tree.specs.Scenes.{IsStatement}
use Rattle.dm_tree.specs.Trees.{Tree}

-- a block of one statement
pub one_statement : (tree : Tree) → IsStatement tree → All IsStatement (tree ∷ [])
one_statement tree h = All-from_recursion IsStatement (tree ∷ []) (h, tt)
