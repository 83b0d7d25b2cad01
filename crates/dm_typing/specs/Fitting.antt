-- What holds of what the code knows at a place.
--     HaveTypes types entries      the types of declarations are numbered
--     AreNumbered types trees      and so are those of trees
use Rattle.std.specs.Prelude.{ℕ, IsTrue, List, length, All}
use Rattle.dm_type.specs.Tables.{Table, IsId}
use Rattle.dm_tree.specs.declared.tree.Core.{Core}
use Rattle.dm_tree.specs.declared.unit.Declared.{Declared}
use Rattle.dm_tree.specs.TypeNumbers.{are_known}

abbrev pub HaveTypes : Table → List Declared → Type 0
HaveTypes types entries = All (λ (entry : Declared). IsId types entry.kind) entries

-- the types of a tree are numbered
abbrev pub IsNumbered : Table → Core → Type 0
IsNumbered types tree = IsTrue (are_known (length types.shapes) tree)

abbrev pub AreNumbered : Table → List Core → Type 0
AreNumbered types trees = All (IsNumbered types) trees
