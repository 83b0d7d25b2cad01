-- Which tree under evaluation an expression stands for.
--     viewed see types locks items      items of a row, as those of a postfix list
--     Stands see types row locks run      a row with these locks stands for a tree
--     Lacks see types row locks hole      a row stands for a tree with a part left out at the place
use Rattle.std.specs.Prelude.{◌≡◌, List, [], ◌∷◌, ◌++◌, take, drop, length}
use Rattle.dm_type.specs.Tables.{Table}
use Rattle.dm_meaning.specs.Running.{Run, Hole, filled_in}
use Rattle.dm_row.specs.declared.item.Item.{Item}
use Rattle.dm_row.specs.declared.item.Item.TheVariants.{Done, Waits}
use Rattle.dm_row.specs.Counts.{weight_in}
use Rattle.dm_postfix.specs.Postfix as postfix
use Rattle.dm_postfix.specs.Postfix.{arity, items, hole_of}
use Rattle.dm_expression.specs.declared.waiting.Waiting.{Waiting}
use Rattle.dm_expression.specs.Waiting.{view_of_waiting}

-- `see` says what a result with its locks stands for
abbrev pub viewed : {R L : Type 0} → (R → List L → postfix.Evaluated) → Table → List L → List (Item R Waiting) → List postfix.Item
viewed see types locks [] = []
viewed see types locks (Done result weight ∷ rest) = postfix.evaluated (see result (take weight locks)) ∷ viewed see types (drop weight locks) rest
viewed see types locks (Waits one operands ∷ rest) = postfix.waiting (view_of_waiting types one) ∷ viewed see types locks rest

-- with each node stands the number of its operands
abbrev pub AreSized : {R : Type 0} → Table → List (Item R Waiting) → Type 0
AreSized types [] = Unit {0}
AreSized types (Done result weight ∷ rest) = AreSized types rest
AreSized types (Waits one operands ∷ rest) = (operands ≡ arity (view_of_waiting types one).slots) × AreSized types rest

pub record Stands {R L : Type 0} (see : R → List L → postfix.Evaluated) (types : Table) (row : List (Item R Waiting) × List (Item R Waiting)) (locks : List L) (run : Run) : Type 0 where
  pub same : viewed see types locks (row.0 ++ row.1) ≡ items run
  pub sized : AreSized types (row.0 ++ row.1)
  pub weighed : weight_in (row.0 ++ row.1) ≡ length locks

-- The locks in front of the place and behind it are those of the items there, and whatever is put at the place is put into the tree.
pub record Lacks {R L : Type 0} (see : R → List L → postfix.Evaluated) (types : Table) (row : List (Item R Waiting) × List (Item R Waiting)) (first last : List L) (hole : Hole) : Type 0 where
  pub first_weighed : length first ≡ weight_in row.0
  pub last_weighed : length last ≡ weight_in row.1
  pub sized_first : AreSized types row.0
  pub sized_last : AreSized types row.1
  pub is : hole ≡ hole_of (viewed see types first row.0) (viewed see types last row.1)
  pub fills : (other : Run) → items (filled_in hole other) ≡ viewed see types first row.0 ++ (items other ++ viewed see types last row.1)
