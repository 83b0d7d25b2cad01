-- The paths of the values in a manifest.
use Rattle.std.specs.Prelude.{ℕ, List, ◌++◌, codes, decimal}

-- the path of the whole value
unfoldable pub root_path : List ℕ
root_path = codes "/"

-- the path of the unit with this number, counted from 0
unfoldable pub unit_path : ℕ → List ℕ
unit_path number = codes "units/" ++ decimal number

-- the path of the value at a key of the object at a path
unfoldable pub under : List ℕ → List ℕ → List ℕ
under path key = path ++ (codes "/" ++ key)

-- the path of the item with this number of the list at a path
unfoldable pub item_path : List ℕ → ℕ → List ℕ
item_path path number = under path (decimal number)
