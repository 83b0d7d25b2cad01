-- The names that a search looks for: a folder's name and a header's, joined and made normal.
use Rattle.std.specs.Prelude.{◌≡◌, ℕ, Bool, true, false, List, [], ◌∷◌, ◌++◌, length, take, Option, Some, None, option_and_then, codes, bytes_eq, ◌==◌, if◌then◌else◌}
use Rattle.std.specs.List.{slice_split, join_with_byte, filter_map}
use Rattle.dm_token.specs.Bytes.{slash}
use Rattle.dm_token.specs.Names.{is_normal_name}

-- whether a byte stands between the parts of a name
abbrev pub is_slash : ℕ → Bool
is_slash byte = byte == slash

-- the parts of a name
abbrev pub parts_of : List ℕ → List (List ℕ)
parts_of name = slice_split is_slash name

-- the parts without the last, if there is one
unfoldable pub parent_of : List (List ℕ) → Option (List (List ℕ))
parent_of [] = None
parent_of (part ∷ parts) = Some (take (length parts) (part ∷ parts))

-- the parts after one more: `.` stays, `..` takes the part before it away, and any other part goes last
unfoldable pub entered : List (List ℕ) → List ℕ → Option (List (List ℕ))
entered parts part =
    if bytes_eq part (codes ".") then Some parts
    else if bytes_eq part (codes "..") then parent_of parts
    else Some (parts ++ part ∷ [])

-- the parts after several more, unless a `..` has no part before it
unfoldable pub walked : List (List ℕ) → List (List ℕ) → Option (List (List ℕ))
walked [] parts = Some parts
walked (part ∷ others) parts = option_and_then (walked others) (entered parts part)

-- a name, if it is normal
abbrev pub if_normal : List ℕ → Option (List ℕ)
if_normal name = if is_normal_name name then Some name else None

-- the parts, joined, if that is a normal name
abbrev pub named : List (List ℕ) → Option (List ℕ)
named parts = if_normal (join_with_byte slash parts)

-- The normal name of what a name leads to from a folder, if it has one. The folder is a normal name or `.`.
unfoldable pub joined : List ℕ → List ℕ → Option (List ℕ)
joined folder name = option_and_then named (walked (parts_of folder ++ parts_of name) [])

-- the folder of a file, as a path: one step up from the file
abbrev pub folder_of : List ℕ → List ℕ
folder_of file = file ++ codes "/.."

-- The folders where a search looks, in order: for a quoted name that of the including file, and then the include folders.
abbrev pub places : List ℕ → Bool → List (List ℕ) → List (List ℕ)
places from quoted include = if quoted then folder_of from ∷ include else include

-- the names that a search looks for in the folder, in order
abbrev pub candidates : List ℕ → List (List ℕ) → List (List ℕ)
candidates name folders = filter_map (λ folder. joined folder name) folders

-- whether a walk stayed inside, and the parts that it then left
abbrev pub HasWalked : Bool → List (List ℕ) → Option (List (List ℕ)) → Type 0
HasWalked true parts found = found ≡ Some parts
HasWalked false parts found = found ≡ None
