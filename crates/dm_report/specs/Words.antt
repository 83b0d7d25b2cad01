-- Words and names in a report.
use Rattle.std.specs.Prelude.{ℕ, List, [], codes, slice_index_or}
use Rattle.dm_edit.specs.declared.change.As.{As}
use Rattle.dm_edit.specs.declared.change.As.TheVariants.{Function, Enumerator, Constant}

-- the kind of declaration that a macro becomes
abbrev pub kind_word : As → List ℕ
kind_word Function = codes "function"
kind_word Enumerator = codes "enumerator"
kind_word Constant = codes "constant"

-- the name of the file of a number, which is empty where there is none
abbrev pub file_name : List (List ℕ) → ℕ → List ℕ
file_name names file = slice_index_or names file []
