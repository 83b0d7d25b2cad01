-- Lists that begin alike.
use Rattle.std.specs.Prelude.{◌≡◌, List, ◌++◌}

-- one list is how another begins
abbrev pub IsPrefix : {A : Type 0} → List A → List A → Type 0
IsPrefix {A} prefix whole = (rest : List A) × (whole ≡ prefix ++ rest)

-- both lists begin so, and each beginning that they share is a beginning of this one
abbrev pub IsLongestCommonPrefix : {A : Type 0} → List A → List A → List A → Type 0
IsLongestCommonPrefix {A} left right common =
    IsPrefix common left × IsPrefix common right × ((shared : List A) → IsPrefix shared left → IsPrefix shared right → IsPrefix shared common)
