-- The lines that say why there is no output.
use Rattle.std.specs.Prelude.{ℕ, ◌==◌, List, [], ◌∷◌, codes, slice_index_or, if◌then◌else◌}
use Rattle.std.specs.Fmt.{decimal}
use Rattle.std.specs.List.{concat}
use Rattle.dm_token.specs.Refusals as refusals
use Rattle.dm_token.specs.declared.stop.Refusal.{Refusal}

-- the names of refusals by their numbers, of which 0 is none
abbrev pub refusal_names : List (List ℕ)
refusal_names =
    []
    ∷ codes "Byte"
    ∷ codes "Comment"
    ∷ codes "Literal"
    ∷ codes "Directive"
    ∷ codes "Form"
    ∷ codes "Conditionals"
    ∷ codes "NotFound"
    ∷ codes "Splice"
    ∷ codes "Arguments"
    ∷ codes "Paste"
    ∷ codes "HashOperand"
    ∷ codes "Redefinition"
    ∷ codes "Condition"
    ∷ codes "Error"
    ∷ codes "Constant"
    ∷ codes "Syntax"
    ∷ codes "Type"
    ∷ codes "OutOfSubset"
    ∷ codes "NoMain"
    ∷ []

unfoldable pub refusal_name : ℕ → List ℕ
refusal_name number = slice_index_or refusal_names number []

-- the typing rule that is broken, which a refusal for it names
abbrev pub rule_named : ℕ → ℕ → List ℕ
rule_named number detail = if number == refusals.typing then concat (codes " C" ∷ decimal detail ∷ []) else []

-- a refusal of the file of this name
abbrev pub refusal_line : List ℕ → Refusal → List ℕ
refusal_line file refusal =
    concat
    (file ∷ codes ":" ∷ decimal refusal.place.line ∷ codes ":" ∷ decimal refusal.place.column ∷ codes ": refusal " ∷ decimal refusal.number ∷ codes " "
    ∷ refusal_name refusal.number ∷ rule_named refusal.number refusal.detail ∷ codes "\n" ∷ [])

-- a limit that is passed, and the file that is named beside it
abbrev pub limit_line : ℕ → List ℕ → List ℕ
limit_line number file = concat (codes "limit L" ∷ decimal number ∷ codes " " ∷ file ∷ codes "\n" ∷ [])

-- a fault of a manifest, and the path at which it is
abbrev pub manifest_line : ℕ → List ℕ → List ℕ
manifest_line number path = concat (codes "manifest M" ∷ decimal number ∷ codes " " ∷ path ∷ codes "\n" ∷ [])

-- a file that can't be read
abbrev pub read_fault_line : List ℕ → List ℕ
read_fault_line file = concat (codes "read fault " ∷ file ∷ codes "\n" ∷ [])

-- a file that can't be written
abbrev pub write_fault_line : List ℕ → List ℕ
write_fault_line file = concat (codes "write fault " ∷ file ∷ codes "\n" ∷ [])
