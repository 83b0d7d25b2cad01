-- What is put of a run: what it has written, and a line that says how it ended.
use Rattle.std.specs.Prelude.{ℕ, List, [], ◌∷◌, ◌++◌, codes, slice_index_or}
use Rattle.std.specs.Fmt.{decimal}
use Rattle.std.specs.List.{concat}
use Rattle.dm_token.specs.declared.place.Place.{Place}
use Rattle.dm_meaning.specs.declared.cause.Cause.{Cause}
use Rattle.dm_meaning.specs.declared.cause.Cause.TheVariants.{Overflow, Division, Shift, Conflict, Null, Bounds, Pointer, Life, Unset, OtherType, Const, NoValue, External}
use Rattle.dm_exec.specs.declared.outcome.Outcome.{Outcome}
use Rattle.dm_exec.specs.declared.outcome.Outcome.TheVariants.{Exited, Undefined, Running}

-- the names of causes
unfoldable pub cause_name : Cause → List ℕ
cause_name Overflow = codes "overflow"
cause_name Division = codes "division"
cause_name Shift = codes "shift"
cause_name Conflict = codes "conflict"
cause_name Null = codes "null"
cause_name Bounds = codes "bounds"
cause_name Pointer = codes "pointer"
cause_name Life = codes "life"
cause_name Unset = codes "unset"
cause_name OtherType = codes "type"
cause_name Const = codes "const"
cause_name NoValue = codes "novalue"
cause_name External = codes "external"

-- a program ended with this status
abbrev pub exit_text : ℕ → List ℕ
exit_text status = concat (codes "[exit " ∷ decimal status ∷ codes "]\n" ∷ [])

-- it has undefined behaviour at a place in the file of this name
abbrev pub undefined_text : List ℕ → Cause → Place → List ℕ
undefined_text file cause place =
    concat (codes "[undefined " ∷ cause_name cause ∷ codes " " ∷ file ∷ codes ":" ∷ decimal place.line ∷ codes ":" ∷ decimal place.column ∷ codes "]\n" ∷ [])

-- it has taken all its steps
abbrev pub steps_text : List ℕ
steps_text = codes "[steps]\n"

-- how it ended, where these are the files' names by number
abbrev pub end_text : List (List ℕ) → Outcome → List ℕ
end_text names (Exited output status) = exit_text status
end_text names (Undefined output cause place) = undefined_text (slice_index_or names place.file []) cause place
end_text names (Running output) = steps_text

abbrev pub output_of : Outcome → List ℕ
output_of (Exited output status) = output
output_of (Undefined output cause place) = output
output_of (Running output) = output

unfoldable pub run_text : List (List ℕ) → Outcome → List ℕ
run_text names outcome = output_of outcome ++ end_text names outcome
