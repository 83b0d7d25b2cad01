-- The tests of a single value: its type, its keys, and the form of a name.
use Rattle.std.specs.Prelude.{ℕ, Bool, not, List, [], ◌∷◌, ◌++◌, Option, Some, None, option_and_then, Result, Ok, Err, filter, bytes_eq, if◌then◌else◌}
use Rattle.std.specs.List.{list_any}
use Rattle.std.specs.Option.{ok_or}
use Rattle.std.specs.Ordering.{nat_cmp, match_ordering}
use Rattle.std.specs.Cmp.Lexicographic.{slice_cmp}
use Rattle.serde_json.specs.Data.{Data, Items, no_items, item, Members, no_members, member}
use Rattle.serde_json.specs.Find.{as_object, as_array, as_str}
use Rattle.dm_manifest.specs.declared.fault.ManifestFault.{ManifestFault}
use Rattle.dm_manifest.specs.declared.fault.ManifestFault.TheVariants.{Shape, Name}
use Rattle.dm_manifest.specs.Faults.{and_then}

-- the keys of an object
unfoldable pub keys_of : Members → List (List ℕ)
keys_of no_members = []
keys_of (member key value members) = key ∷ keys_of members

-- the lesser of a key and perhaps another, in the order of their bytes
abbrev pub lesser : List ℕ → Option (List ℕ) → List ℕ
lesser key None = key
lesser key (Some other) = match_ordering (slice_cmp nat_cmp key other) key key other

-- the least of keys
unfoldable pub least : List (List ℕ) → Option (List ℕ)
least [] = None
least (key ∷ keys) = Some (lesser key (least keys))

-- whether a key is among those that are known
abbrev pub is_known : List (List ℕ) → List ℕ → Bool
is_known known key = list_any (λ other. bytes_eq other key) known

-- the least key of an object that isn't known
unfoldable pub unknown_key : List (List ℕ) → Members → Option (List ℕ)
unknown_key known members = least (filter (λ key. not (is_known known key)) (keys_of members))

-- no fault where there is no unknown key, and else the fault of its value, whose path `below` gives
abbrev pub no_other_key : (List ℕ → List ℕ) → Option (List ℕ) → Result ℕ ManifestFault
no_other_key below None = Ok 0
no_other_key below (Some key) = Err (Shape (below key))

-- The test of a value that has to be an object with known keys alone: its type comes first, and then its keys.
abbrev pub object_at : List ℕ → (List ℕ → List ℕ) → List (List ℕ) → Data → Result ℕ ManifestFault
object_at path below known value =
    and_then (ok_or (as_object value) (Shape path)) (λ members. no_other_key below (unknown_key known members))

-- The value at a key that has to be there and to be a list.
abbrev pub array_at : List ℕ → Option Data → Result Items ManifestFault
array_at path value = ok_or (option_and_then as_array value) (Shape path)

-- The same where the key may be absent: the list is empty then.
abbrev pub list_at : List ℕ → Option Data → Result Items ManifestFault
list_at path None = Ok no_items
list_at path (Some value) = array_at path (Some value)

-- A value that has to be there and to be a string.
abbrev pub text_at : List ℕ → Option Data → Result (List ℕ) ManifestFault
text_at path value = ok_or (option_and_then as_str value) (Shape path)

-- A string that passes a test, or the fault of a name.
abbrev pub name_at : (List ℕ → Bool) → List ℕ → Option Data → Result (List ℕ) ManifestFault
name_at test path value = and_then (text_at path value) (λ name. if test name then Ok name else Err (Name path))

-- The items of a list, from left to right: `read` answers for each of them, and sees what was read before it.
unfoldable pub each_of : {A : Type 0} → (List A → Data → Result A ManifestFault) → List A → Items → Result (List A) ManifestFault
each_of read before no_items = Ok before
each_of read before (item value values) = and_then (read before value) (λ x. each_of read (before ++ x ∷ []) values)
