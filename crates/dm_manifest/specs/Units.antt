-- The units that a JSON value stands for, or its first fault.
use Rattle.std.specs.Prelude.{◌≡◌, ℕ, Bool, true, ◌&&◌, ◌||◌, not, nat_lt, List, [], ◌∷◌, length, Some, Result, Ok, Err, codes, bytes_eq, if◌then◌else◌}
use Rattle.std.specs.List.{list_any, list_all}
use Rattle.std.specs.Cmp.Lexicographic.{pointwise}
use Rattle.serde_json.specs.Data.{Data, Items}
use Rattle.serde_json.specs.Find.{get}
use Rattle.serde_json.specs.Events.{items_len}
use Rattle.dm_token.specs.declared.unit.Unit.{Unit as Source}
use Rattle.dm_token.specs.Limits.{most_units}
use Rattle.dm_token.specs.Names.{is_normal_name}
use Rattle.dm_manifest.specs.declared.fault.ManifestFault.{ManifestFault}
use Rattle.dm_manifest.specs.declared.fault.ManifestFault.TheVariants.{Define, Twice, TooMany}
use Rattle.dm_manifest.specs.Faults.{and_then}
use Rattle.dm_manifest.specs.Paths.{root_path, unit_path, under, item_path}
use Rattle.dm_manifest.specs.Values.{object_at, array_at, list_at, text_at, name_at, each_of}
use Rattle.dm_macro.specs.Signs.{is_fixed}
use Rattle.dm_manifest.specs.Defines.{name_of, is_define}

-- an include folder: a normal name, or the current folder
abbrev pub is_folder : List ℕ → Bool
is_folder name = is_normal_name name || bytes_eq name (codes ".")

-- the include folder that is the next item of the list at a path
unfoldable pub folder_at : List ℕ → List (List ℕ) → Data → Result (List ℕ) ManifestFault
folder_at path before value = name_at is_folder (item_path path (length before)) (Some value)

-- whether one of these defines has the name
unfoldable pub is_defined : List (List ℕ) → List ℕ → Bool
is_defined defines name = list_any (λ define. bytes_eq name (name_of define)) defines

-- the define that is the next item of the list at a path: it has the form, and its name can be defined and is new
unfoldable pub define_at : List ℕ → List (List ℕ) → Data → Result (List ℕ) ManifestFault
define_at path before value =
    and_then (text_at (item_path path (length before)) (Some value)) (λ define.
    if is_define define && not (is_fixed (name_of define)) && not (is_defined before (name_of define)) then Ok define
    else Err (Define (item_path path (length before))))

-- The unit that a value at a path stands for, or the first fault: of its type, of a key that isn't known, of `file`,
-- of `include` and of `define`.
unfoldable pub unit_at : List ℕ → Data → Result Source ManifestFault
unit_at path value =
    and_then (object_at path (under path) (codes "file" ∷ codes "include" ∷ codes "define" ∷ []) value) (λ _.
    and_then (name_at is_normal_name (under path (codes "file")) (get (codes "file") value)) (λ file.
    and_then (list_at (under path (codes "include")) (get (codes "include") value)) (λ folders.
    and_then (each_of (folder_at (under path (codes "include"))) [] folders) (λ include.
    and_then (list_at (under path (codes "define")) (get (codes "define") value)) (λ defines.
    and_then (each_of (define_at (under path (codes "define"))) [] defines) (λ define.
    Ok (record { file = file; include = include; define = define })))))))

-- whether two units are equal in all three parts
abbrev pub is_same_unit : Source → Source → Bool
is_same_unit a b = bytes_eq a.file b.file && (pointwise bytes_eq a.include b.include && pointwise bytes_eq a.define b.define)

-- the next unit, which equals none before it
unfoldable pub new_unit_at : List Source → Data → Result Source ManifestFault
new_unit_at before value =
    and_then (unit_at (unit_path (length before)) value) (λ unit.
    if list_any (λ other. is_same_unit other unit) before then Err (Twice (unit_path (length before))) else Ok unit)

-- the units of a list, if they are not too many
unfoldable pub units_of : Items → Result (List Source) ManifestFault
units_of values = if nat_lt most_units (items_len values) then Err TooMany else each_of new_unit_at [] values

-- The units of a manifest, or the first fault: of the value's type, of a key that isn't known, of `units`, of the
-- number of units, and then unit by unit.
unfoldable pub manifest_of : Data → Result (List Source) ManifestFault
manifest_of root =
    and_then (object_at root_path (λ key. key) (codes "units" ∷ []) root) (λ _.
    and_then (array_at (codes "units") (get (codes "units") root)) units_of)

-- the unit of a C file alone
abbrev pub alone : List ℕ → Source
alone file = record { file = file; include = []; define = [] }

-- whether a text is a define of a name that can be defined
abbrev pub is_definable : List ℕ → Bool
is_definable define = is_define define && not (is_fixed (name_of define))

-- whether no name is defined twice
unfoldable pub are_distinct : List (List ℕ) → Bool
are_distinct [] = true
are_distinct (define ∷ defines) = not (is_defined defines (name_of define)) && are_distinct defines

-- what holds of each unit of a manifest
pub record IsLawful (unit : Source) : Type 0 where
  pub file : is_normal_name unit.file ≡ true
  pub include : list_all is_folder unit.include ≡ true
  pub define : list_all is_definable unit.define ≡ true
  pub distinct : are_distinct unit.define ≡ true
