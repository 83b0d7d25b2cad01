-- The search for a file by several names, one after another.
use Rattle.std.specs.Prelude.{◌≡◌, ℕ, ◌⊎◌, true, false, List, [], ◌∷◌, Option, Some, None, Result, Ok, Err}
use Rattle.dm_token.specs.declared.stop.Stop.{Stop}
use Rattle.dm_token.specs.declared.stop.Stop.TheVariants.{Memory}
use Rattle.dm_io.specs.Files.{Files}
use Rattle.dm_search.specs.Loaded.{Loaded, number_of, is_held, is_absent, with_name, without_file}
use Rattle.dm_search.specs.Loading.{HasNoFile, StopsLoading, Loads}

-- nothing is known of the file of a name
abbrev pub IsUnknown : Loaded → List ℕ → Type 0
IsUnknown loaded name = (is_held loaded (number_of loaded name) ≡ false) × (is_absent loaded name ≡ false)

-- the file of a name is known to be absent
abbrev pub IsKnownAbsent : Loaded → List ℕ → Type 0
IsKnownAbsent loaded name = (is_held loaded (number_of loaded name) ≡ false) × (is_absent loaded name ≡ true)

-- The search passes over a name that has no file, which is known then.
abbrev pub PassesOver : Option Files → List ℕ → Loaded → Loaded → Type 0
PassesOver told name old new =
    (IsKnownAbsent old name × (new ≡ old)) ⊎ (IsUnknown old name × HasNoFile told name × (new ≡ without_file old name))

-- The search ends at a name: its file is held or is loaded, or its loading stops. Only then a name gets a number.
abbrev pub EndsAt : Option Files → List ℕ → Loaded → Result (Option ℕ) Stop → Loaded → Type 0
EndsAt told name old (Ok None) new = ⊥
EndsAt told name old (Ok (Some number)) new =
    (number ≡ number_of old name)
    × (((is_held old number ≡ true) × (new ≡ old)) ⊎ (IsUnknown old name × Loads told name (with_name old name) number (Ok true) new))
EndsAt told name old (Err stop) new =
    ((stop ≡ Memory) × ((new ≡ old) ⊎ (new ≡ with_name old name)))
    ⊎ (IsUnknown old name × StopsLoading told name (with_name old name) (number_of old name) stop × (new ≡ with_name old name))

-- The search goes on from name to name while there is no file, and behind the last it finds the built-in header, if any.
unfoldable pub Finds : Option Files → Option ℕ → List (List ℕ) → Loaded → Result (Option ℕ) Stop → Loaded → Type 0
Finds told header [] old result new = (result ≡ Ok header) × (new ≡ old)
Finds told header (name ∷ names) old result new =
    EndsAt told name old result new ⊎ ((next : Loaded) × PassesOver told name old next × Finds told header names next result new)

-- the search needs no reading: it passes over names that are known to have no file, up to one that is held or to the end
abbrev pub IsSettled : List (List ℕ) → Loaded → Type 0
IsSettled [] loaded = Unit {0}
IsSettled (name ∷ names) loaded = (is_held loaded (number_of loaded name) ≡ true) ⊎ (IsKnownAbsent loaded name × IsSettled names loaded)

-- The search looks at one name: it passes over it, or ends there.
abbrev pub Seeks : Option Files → List ℕ → Loaded → Result (Option ℕ) Stop → Loaded → Type 0
Seeks told name old (Ok None) new = PassesOver told name old new
Seeks told name old (Ok (Some number)) new = EndsAt told name old (Ok (Some number)) new
Seeks told name old (Err stop) new = EndsAt told name old (Err stop) new
