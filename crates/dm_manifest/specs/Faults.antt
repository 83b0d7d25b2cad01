-- How the answers of tests follow one another.
use Rattle.std.specs.Prelude.{◌≡◌, Result, Ok, Err}
use Rattle.dm_manifest.specs.declared.fault.ManifestFault.{ManifestFault}
use Rattle.dm_manifest.specs.declared.fault.ManifestFault.TheVariants.{Memory, Json, Shape, Name, Define, Twice, TooMany}

-- what comes next, unless there was a fault before it
abbrev pub and_then : {A B : Type 0} → Result A ManifestFault → (A → Result B ManifestFault) → Result B ManifestFault
and_then (Ok x) next = next x
and_then (Err fault) next = Err fault

-- A fault is the one that is meant, or want of memory. No value is refused as no JSON.
abbrev pub IsMeant : {B : Type 0} → ManifestFault → Result B ManifestFault → Type 0
IsMeant Memory meant = Unit {0}
IsMeant Json meant = ⊥
IsMeant (Shape path) meant = meant ≡ Err (Shape path)
IsMeant (Name path) meant = meant ≡ Err (Name path)
IsMeant (Define path) meant = meant ≡ Err (Define path)
IsMeant (Twice path) meant = meant ≡ Err (Twice path)
IsMeant TooMany meant = meant ≡ Err TooMany

-- What a call gives, seen by view, is what is meant, unless memory ran out.
abbrev pub Gives : {A B : Type 0} → (A → B) → Result A ManifestFault → Result B ManifestFault → Type 0
Gives view (Ok x) meant = meant ≡ Ok (view x)
Gives view (Err fault) meant = IsMeant fault meant
