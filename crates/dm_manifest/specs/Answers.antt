-- What the bytes of a manifest stand for.
use Rattle.std.specs.Prelude.{◌≡◌, ℕ, List, Some, None, Ok, Err, IsUtf8}
use Rattle.serde_json.specs.Data.{Data}
use Rattle.serde_json.specs.Read.{read}
use Rattle.dm_token.specs.declared.unit.Unit.{Unit as Source}
use Rattle.dm_manifest.specs.declared.fault.ManifestFault.{ManifestFault}
use Rattle.dm_manifest.specs.declared.fault.ManifestFault.TheVariants.{Memory, Json, Shape, Name, Define, Twice, TooMany}
use Rattle.dm_manifest.specs.Units.{manifest_of}

-- These bytes are the JSON text of a value.
pub record IsJson (bytes : List ℕ) (value : Data) : Type 0 where
  pub utf8 : IsUtf8 bytes
  pub is : read bytes ≡ Some value

-- These bytes are the JSON text of no value.
abbrev pub IsNoJson : List ℕ → Type 0
IsNoJson bytes = IsUtf8 bytes → read bytes ≡ None

-- These bytes are a manifest of these units.
abbrev pub IsManifest : List ℕ → List Source → Type 0
IsManifest bytes units = (root : Data) × IsJson bytes root × (manifest_of root ≡ Ok units)

-- These bytes are JSON, and this is the first fault of the value.
abbrev pub HasFault : List ℕ → ManifestFault → Type 0
HasFault bytes fault = (root : Data) × IsJson bytes root × (manifest_of root ≡ Err fault)

-- This is the first fault of a manifest, or memory ran out.
abbrev pub IsFirstFault : List ℕ → ManifestFault → Type 0
IsFirstFault bytes Memory = Unit {0}
IsFirstFault bytes Json = IsNoJson bytes
IsFirstFault bytes (Shape path) = HasFault bytes (Shape path)
IsFirstFault bytes (Name path) = HasFault bytes (Name path)
IsFirstFault bytes (Define path) = HasFault bytes (Define path)
IsFirstFault bytes (Twice path) = HasFault bytes (Twice path)
IsFirstFault bytes TooMany = HasFault bytes TooMany
