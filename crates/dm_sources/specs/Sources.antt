-- Projects: the units that the word M stands for, and the unit of a main file.
--     IsProject told project units      the word stands for these units
--     HasUnit told project file unit      the first of them with this main file
--     HasNoSources, HasNoUnit      why there are none, or not this one
use Rattle.std.specs.Prelude.{◌≡◌, ◌≤◌, ◌⊎◌, ℕ, Bool, true, false, List, [], ◌∷◌, length, Option, Some, None, find, bytes_eq, nat_eq, codes, All}
use Rattle.std.specs.List.{ends_with}
use Rattle.dm_token.specs.declared.unit.Unit.{Unit as Source}
use Rattle.dm_token.specs.Names.{is_normal_name}
use Rattle.dm_token.specs.Limits.{source_length_limit}
use Rattle.dm_manifest.specs.declared.fault.ManifestFault.{ManifestFault}
use Rattle.dm_manifest.specs.declared.fault.ManifestFault.TheVariants.{Memory, Json, Shape, Name, Define, Twice, TooMany}
use Rattle.dm_manifest.specs.Answers.{IsManifest, IsFirstFault}
use Rattle.dm_manifest.specs.Units.{IsLawful, alone}
use Rattle.dm_io.specs.Files.{Files}
use Rattle.dm_io.specs.Faults.{Rose}
use Rattle.dm_lines.specs.Outside.{HasText, IsAbsent, IsTooLong}
use Rattle.dm_sources.specs.declared.project.Sources.{Sources}
use Rattle.dm_sources.specs.declared.project.Sources.TheVariants as sources
use Rattle.dm_sources.specs.declared.project.NoSources.{NoSources}
use Rattle.dm_sources.specs.declared.project.NoSources.TheVariants.{ProjectName, NoManifest, TooLong, ReadFault, Manifest}
use Rattle.dm_sources.specs.declared.finding.Sought.{Sought}
use Rattle.dm_sources.specs.declared.finding.Sought.TheVariants.{Found, Missing}
use Rattle.dm_sources.specs.declared.finding.NoUnit.{NoUnit}
use Rattle.dm_sources.specs.declared.finding.NoUnit.TheVariants.{Unfound, Unlisted}

-- a name that ends in `.c`
abbrev pub is_c_file : List ℕ → Bool
is_c_file name = ends_with nat_eq name (codes ".c")

-- a word that names a C file
abbrev pub NamesFile : List ℕ → Type 0
NamesFile project = (is_normal_name project ≡ true) × (is_c_file project ≡ true)

-- a word that names a manifest
abbrev pub NamesManifest : List ℕ → Type 0
NamesManifest project = (is_normal_name project ≡ true) × (is_c_file project ≡ false)

-- a word that names a manifest with these bytes, which are not too many
abbrev pub HasManifest : Option Files → List ℕ → List ℕ → Type 0
HasManifest told project bytes = NamesManifest project × HasText told project bytes × (length bytes ≤ source_length_limit)

-- a word that stands for these units: it names a C file, which is the one unit, or a manifest of them
abbrev pub IsProject : Option Files → List ℕ → List Source → Type 0
IsProject told project units =
    (NamesFile project × (units ≡ alone project ∷ [])) ⊎ ((bytes : List ℕ) × HasManifest told project bytes × IsManifest bytes units)

-- the first unit with this main file
abbrev pub unit_named : List ℕ → List Source → Option Source
unit_named file units = find (λ unit. bytes_eq unit.file file) units

-- a project has this unit, which is the first with its main file
abbrev pub HasUnit : Option Files → List ℕ → List ℕ → Source → Type 0
HasUnit told project file unit = (units : List Source) × IsProject told project units × (unit_named file units ≡ Some unit)

-- the first fault of a manifest, want of memory apart
abbrev pub IsManifestFault : List ℕ → ManifestFault → Type 0
IsManifestFault bytes Memory = ⊥
IsManifestFault bytes Json = IsFirstFault bytes Json
IsManifestFault bytes (Shape path) = IsFirstFault bytes (Shape path)
IsManifestFault bytes (Name path) = IsFirstFault bytes (Name path)
IsManifestFault bytes (Define path) = IsFirstFault bytes (Define path)
IsManifestFault bytes (Twice path) = IsFirstFault bytes (Twice path)
IsManifestFault bytes TooMany = IsFirstFault bytes TooMany

-- why there are no units, between two counts of the folder's faults
abbrev pub HasNoSources : Option Files → List ℕ → ℕ → ℕ → NoSources → Type 0
HasNoSources told project before after ProjectName = is_normal_name project ≡ false
HasNoSources told project before after NoManifest = NamesManifest project × IsAbsent told project
HasNoSources told project before after TooLong = NamesManifest project × IsTooLong told project
HasNoSources told project before after ReadFault = NamesManifest project × Rose before after
HasNoSources told project before after (Manifest fault) = (bytes : List ℕ) × HasManifest told project bytes × IsManifestFault bytes fault

-- why there is no unit with this main file
abbrev pub HasNoUnit : Option Files → List ℕ → List ℕ → ℕ → ℕ → NoUnit → Type 0
HasNoUnit told project file before after (Unfound why) = HasNoSources told project before after why
HasNoUnit told project file before after Unlisted = (units : List Source) × IsProject told project units × (unit_named file units ≡ None)

-- what is found of a project's units
abbrev pub AreSought : Option Files → List ℕ → ℕ → ℕ → Sources → Type 0
AreSought told project before after (sources.Found units) = IsProject told project units
AreSought told project before after (sources.Missing why) = HasNoSources told project before after why

-- units that are found are lawful
abbrev pub AreLawful : Sources → Type 0
AreLawful (sources.Found units) = All IsLawful units
AreLawful (sources.Missing why) = Unit {0}

-- no define of a unit is longer than a file
abbrev pub HasShortDefines : Source → Type 0
HasShortDefines unit = All (λ (define : List ℕ). length define ≤ source_length_limit) unit.define

abbrev pub AreShort : Sources → Type 0
AreShort (sources.Found units) = All HasShortDefines units
AreShort (sources.Missing why) = Unit {0}

abbrev pub IsShortUnit : Sought → Type 0
IsShortUnit (Found unit) = HasShortDefines unit
IsShortUnit (Missing why) = Unit {0}

-- what is found in a manifest
abbrev pub ManifestGives : List ℕ → Sources → Type 0
ManifestGives bytes (sources.Found units) = IsManifest bytes units
ManifestGives bytes (sources.Missing (Manifest fault)) = IsManifestFault bytes fault
ManifestGives bytes (sources.Missing why) = ⊥

-- what is found of a unit
abbrev pub IsSought : Option Files → List ℕ → List ℕ → ℕ → ℕ → Sought → Type 0
IsSought told project file before after (Found unit) = HasUnit told project file unit
IsSought told project file before after (Missing why) = HasNoUnit told project file before after why

-- a unit that is found is lawful
abbrev pub IsLawfulUnit : Sought → Type 0
IsLawfulUnit (Found unit) = IsLawful unit
IsLawfulUnit (Missing why) = Unit {0}

-- what is found among units
abbrev pub ListGives : List Source → List ℕ → Sought → Type 0
ListGives units file (Found unit) = unit_named file units ≡ Some unit
ListGives units file (Missing Unlisted) = unit_named file units ≡ None
ListGives units file (Missing (Unfound why)) = ⊥
