-- Steps of finding a project's units, and the unit of a main file.
use Rattle.std.proofs.Common.{◌≡◌, ◌∙◌, ℕ, zero, suc, Bool, true, false, List, [], ◌∷◌, length, Option, Some, None, Result, Ok, Err, IfOk, All, inl, inr, refl, sym, ap, subst, arith, if◌then◌else◌, nat_lt}
use Rattle.dm_token.specs.declared.unit.Unit.{Unit as Source}
use Rattle.dm_token.specs.declared.stop.Memory.{Memory as NoMemory}
use Rattle.dm_token.specs.Names.{is_normal_name}
use Rattle.dm_io.specs.declared.folder.Got.TheVariants.{Bytes, Long}
use Rattle.dm_io.specs.Files.{Files, file_at}
use Rattle.dm_io.specs.Answers.{IsAnswer, reading_of}
use Rattle.dm_manifest.proofs.Short.{alone-lawful}
use Rattle.dm_manifest.specs.Units.{IsLawful, alone}
use Rattle.dm_lines.specs.Outside.{HasText}
use Rattle.dm_sources.specs.declared.project.Sources.{Sources}
use Rattle.dm_sources.specs.declared.project.Sources.TheVariants as sources
use Rattle.dm_sources.specs.declared.project.NoSources.TheVariants.{ProjectName, NoManifest, TooLong, ReadFault, Manifest}
use Rattle.dm_sources.specs.declared.finding.Sought.{Sought}
use Rattle.dm_sources.specs.declared.finding.Sought.TheVariants.{Found, Missing}
use Rattle.dm_sources.specs.declared.finding.NoUnit.TheVariants.{Unfound, Unlisted}
use Rattle.dm_sources.specs.Sources.{AreSought, HasManifest, IsProject, IsSought, ListGives, ManifestGives, NamesFile}

-- a C file alone is a lawful unit
pub alone-lawful-all : (project : List ℕ) → is_normal_name project ≡ true → All IsLawful (alone project ∷ [])
alone-lawful-all project normal zero d below = alone-lawful project (alone project) refl normal
alone-lawful-all project normal (suc k) d below = absurd (omega arith)

-- what a reading gives is the text of the file
pub HasText-answer : (told : Option Files) (name bytes : List ℕ) (most : ℕ) → IsAnswer told name most (Bytes bytes) → HasText told name bytes
HasText-answer None name bytes most answer = tt
HasText-answer (Some files) name bytes most answer = at (file_at files name) answer
  where
    told : (found : List ℕ) (long : Bool) → Bytes bytes ≡ (if long then Long else Bytes found) → Some found ≡ Some bytes
    told found true is = absurd (cc)
    told found false is = cc

    at : (found : Option (List ℕ)) → Bytes bytes ≡ reading_of found most → found ≡ Some bytes
    at None is = absurd (cc)
    at (Some found) is = told found (nat_lt most (length found)) is

-- the unit of a C file alone is found
pub sought-alone : (told : Option Files) (project : List ℕ) (before after : ℕ) (result : Result Sources NoMemory) → NamesFile project
    → IfOk result (λ sought. sought ≡ sources.Found (alone project ∷ [])) → IfOk result (AreSought told project before after)
sought-alone told project before after (Err error) names gives = tt
sought-alone told project before after (Ok found) names gives = subst (AreSought told project before after) (sym gives) (inl (names, refl))

-- what is found in a manifest
of_manifest : (told : Option Files) (project bytes : List ℕ) (before after : ℕ) (found : Sources) → HasManifest told project bytes → ManifestGives bytes found → AreSought told project before after found
of_manifest told project bytes before after (sources.Found units) has gives = inr (bytes, has, gives)
of_manifest told project bytes before after (sources.Missing (Manifest fault)) has gives = (bytes, has, gives)
of_manifest told project bytes before after (sources.Missing ProjectName) has gives = absurd gives
of_manifest told project bytes before after (sources.Missing NoManifest) has gives = absurd gives
of_manifest told project bytes before after (sources.Missing TooLong) has gives = absurd gives
of_manifest told project bytes before after (sources.Missing ReadFault) has gives = absurd gives

pub sought-manifest : (told : Option Files) (project bytes : List ℕ) (before after : ℕ) (result : Result Sources NoMemory) → HasManifest told project bytes → IfOk result (ManifestGives bytes)
    → IfOk result (AreSought told project before after)
sought-manifest told project bytes before after (Err error) has gives = tt
sought-manifest told project bytes before after (Ok found) has gives = of_manifest told project bytes before after found has gives

-- what is found of a unit in units that are the project's
pub of_units : (told : Option Files) (project file : List ℕ) (before after : ℕ) (units : List Source) (sought : Sought) → IsProject told project units → ListGives units file sought
    → IsSought told project file before after sought
of_units told project file before after units (Found unit) is found = (units, is, found)
of_units told project file before after units (Missing Unlisted) is none = (units, is, none)
of_units told project file before after units (Missing (Unfound why)) is none = absurd none
