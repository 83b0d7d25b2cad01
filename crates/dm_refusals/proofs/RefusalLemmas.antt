-- The defines of a project's units, and the loader with which each command begins.
use Rattle.std.proofs.Common.{◌≡◌, ℕ, zero, suc, ◌<◌, Bool, true, false, cond, inl, inr, List, [], ◌∷◌, Option, Some, Ok, bytes_eq, refl, sym, subst, arith}
use Rattle.std.specs.Prelude.{All}
use Rattle.std.specs.List.{AllByRecursion}
use Rattle.dm_token.specs.Limits.{header_count}
use Rattle.dm_token.specs.declared.unit.Unit.{Unit as Source}
use Rattle.dm_io.specs.Files.{Files}
use Rattle.dm_manifest.specs.Units.{IsLawful}
use Rattle.dm_manifest.proofs.Lawful.{answer_lawful}
use Rattle.dm_search.specs.Fresh.{fresh, StartsWithHeaders}
use Rattle.dm_search.specs.Loaded.{Loaded, is_held}
use Rattle.dm_sources.specs.Sources.{IsProject, unit_named}
use Rattle.dm_unit.specs.Units.{setting_of}
use Rattle.dm_defines.specs.Readable.{IsText, HasReadableDefines}
use Rattle.dm_places.specs.Places.{CanBeRead}

-- a fresh loader begins with the built-in headers
pub fresh-starts : StartsWithHeaders fresh
fresh-starts = (([], refl), λ file inside. by file inside)
  where
    by : (file : ℕ) → file < header_count → is_held fresh file ≡ true
    by zero inside = refl
    by (suc zero) inside = refl
    by (suc (suc zero)) inside = refl
    by (suc (suc (suc zero))) inside = refl
    by (suc (suc (suc (suc zero)))) inside = refl
    by (suc (suc (suc (suc (suc zero))))) inside = refl
    by (suc (suc (suc (suc (suc (suc file)))))) inside = absurd (omega (arith, inside))

module _ (reads : (unit : Source) → IsLawful unit → HasReadableDefines unit) where
  lawful-read : (units : List Source) → All IsLawful units → AllByRecursion HasReadableDefines units
  lawful-read [] all = tt
  lawful-read (unit ∷ units) all = (reads unit (all 0 unit (omega arith)), lawful-read units (λ k d inside. all (suc k) d (omega (arith, inside))))

  pub project-reads : (told : Option Files) (project : List ℕ) (units : List Source) → IsProject told project units → AllByRecursion HasReadableDefines units
  project-reads told project units (inl file) = subst (AllByRecursion HasReadableDefines) (sym file.1) (tt, tt)
  project-reads told project units (inr manifest) = lawful-read units (answer_lawful manifest.2.0 (Ok units) manifest.2.2)

-- one that is found among units is one of them
pub found-reads : (file : List ℕ) (units : List Source) (unit : Source) → AllByRecursion HasReadableDefines units → unit_named file units ≡ Some unit → HasReadableDefines unit
found-reads file [] unit all is = absurd (cc)
found-reads file (first ∷ units) unit all is = by (bytes_eq first.file file) is (found-reads file units unit all.1)
  where
    some-is : (one other : Source) → ◌≡◌ {A = Option Source} (Some one) (Some other) → one ≡ other
    some-is one other e = cc

    by : (b : Bool) → cond b (Some first) (unit_named file units) ≡ Some unit → (unit_named file units ≡ Some unit → HasReadableDefines unit) → HasReadableDefines unit
    by true e next = subst HasReadableDefines (some-is first unit e) all.0
    by false e next = next e

-- the defines can be read as those of the main file
pub all-can : (files : Files) (unit : Source) (old new : Loaded) → HasReadableDefines unit → AllByRecursion (CanBeRead (setting_of old new files unit)) unit.define
all-can files unit old new readable = each unit.define readable
  where
    each : (defines : List (List ℕ)) → AllByRecursion IsText defines → AllByRecursion (CanBeRead (setting_of old new files unit)) defines
    each [] all = tt
    each (define ∷ defines) all = (all.0 (setting_of old new files unit).main, each defines all.1)
