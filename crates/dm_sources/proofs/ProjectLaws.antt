-- A project that is told has one list of units, and lacks them for no reason but a fault of the folder.
use Rattle.std.proofs.Common.{◌≡◌, ◌∙◌, ℕ, ◌<◌, inl, inr, true, List, length, Option, Some, is_some, Ok, Err, sym, ap, subst, arith}
use Rattle.std.proofs.lemmas.Bool.{true≢false}
use Rattle.std.specs.Option.{IsSomeAnd}
use Rattle.std.specs.Prelude.{is_ok}
use Rattle.dm_token.specs.declared.unit.Unit.{Unit as Source}
use Rattle.dm_token.specs.Names.{is_normal_name}
use Rattle.dm_token.specs.Limits.{source_length_limit}
use Rattle.dm_io.specs.Files.{Files}
use Rattle.dm_io.specs.Faults.{Rose}
use Rattle.dm_manifest.specs.declared.fault.ManifestFault.{ManifestFault}
use Rattle.dm_manifest.specs.declared.fault.ManifestFault.TheVariants as fault
use Rattle.dm_manifest.specs.Answers.{IsManifest, HasFault}
use Rattle.dm_manifest.specs.Units.{manifest_of}
use Rattle.dm_lines.specs.Outside.{HasText}
use Rattle.dm_sources.specs.declared.project.NoSources.{NoSources}
use Rattle.dm_sources.specs.declared.project.NoSources.TheVariants.{ProjectName, NoManifest, TooLong, ReadFault, Manifest}
use Rattle.dm_sources.specs.declared.finding.NoUnit.{NoUnit}
use Rattle.dm_sources.specs.declared.finding.NoUnit.TheVariants.{Unfound, Unlisted}
use Rattle.dm_sources.specs.Sources.{HasManifest, HasNoSources, HasNoUnit, HasUnit, IsManifestFault, IsProject, NamesManifest, unit_named}

-- what is there is one value
same_value : {A : Type 0} {found : Option A} {a b : A} → found ≡ Some a → found ≡ Some b → a ≡ b
same_value {A} {found} {a} {b} left right =
    let same : Some a ≡ Some b = sym left ∙ right in
    cc

-- a manifest has one list of units
one_list : (bytes : List ℕ) (a b : List Source) → IsManifest bytes a → IsManifest bytes b → a ≡ b
one_list bytes a b left right =
    let root : left.0 ≡ right.0 = same_value left.1.is right.1.is in
    let same : Ok a ≡ Ok b = sym left.2 ∙ ap manifest_of root ∙ right.2 in
    cc

-- a manifest with units has no fault
no_fault : (bytes : List ℕ) (units : List Source) (fault : ManifestFault) → IsManifest bytes units → HasFault bytes fault → ⊥
no_fault bytes units fault is has =
    let root : is.0 ≡ has.0 = same_value is.1.is has.1.is in
    let same : Ok units ≡ Err fault = sym is.2 ∙ ap manifest_of root ∙ has.2 in
    absurd (true≢false (ap is_ok same))

no_manifest_fault : (bytes : List ℕ) (units : List Source) (fault : ManifestFault) → IsManifest bytes units → IsManifestFault bytes fault → ⊥
no_manifest_fault bytes units fault.Memory is has = has
no_manifest_fault bytes units fault.Json is has = true≢false (sym (ap is_some (sym (has is.1.utf8) ∙ is.1.is)))
no_manifest_fault bytes units (fault.Shape path) is has = no_fault bytes units (fault.Shape path) is has
no_manifest_fault bytes units (fault.Name path) is has = no_fault bytes units (fault.Name path) is has
no_manifest_fault bytes units (fault.Define path) is has = no_fault bytes units (fault.Define path) is has
no_manifest_fault bytes units (fault.Twice path) is has = no_fault bytes units (fault.Twice path) is has
no_manifest_fault bytes units fault.TooMany is has = no_fault bytes units fault.TooMany is has

-- a file that is told has one text
one_text : (files : Files) (name a b : List ℕ) → HasText (Some files) name a → HasText (Some files) name b → a ≡ b
one_text files name a b left right = same_value left right

-- a project that is told has one list of units
pub one_project : (files : Files) (project : List ℕ) (a b : List Source) → IsProject (Some files) project a → IsProject (Some files) project b → a ≡ b
one_project files project a b (inl left) (inl right) = left.1 ∙ sym right.1
one_project files project a b (inl left) (inr right) = absurd (true≢false (sym left.0.1 ∙ right.1.0.1))
one_project files project a b (inr left) (inl right) = absurd (true≢false (sym right.0.1 ∙ left.1.0.1))
one_project files project a b (inr left) (inr right) =
    one_list right.0 a b (subst (λ bytes. IsManifest bytes a) (one_text files project left.0 right.0 left.1.1 right.1.1) left.2) right.2

pub one_unit : (files : Files) (project file : List ℕ) (a b : Source) → HasUnit (Some files) project file a → HasUnit (Some files) project file b → a ≡ b
one_unit files project file a b left right =
    let same : Some a ≡ Some b = sym left.2 ∙ ap (unit_named file) (one_project files project left.0 right.0 left.1 right.1) ∙ right.2 in
    cc

-- the name of a project is normal
normal : (told : Option Files) (project : List ℕ) (units : List Source) → IsProject told project units → is_normal_name project ≡ true
normal told project units (inl is) = is.0.0
normal told project units (inr is) = is.1.0.0

-- a project has a manifest, where it names one
manifest_of_project : (told : Option Files) (project : List ℕ) (units : List Source) → NamesManifest project → IsProject told project units → (bytes : List ℕ) × HasManifest told project bytes × IsManifest bytes units
manifest_of_project told project units names (inl is) = absurd (true≢false (sym is.0.1 ∙ names.1))
manifest_of_project told project units names (inr is) = is

-- a project with these units lacks them for no reason but a fault of the folder
pub has_sources : (files : Files) (project : List ℕ) (units : List Source) (before after : ℕ) (why : NoSources) → IsProject (Some files) project units
    → HasNoSources (Some files) project before after why → ¬ Rose before after → ⊥
has_sources files project units before after ProjectName is none quiet = true≢false (sym (normal (Some files) project units is) ∙ none)
has_sources files project units before after NoManifest is none quiet =
    let there = manifest_of_project (Some files) project units none.0 is in
    true≢false (ap is_some (sym there.1.1 ∙ none.1))
has_sources files project units before after TooLong is none quiet =
    let there = manifest_of_project (Some files) project units none.0 is in
    let longer : source_length_limit < length there.0 = subst (λ found. IsSomeAnd found (λ bytes. source_length_limit < length bytes)) there.1.1 none.1 in
    let short = there.1.2 in
    absurd (omega arith)
has_sources files project units before after ReadFault is none quiet = quiet none.1
has_sources files project units before after (Manifest fault) is none quiet =
    let there = manifest_of_project (Some files) project units none.1.0 is in
    no_manifest_fault none.0 units fault (subst (λ bytes. IsManifest bytes units) (one_text files project there.0 none.0 there.1.1 none.1.1) there.2) none.2

-- and so does one with this unit
pub has_unit : (files : Files) (project file : List ℕ) (unit : Source) (before after : ℕ) (why : NoUnit) → HasUnit (Some files) project file unit
    → HasNoUnit (Some files) project file before after why → ¬ Rose before after → ⊥
has_unit files project file unit before after (Unfound why) has none quiet = has_sources files project has.0 before after why has.1 none quiet
has_unit files project file unit before after Unlisted has none quiet =
    true≢false (ap is_some (sym has.2 ∙ ap (unit_named file) (one_project files project has.0 none.0 has.1 none.1) ∙ none.2))
