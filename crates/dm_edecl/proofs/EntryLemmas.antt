-- What a declarator declares has a type and a linkage such as its sort has.
use Rattle.std.specs.Prelude.{◌≡◌, ℕ, Bool, true, false, ◌&&◌, not, if◌then◌else◌, Option, Some, None, refl}
use Rattle.std.proofs.Common.{ap}
use Rattle.dm_type.specs.CTypes.{CType}
use Rattle.dm_syn.specs.Sources.{spelling_at}
use Rattle.dm_tree.specs.declared.unit.Linkage.TheVariants.{External}
use Rattle.dm_tree.specs.Initialisers.{is_function_sort}
use Rattle.dm_tree.specs.Scenes.{is_function}
use Rattle.dm_tree.specs.Typing.{FitsSort, IsEntry, has_linkage}
use Rattle.dm_tree.specs.Units.{Declaration}
use Rattle.dm_typing.specs.Known.{Known, Setting, meaning_of}
use Rattle.dm_typing.specs.Typing.{is_file_scope}
use Rattle.dm_typing.proofs.ConversionLemmas.{or-left}
use Rattle.dm_edecl.specs.Linkages.{Storage, unsaid, typedef, extern, static, is_static, linkage_before, linkage_of, sort_of, entry_of}
use Rattle.dm_edecl.specs.Declaring.{is_misplaced_static}

-- what follows an earlier declaration has linkage
linked-before : (before : Option Declaration) → has_linkage (linkage_before before) ≡ true
linked-before None = refl
linked-before (Some old) = go (has_linkage old.linkage) refl
  where
    go : (test : Bool) → has_linkage old.linkage ≡ test → has_linkage (if test then old.linkage else External) ≡ true
    go true e = e
    go false e = refl

fits-by : (storage : Storage) (kind : CType) (test in_file : Bool) (before : Option Declaration) → is_function kind ≡ test
    → (is_function_sort (sort_of storage test (linkage_of storage test in_file before)) && is_static storage && not in_file) ≡ false
    → FitsSort (sort_of storage test (linkage_of storage test in_file before)) kind (has_linkage (linkage_of storage test in_file before))
fits-by typedef kind test in_file before e h = refl
fits-by unsaid kind true in_file before e h = (e, linked-before before)
fits-by unsaid kind false true before e h = (ap not e, λ linked. refl)
fits-by unsaid kind false false before e h = (ap not e, λ linked. linked)
fits-by extern kind true in_file before e h = (e, linked-before before)
fits-by extern kind false in_file before e h = (ap not e, λ linked. or-left (has_linkage (linkage_before before)) false linked)
fits-by static kind true true before e h = (e, refl)
fits-by static kind true false before e h = absurd (cc)
fits-by static kind false true before e h = (ap not e, λ linked. refl)
fits-by static kind false false before e h = (ap not e, λ linked. refl)

pub entry-fits : (setting : Setting) (known : Known) (storage : Storage) (at : ℕ) (kind : CType)
    → is_misplaced_static known storage (entry_of setting known storage at kind).sort ≡ false → IsEntry (entry_of setting known storage at kind)
entry-fits setting known storage at kind h =
    fits-by storage kind (is_function kind) (is_file_scope known.scopes) (meaning_of known (spelling_at setting.source at)) refl h
