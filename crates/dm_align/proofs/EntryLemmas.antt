-- Declarations that are others, places apart.
use Rattle.std.proofs.Common.{◌≡◌, ◌↔◌, ◌+◌, ℕ, List, ◌++◌, map, take, drop, ap, ◌∙◌, sym, subst}
use Rattle.std.proofs.lemmas.List.{take-map, drop-map, map-append}
use Rattle.dm_type.specs.Tables.{Table}
use Rattle.dm_tree.specs.declared.unit.Declared.{Declared}
use Rattle.dm_tree.specs.Units.{Declaration}
use Rattle.dm_tree.specs.Views.{entries_of, view_of_declared}
use Rattle.dm_meaning.specs.Replaced.{Zipped}
use Rattle.dm_agree.proofs.StepLemmas.{through, itself}
use Rattle.dm_align.specs.Units.{entry_of, without}
use Rattle.dm_align.proofs.StepLemmas.{zipped-map, zipped-same}

abbrev pub IsSameEntry : Table → Table → Declared → Declared → Type 0
IsSameEntry new old x y = entry_of (view_of_declared new x) ≡ entry_of (view_of_declared old y)

pub same-entries : (new old : Table) (xs ys : List Declared) → Zipped (IsSameEntry new old) xs ys ↔ (map entry_of (entries_of new xs) ≡ map entry_of (entries_of old ys))
same-entries new old xs ys =
    through (zipped-map (λ (x y : Declaration). entry_of x ≡ entry_of y) (view_of_declared new) (view_of_declared old) xs ys)
    (zipped-same entry_of entry_of (entries_of new xs) (entries_of old ys))

-- what is left of a list of what its items stand for
pub without-map : {A B : Type 0} (f : A → B) (from count : ℕ) (xs : List A) → without from count (map f xs) ≡ map f (without from count xs)
without-map f from count xs =
    ap (λ front. front ++ drop (from + count) (map f xs)) (take-map f from xs)
    ∙ (ap (λ back. map f (take from xs) ++ back) (drop-map f (from + count) xs) ∙ sym (map-append f (take from xs) (drop (from + count) xs)))

pub other-entries : (new old : Table) (from count : ℕ) (xs ys : List Declared)
    → Zipped (IsSameEntry new old) (without from count xs) ys ↔ (map entry_of (without from count (entries_of new xs)) ≡ map entry_of (entries_of old ys))
other-entries new old from count xs ys =
    through (same-entries new old (without from count xs) ys)
    (subst (λ (one : List Declaration). (map entry_of (entries_of new (without from count xs)) ≡ map entry_of (entries_of old ys)) ↔ (map entry_of one ≡ map entry_of (entries_of old ys)))
    (sym (without-map (view_of_declared new) from count xs)) itself)
