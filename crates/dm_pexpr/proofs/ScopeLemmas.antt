-- What is known of names by the declarations that came on the way.
use Rattle.std.proofs.Common.{◌≡◌, ◌≤◌, ◌<◌, ◌+◌, ◌-◌, ℕ, zero, suc, min, length, drop, take, get_or, arith, Bool, true, false, cond, List, [], ◌∷◌, ◌++◌, reverse, map, Option, None, Some, refl, sym, ap, ◌∙◌, subst, bytes_eq, if◌then◌else◌}
use Rattle.std.specs.Prelude.{unwrap_or}
use Rattle.std.specs.Cmp.Lexicographic.{slice_cmp}
use Rattle.std.specs.Ordering.{nat_cmp, eq_by_cmp}
use Rattle.std.specs.FinMap as finite
use Rattle.std.proofs.lemmas.Cmp.{nat_list_cmp_total}
use Rattle.std.proofs.lemmas.Slice.Eq.{bytes_eq-Decides}
use Rattle.dm_name_map.proofs.MapLemmas.{same, tied}
use Rattle.dm_syn.specs.declared.declared.Declared.{Declared}
use Rattle.dm_syn.specs.declared.symbol.Symbol.{Symbol}
use Rattle.dm_syn.specs.declared.symbol.Symbol.TheVariants as symbol
use Rattle.dm_syn.specs.Sources.{Source, names_type, seen_as}
use Rattle.std.proofs.lemmas.List.{reverse-append, length-drop, take_more}
use Rattle.std.proofs.Math.Seq.{drop-nil}
use Rattle.dm_pexpr.specs.declared.scope.Entry.{Entry}
use Rattle.dm_pexpr.specs.NameMaps.{NameMap, entry_of, with_entry}
use Rattle.dm_pexpr.specs.Scoping.{latest_of, known_by, known_with, befores, all_declared, IsKept}

tail_of : List (Option Bool) → List (Option Bool)
tail_of [] = []
tail_of (first ∷ others) = others

-- the map has the latest declaration
pub known-latest : (declared : List Declared) (name : List ℕ) → entry_of (known_by declared) name ≡ latest_of declared name
unfolding known_by latest_of
known-latest [] name = finite.get-empty (slice_cmp nat_cmp) name
known-latest (latest ∷ others) name =
    finite.get-insert nat_list_cmp_total (known_by others) latest.name latest.is_type name
    ∙ (λ i. cond (sym (tied latest.name name) i) (Some latest.is_type) (known-latest others name i))

type-if : (test is_type : Bool) (found : Option Bool) (outer others : Bool) → others ≡ unwrap_or found outer
    → (if test then is_type else others) ≡ unwrap_or (if test then Some is_type else found) outer
type-if true is_type found outer others e = refl
type-if false is_type found outer others e = e

-- what a name is, is known by its latest declaration, or else outside
pub names-latest : (source : Source) (declared : List Declared) (name : List ℕ) → names_type source declared name ≡ unwrap_or (latest_of declared name) (source.outer name)
unfolding names_type latest_of
names-latest source [] name = refl
names-latest source (latest ∷ others) name =
    type-if (bytes_eq latest.name name) latest.is_type (latest_of others name) (source.outer name) (names_type source others name) (names-latest source others name)

-- a map that has an entry more, or less
get-with : (m : NameMap) (name : List ℕ) (entry : Option Bool) (q : List ℕ) → entry_of (with_entry m name entry) q ≡ cond (eq_by_cmp (slice_cmp nat_cmp) q name) entry (entry_of m q)
get-with m name None q = finite.get-remove nat_list_cmp_total m name q
get-with m name (Some entry) q = finite.get-insert nat_list_cmp_total m name entry q

back-at : (m : NameMap) (name q : List ℕ) (entry : Bool) (test : Bool) → test ≡ eq_by_cmp (slice_cmp nat_cmp) q name
    → cond test (entry_of m name) (cond test (Some entry) (entry_of m q)) ≡ entry_of m q
back-at m name q entry true e = ap (entry_of m) ((bytes_eq-Decides name q).0 (tied name q ∙ sym e))
back-at m name q entry false e = refl

-- a declaration that is taken back
pub taken-back : (m : NameMap) (name : List ℕ) (entry : Bool) → with_entry (finite.insert m name entry) name (entry_of m name) ≡ m
taken-back m name entry = same _ _ (λ q.
    get-with (finite.insert m name entry) name (entry_of m name) q
    ∙ ap (λ found. cond (eq_by_cmp (slice_cmp nat_cmp) q name) (entry_of m name) found) (finite.get-insert nat_list_cmp_total m name entry q)
    ∙ back-at m name q entry (eq_by_cmp (slice_cmp nat_cmp) q name) refl)

-- a declaration more
pub one-more : (entries items : List Entry) (entry : Entry) (latest new : NameMap) → items ≡ entries ++ entry ∷ []
    → latest ≡ known_by (all_declared (reverse entries)) → IsKept (reverse entries)
    → new ≡ finite.insert latest entry.declared.name entry.declared.is_type → entry.before ≡ entry_of latest entry.declared.name
    → (new ≡ known_by (all_declared (reverse items))) × IsKept (reverse items)
unfolding known_by befores
one-more entries items entry latest new pushed known kept set before =
    let turned : entry ∷ reverse entries ≡ reverse items = sym (reverse-append entries (entry ∷ [])) ∙ ap reverse (sym pushed) in
    subst (λ those. (new ≡ known_by (all_declared those)) × IsKept those) turned (
      set ∙ ap (λ m. finite.insert m entry.declared.name entry.declared.is_type) known,
      ap (λ b. b ∷ map (λ e. e.before) (reverse entries)) (before ∙ ap (λ m. entry_of m entry.declared.name) known)
          ∙ ap (λ bs. entry_of (known_by (all_declared (reverse entries))) entry.declared.name ∷ bs) kept,
    )

-- a declaration less
pub one-less : (entries items : List Entry) (entry : Entry) (latest new : NameMap) → entries ≡ items ++ entry ∷ []
    → latest ≡ known_by (all_declared (reverse entries)) → IsKept (reverse entries)
    → new ≡ with_entry latest entry.declared.name entry.before
    → (new ≡ known_by (all_declared (reverse items))) × IsKept (reverse items)
unfolding known_by befores tail_of
one-less entries items entry latest new popped known kept set =
    let turned : reverse entries ≡ entry ∷ reverse items = ap reverse popped ∙ reverse-append items (entry ∷ []) in
    let known_so : latest ≡ finite.insert (known_by (all_declared (reverse items))) entry.declared.name entry.declared.is_type = known ∙ ap (λ those. known_by (all_declared those)) turned in
    let kept_so : IsKept (entry ∷ reverse items) = subst IsKept turned kept in
    let before : entry.before ≡ entry_of (known_by (all_declared (reverse items))) entry.declared.name = cc in (
      set ∙ ap (λ m. with_entry m entry.declared.name entry.before) known_so ∙ ap (with_entry _ entry.declared.name) before ∙ taken-back (known_by (all_declared (reverse items))) entry.declared.name entry.declared.is_type,
      ap tail_of kept_so,
    )

-- one more declaration that is entered
pub one-entered : (names so now : NameMap) (items : List Entry) (at : ℕ) (entry : Entry) → at < length items → entry ≡ get_or items at entry
    → so ≡ known_with names (all_declared (reverse (take at items))) → now ≡ finite.insert so entry.declared.name entry.declared.is_type
    → now ≡ known_with names (all_declared (reverse (take (at + 1) items)))
unfolding known_with
one-entered names so now items at entry inside is known set =
    let turned : reverse (take (at + 1) items) ≡ entry ∷ reverse (take at items) =
    ap reverse (take_more items at entry inside ∙ ap (λ e. take at items ++ e ∷ []) (sym is)) ∙ reverse-append (take at items) (entry ∷ []) in
    set ∙ ap (λ m. finite.insert m entry.declared.name entry.declared.is_type) known ∙ sym (ap (λ those. known_with names (all_declared those)) turned)

-- an identifier alone can be two symbols
pub seen-other : (it : Symbol) (names : Bool) → (it ≡ symbol.Identifier → ⊥) → seen_as it names ≡ it
seen-other symbol.Identifier names other = absurd (other refl)
seen-other _ names other = refl

drop-one : {A : Type 0} (n : ℕ) (xs : List A) → drop (suc n) xs ≡ drop 1 (drop n xs)
drop-one n [] = drop-nil (suc n) ∙ sym (ap (drop 1) (drop-nil n))
drop-one zero (x ∷ xs) = refl
drop-one (suc n) (x ∷ xs) = drop-one n xs

-- one more that is taken back
pub one-further : {A : Type 0} (all left now : List A) (kept : ℕ) → now ≡ drop 1 left → kept < length left → drop (length all - length left) all ≡ left → length left ≤ length all
    → min kept (length all) ≤ length left → (drop (length all - length now) all ≡ now) × (length now ≤ length all) × (min kept (length all) ≤ length now)
one-further all left now kept is more at few enough =
    let less : length now ≡ length left - 1 = ap length is ∙ length-drop 1 left in
    let next : length all - length now ≡ suc (length all - length left) = omega arith in
    (ap (λ n. drop n all) next ∙ drop-one (length all - length left) all ∙ ap (drop 1) at ∙ sym is, omega arith, omega arith)
