-- A hash map's entries, by names, as a finite map.
use Rattle.std.proofs.Common.{◌≡◌, ℕ, cond, List, [], ◌∷◌, None, Some, refl, sym, ◌∙◌, bytes_eq}
use Rattle.std.specs.Map.{lookup}
use Rattle.std.specs.Cmp.Lexicographic.{slice_cmp, texts_ties}
use Rattle.std.specs.Ordering.{nat_cmp, eq_by_cmp}
use Rattle.std.specs.FinMap as finite
use Rattle.std.specs.FinMap.{slice_cmp-IsAntisymmetric, nat_cmp-IsAntisymmetric, same_map}
use Rattle.std.proofs.lemmas.Cmp.{nat_list_eq_equiv, nat_list_cmp_total}

pub tied : (one other : List ℕ) → bytes_eq one other ≡ eq_by_cmp (slice_cmp nat_cmp) other one
tied one other = nat_list_eq_equiv.symm one other ∙ texts_ties other one

module _ {A : Type 0} where
  -- entries are looked up alike
  found_alike : (entries : List (List ℕ × A)) (name : List ℕ) → finite.find (slice_cmp nat_cmp) name entries ≡ lookup (bytes_eq name) entries
  found_alike [] name = refl
  found_alike (entry ∷ entries) name = λ i. cond (sym (texts_ties name entry.0) i) (Some entry.1) (found_alike entries name i)

  -- what the finite map of entries has
  pub get_of_entries : (entries : List (List ℕ × A)) (name : List ℕ) → finite.get {R = slice_cmp nat_cmp} (finite.from_entries entries) name ≡ lookup (bytes_eq name) entries
  get_of_entries entries name = finite.get-from_entries nat_list_cmp_total entries name ∙ found_alike entries name

  -- maps that answer alike are equal
  pub same : (one other : finite.FinMap (slice_cmp nat_cmp) A) → ((name : List ℕ) → finite.get one name ≡ finite.get other name) → one ≡ other
  same one other alike = same_map nat_list_cmp_total (slice_cmp-IsAntisymmetric nat_cmp-IsAntisymmetric) one other alike

  -- entries that have one more name
  pub entries_with : (old new : List (List ℕ × A)) (name : List ℕ) (value : A)
      → ((q : List ℕ) → lookup (bytes_eq q) new ≡ cond (bytes_eq name q) (Some value) (lookup (bytes_eq q) old))
      → finite.from_entries {R = slice_cmp nat_cmp} new ≡ finite.insert (finite.from_entries old) name value
  entries_with old new name value updates = same _ _ (λ q.
      get_of_entries new q ∙ updates q
      ∙ (λ i. cond (tied name q i) (Some value) (sym (get_of_entries old q) i))
      ∙ sym (finite.get-insert nat_list_cmp_total (finite.from_entries old) name value q))

  -- entries that lack a name
  pub entries_without : (old new : List (List ℕ × A)) (name : List ℕ)
      → ((q : List ℕ) → lookup (bytes_eq q) new ≡ cond (bytes_eq name q) None (lookup (bytes_eq q) old))
      → finite.from_entries {R = slice_cmp nat_cmp} new ≡ finite.remove (finite.from_entries old) name
  entries_without old new name updates = same _ _ (λ q.
      get_of_entries new q ∙ updates q
      ∙ (λ i. cond (tied name q i) None (sym (get_of_entries old q) i))
      ∙ sym (finite.get-remove nat_list_cmp_total (finite.from_entries old) name q))
