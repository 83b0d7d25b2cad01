-- What a name has once files are written.
--     at-name      the bytes that a loader holds for it, or what it had
use Rattle.std.proofs.Common.{◌≡◌, ◌⊎◌, inl, inr, ℕ, ◌≤◌, Bool, true, false, cond, List, [], ◌∷◌, Some, refl, sym, ap, ◌∙◌, subst}
use Rattle.std.specs.List.{AllByRecursion}
use Rattle.std.specs.Cmp.Lexicographic.{slice_cmp}
use Rattle.std.specs.Ordering.{nat_cmp, eq_by_cmp}
use Rattle.std.specs.FinMap as finite
use Rattle.std.proofs.lemmas.Cmp.{nat_list_cmp_total}
use Rattle.dm_token.specs.Limits.{header_count}
use Rattle.dm_io.specs.Files.{Files, file_at, names_tied}
use Rattle.dm_search.specs.Loaded.{Loaded, number_of, is_held}
use Rattle.dm_edit.specs.declared.plan.Changed.{Changed}
use Rattle.dm_subjects.specs.Subjects.{bytes_at}
use Rattle.dm_last.specs.Last.{with_files}

-- whether this file is written
abbrev pub tied : List ℕ → Changed → Bool
tied name one = eq_by_cmp (slice_cmp nat_cmp) name one.name

abbrev pub files_after : Files → List Changed → Files
files_after files [] = files
files_after files (one ∷ others) = files_after (finite.insert files one.name one.bytes) others

pub with-told : (files : Files) (changed : List Changed) → with_files (Some files) changed ≡ Some (files_after files changed)
with-told files [] = refl
with-told files (one ∷ others) = with-told (finite.insert files one.name one.bytes) others

-- the bytes are those that are held for the name, which isn't that of a built-in header
abbrev pub IsAsHeld : Loaded → Changed → Type 0
IsAsHeld loaded one =
    (header_count ≤ number_of loaded one.name) × (is_held loaded (number_of loaded one.name) ≡ true) × (one.bytes ≡ bytes_at loaded (number_of loaded one.name))

abbrev pub IsLeft : Files → List Changed → List ℕ → Type 0
IsLeft files changed name = AllByRecursion (λ (one : Changed). tied name one ≡ false) changed × (file_at (files_after files changed) name ≡ file_at files name)

abbrev pub IsWritten : Loaded → Files → List Changed → List ℕ → Type 0
IsWritten loaded files changed name =
    (header_count ≤ number_of loaded name) × (is_held loaded (number_of loaded name) ≡ true)
    × (file_at (files_after files changed) name ≡ Some (bytes_at loaded (number_of loaded name)))

pub at-name : (loaded : Loaded) (files : Files) (changed : List Changed) (name : List ℕ) → AllByRecursion (IsAsHeld loaded) changed → IsLeft files changed name ⊎ IsWritten loaded files changed name
at-name loaded files [] name held = inl (tt, refl)
at-name loaded files (one ∷ others) name held = by (tied name one) refl (at-name loaded next others name held.1)
  where
    next : Files
    next = finite.insert files one.name one.bytes

    got : (b : Bool) → tied name one ≡ b → file_at next name ≡ cond b (Some one.bytes) (file_at files name)
    got b is = finite.get-insert nat_list_cmp_total files one.name one.bytes name ∙ ap (λ (t : Bool). cond t (Some one.bytes) (file_at files name)) is

    by : (b : Bool) → tied name one ≡ b → IsLeft next others name ⊎ IsWritten loaded next others name → IsLeft files (one ∷ others) name ⊎ IsWritten loaded files (one ∷ others) name
    by b is (inr written) = inr written
    by false is (inl none) = inl ((is, none.0), none.1 ∙ got false is)
    by true is (inl none) =
        let here =
        subst (λ (it : List ℕ). (header_count ≤ number_of loaded it) × (is_held loaded (number_of loaded it) ≡ true) × (one.bytes ≡ bytes_at loaded (number_of loaded it)))
        (sym (names_tied name one.name is)) held.0 in
        inr (here.0, here.1, none.1 ∙ (got true is ∙ ap Some here.2))
