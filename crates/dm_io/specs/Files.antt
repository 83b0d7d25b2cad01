-- What a folder holds.
use Rattle.std.specs.Prelude.{◌≡◌, ◌≢◌, ℕ, Bool, true, false, cond, List, Option, Some, None, IsTrue, option_map, refl}
use Rattle.std.specs.declared.cmp.Ordering.{Ordering}
use Rattle.std.specs.declared.cmp.Ordering.TheVariants.{Less, Equal, Greater}
use Rattle.std.proofs.Common.{sym, ap, ◌∙◌}
use Rattle.std.proofs.lemmas.Bool.{false≢true}
use Rattle.std.proofs.lemmas.Cmp.{nat_list_cmp_total}
use Rattle.std.specs.Cmp.Lexicographic.{slice_cmp}
use Rattle.std.specs.Ordering.{nat_cmp, eq_by_cmp, is_eq}
use Rattle.std.specs.FinMap as map
use Rattle.std.specs.FinMap.{slice_cmp-IsAntisymmetric, nat_cmp-IsAntisymmetric}

-- the bytes of each file by its name
abbrev pub Files : Type 0
Files = map.FinMap (slice_cmp nat_cmp) (List ℕ)

-- the bytes of the file of a name, if there is one
abbrev pub file_at : Files → List ℕ → Option (List ℕ)
file_at files name = map.get files name

-- where the files are told, there is one of this name
abbrev pub HasFile : Option Files → List ℕ → Type 0
HasFile None name = Unit {0}
HasFile (Some files) name = IsTrue (map.contains_key files name)

-- the files after one is given these bytes
abbrev pub with_file : Option Files → List ℕ → List ℕ → Option Files
with_file told name bytes = option_map (λ files. map.insert files name bytes) told

-- the files of two moments are the same but for the one of this name
abbrev pub MayHaveSpoiled : Option Files → Option Files → List ℕ → Type 0
MayHaveSpoiled None None name = Unit {0}
MayHaveSpoiled None (Some after) name = ⊥
MayHaveSpoiled (Some before) None name = ⊥
MayHaveSpoiled (Some before) (Some after) name = (other : List ℕ) → other ≢ name → file_at after other ≡ file_at before other

-- an answer that tests as equal is equal
is_equal : (answer : Ordering) → is_eq answer ≡ true → answer ≡ Equal
is_equal Less tested = absurd (false≢true tested)
is_equal Equal tested = refl
is_equal Greater tested = absurd (false≢true tested)

-- names that tie are equal
pub names_tied : (a b : List ℕ) → eq_by_cmp (slice_cmp nat_cmp) a b ≡ true → a ≡ b
names_tied a b tested = slice_cmp-IsAntisymmetric nat_cmp-IsAntisymmetric a b (is_equal _ tested)

-- files that hold the same bytes at every name are the same
pub same_files : (files others : Files) → ((name : List ℕ) → file_at files name ≡ file_at others name) → files ≡ others
same_files files others same = map.same_map nat_list_cmp_total (slice_cmp-IsAntisymmetric nat_cmp-IsAntisymmetric) files others same

-- to give a file the bytes that it has changes nothing
pub insert-same : (files : Files) (name bytes : List ℕ) → file_at files name ≡ Some bytes → map.insert files name bytes ≡ files
insert-same files name bytes has = same_files _ _ (λ other. map.get-insert nat_list_cmp_total files name bytes other ∙ at other _ refl)
  where
    at : (other : List ℕ) (b : Bool) → eq_by_cmp (slice_cmp nat_cmp) other name ≡ b → cond b (Some bytes) (file_at files other) ≡ file_at files other
    at other true tied = sym (ap (file_at files) (names_tied other name tied) ∙ has)
    at other false apart = refl
