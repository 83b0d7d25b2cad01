-- A list of files as a finite map, and what changing one file does to it.
use Rattle.std.proofs.Common.{◌≡◌, ◌≢◌, ℕ, zero, suc, ◌<◌, Bool, true, false, cond, nat_eq, List, [], ◌∷◌, ◌++◌, length, map, get_or, set, Option, Some, None, option_map, sym, refl, ap, subst, ◌∙◌, position, arith, IsSome, is_some, nat_lt, ◌≤◌}
use Rattle.std.specs.Cmp.Lexicographic.{pointwise, slice_cmp, texts_ties}
use Rattle.std.specs.Ordering.{nat_cmp, eq_by_cmp}
use Rattle.std.specs.List.{find, position_or_len, slice_get}
use Rattle.std.proofs.lemmas.List.Folds.{find_at}
use borrow.Author.Tests.{ltb-false}
use Rattle.std.specs.FinMap as finite
use Rattle.std.specs.FinMap.Entries as entries
use Rattle.std.specs.FinMap.{slice_cmp-IsAntisymmetric, nat_cmp-IsAntisymmetric}
use Rattle.std.specs.Option.{option_map_or}
use Rattle.std.proofs.lemmas.Cmp.{nat_list_cmp_total, nat_list_eq_equiv, eq_by_cmp_equiv}
use Rattle.std.proofs.lemmas.Bool.{false≢true}
use Rattle.std.proofs.lemmas.List.{map-append}
use Rattle.std.proofs.lemmas.List.Quantifiers.{position-Some}
use Rattle.dm_io.specs.declared.stored.Stored.{Stored}
use Rattle.dm_io.specs.Files.{HasFile, file_at, names_tied, same_files}
use Rattle.dm_io.specs.Stored.{entry_of, contents, is_named, room_at}

-- the first element that passes stands at this position
abbrev pub FirstAt : {X : Type 0} → (X → Bool) → List X → ℕ → X → Type 0
FirstAt p [] i x = ⊥
FirstAt p (y ∷ ys) zero x = (p y ≡ true) × (y ≡ x)
FirstAt p (y ∷ ys) (suc i) x = (p y ≡ false) × FirstAt p ys i x

-- what index by index says of the first element that passes
first_by_index : {X : Type 0} (p : X → Bool) (xs : List X) (i : ℕ) (d : X) → i < length xs → p (get_or xs i d) ≡ true → ((k : ℕ) → k < i → p (get_or xs k d) ≡ false) → FirstAt p xs i (get_or xs i d)
first_by_index p [] i d inside passes fails = absurd (omega arith)
first_by_index p (y ∷ ys) zero d inside passes fails = (passes, refl)
first_by_index p (y ∷ ys) (suc i) d inside passes fails =
    (fails 0 (omega arith), first_by_index p ys i d (omega arith) passes (λ k below. fails (suc k) (omega arith)))

-- `position` finds the first element that passes
pub first_from_position : {X : Type 0} (p : X → Bool) (xs : List X) (i : ℕ) (d : X) → position p xs ≡ Some i → FirstAt p xs i (get_or xs i d)
first_from_position p xs i d found =
    let facts = position-Some p xs i d found in
    first_by_index p xs i d facts.0 facts.1 facts.2

-- so does `find`
pub find_first : {X : Type 0} (p : X → Bool) (xs : List X) (i : ℕ) (x : X) → FirstAt p xs i x → find p xs ≡ Some x
find_first p [] i x at = absurd at
find_first p (y ∷ ys) zero x at = rw at.0 (ap Some at.1)
find_first p (y ∷ ys) (suc i) x at = rw at.0 (find_first p ys i x at.1)

-- it finds what is put there
pub find_put : {X : Type 0} (p : X → Bool) (xs : List X) (i : ℕ) (x z : X) → FirstAt p xs i x → p z ≡ true → find p (set xs i z) ≡ Some z
find_put p [] i x z at passes = absurd at
find_put p (y ∷ ys) zero x z at passes = rw passes refl
find_put p (y ∷ ys) (suc i) x z at passes = rw at.0 (find_put p ys i x z at.1 passes)

-- another test finds what it found, where what was there and what is put there fail it
pub find_elsewhere : {X : Type 0} (p q : X → Bool) (xs : List X) (i : ℕ) (x z : X) → FirstAt p xs i x → q x ≡ false → q z ≡ false → find q (set xs i z) ≡ find q xs
find_elsewhere p q [] i x z at out in_ = absurd at
find_elsewhere p q (y ∷ ys) zero x z at out in_ =
    let gone : q y ≡ false = subst (λ v. q v ≡ false) (sym at.1) out in
    rw (in_, gone) refl
find_elsewhere p q (y ∷ ys) (suc i) x z at out in_ =
    ap (cond (q y) (Some y)) (find_elsewhere p q ys i x z at.1 out in_)

-- names that test as equal are equal
pub same_names : (a b : List ℕ) → pointwise nat_eq a b ≡ true → a ≡ b
same_names a b tested = names_tied a b (sym (texts_ties a b) ∙ tested)

-- equal names test as equal
pub same_tested : (a b : List ℕ) → a ≡ b → pointwise nat_eq a b ≡ true
same_tested a b same = ap (λ n. pointwise nat_eq a n) (sym same) ∙ nat_list_eq_equiv.refl a

-- names that differ test as different
pub different_tested : (a b : List ℕ) → a ≢ b → pointwise nat_eq a b ≡ false
different_tested a b differ =
    elim (pointwise nat_eq a b) as (λ v. pointwise nat_eq a b ≡ v → pointwise nat_eq a b ≡ false) [
      | true ↦ λ tested. absurd (differ (same_names a b tested))
      | false ↦ λ tested. tested
    ] refl

-- the order of the map's keys ties as the names test
ties : (name other : List ℕ) → eq_by_cmp (slice_cmp nat_cmp) name other ≡ pointwise nat_eq other name
ties name other = sym (texts_ties name other) ∙ nat_list_eq_equiv.symm name other

-- the map has the bytes of the file that is found
find_entry : (files : List Stored) (name : List ℕ) → entries.find (slice_cmp nat_cmp) name (map entry_of files) ≡ option_map (λ stored. stored.bytes.items) (find (is_named name) files)
find_entry [] name = refl
find_entry (file ∷ files) name =
    rw (ties name file.name)
    (elim (pointwise nat_eq file.name name) as (λ b. cond b (Some file.bytes.items) (entries.find (slice_cmp nat_cmp) name (map entry_of files)) ≡ option_map (λ stored. stored.bytes.items) (cond b (Some file) (find (is_named name) files))) [
      | true ↦ refl
      | false ↦ find_entry files name
    ])

pub file_at-contents : (files : List Stored) (name : List ℕ) → file_at (contents files) name ≡ option_map (λ stored. stored.bytes.items) (find (is_named name) files)
file_at-contents files name = finite.get-from_entries nat_list_cmp_total (map entry_of files) name ∙ find_entry files name

-- what is found gives what the map has, also under another spelling of the files and the name
pub bytes_found : (files others : List Stored) (name alias : List ℕ) (found : Option Stored) → found ≡ find (is_named alias) others → others ≡ files → alias ≡ name → option_map (λ stored. stored.bytes.items) found ≡ file_at (contents files) name
bytes_found files others name alias found is same_files same_name =
    ap (option_map (λ stored. stored.bytes.items)) is
    ∙ ap (λ n. option_map (λ stored. stored.bytes.items) (find (is_named n) others)) same_name
    ∙ ap (λ f. option_map (λ stored. stored.bytes.items) (find (is_named name) f)) same_files
    ∙ sym (file_at-contents files name)

-- a file of a new name at the end is one more file of the map
pub contents_push : (files : List Stored) (file : Stored) → file_at (contents files) file.name ≡ None → contents (files ++ file ∷ []) ≡ finite.insert (contents files) file.name file.bytes.items
contents_push files file new =
    ap finite.from_entries (map-append entry_of files (file ∷ []))
    ∙ finite.from_entries_push nat_list_cmp_total (slice_cmp-IsAntisymmetric nat_cmp-IsAntisymmetric) (map entry_of files) file.name file.bytes.items
    (sym (finite.get-from_entries nat_list_cmp_total (map entry_of files) file.name) ∙ new)

-- where no position is found, nothing is
find_none : {X : Type 0} (p : X → Bool) (xs : List X) → position p xs ≡ None → find p xs ≡ None
find_none p xs none =
    elim (nat_lt (position_or_len p xs) (length xs)) as (λ b. nat_lt (position_or_len p xs) (length xs) ≡ b → cond b (Some (position_or_len p xs)) None ≡ None → find p xs ≡ None) [
      | true ↦ λ below some. cc
      | false ↦ λ past _. find_at p xs ∙ past_end xs (position_or_len p xs) (ltb-false _ _ past)
    ] refl none
  where
    past_end : {X : Type 0} (xs : List X) (i : ℕ) → length xs ≤ i → slice_get xs i ≡ None
    past_end [] i past = refl
    past_end (x ∷ xs) zero past = absurd (omega arith)
    past_end (x ∷ xs) (suc i) past = past_end xs i (omega arith)

-- a name that the map has is found
pub some_position : (files : List Stored) (name : List ℕ) → HasFile (Some (contents files)) name → IsSome (position (is_named name) files)
some_position files name has =
    elim (position (is_named name) files) as (λ found. position (is_named name) files ≡ found → IsSome found) [
      | None ↦ λ none. absurd (false≢true (sym (ap is_some (file_at-contents files name ∙ ap (option_map (λ stored. stored.bytes.items)) (find_none (is_named name) files none))) ∙ has))
      | Some i ↦ λ some. refl
    ] refl

-- the file at the position that is found has the name
pub named_at : (files : List Stored) (name : List ℕ) (i : ℕ) (old : Stored) → FirstAt (is_named name) files i old → old.name ≡ name
named_at [] name i old at = absurd at
named_at (file ∷ files) name zero old at = sym (ap (λ stored. stored.name) at.1) ∙ same_names file.name name at.0
named_at (file ∷ files) name (suc i) old at = named_at files name i old at.1

-- the files after the first of this name is changed, but for its name
module _ (files : List Stored) (name : List ℕ) (i : ℕ) (d new : Stored) (found : position (is_named name) files ≡ Some i) (same : new.name ≡ (get_or files i d).name) where
  at : FirstAt (is_named name) files i (get_or files i d)
  at = first_from_position (is_named name) files i d found

  named : (get_or files i d).name ≡ name
  named = named_at files name i _ at

  -- the file of this name is the new one
  found_new : find (is_named name) (set files i new) ≡ Some new
  found_new = find_put (is_named name) files i (get_or files i d) new at (same_tested new.name name (same ∙ named))

  -- the file of another name is as before
  found_other : (other : List ℕ) → other ≢ name → find (is_named other) (set files i new) ≡ find (is_named other) files
  found_other other differ =
      find_elsewhere (is_named name) (is_named other) files i (get_or files i d) new at
      (different_tested (get_or files i d).name other (λ e. differ (sym e ∙ named)))
      (different_tested new.name other (λ e. differ (sym e ∙ same ∙ named)))

  -- what the map has at each name
  at_name : (other : List ℕ) (b : Bool) → eq_by_cmp (slice_cmp nat_cmp) other name ≡ b → file_at (contents (set files i new)) other ≡ cond b (Some new.bytes.items) (file_at (contents files) other)
  at_name other true tied =
      file_at-contents (set files i new) other
      ∙ ap (λ n. option_map (λ stored. stored.bytes.items) (find (is_named n) (set files i new))) (names_tied other name tied)
      ∙ ap (option_map (λ stored. stored.bytes.items)) found_new
  at_name other false apart =
      let differ : other ≢ name = λ e. false≢true (sym apart ∙ ap (λ n. eq_by_cmp (slice_cmp nat_cmp) other n) (sym e) ∙ (eq_by_cmp_equiv nat_list_cmp_total).refl other) in
      file_at-contents (set files i new) other
      ∙ ap (option_map (λ stored. stored.bytes.items)) (found_other other differ)
      ∙ sym (file_at-contents files other)

  -- the map has the new bytes at this name
  pub contents-set : contents (set files i new) ≡ finite.insert (contents files) name new.bytes.items
  contents-set = same_files _ _
      (λ other. at_name other _ refl ∙ sym (finite.get-insert nat_list_cmp_total (contents files) name new.bytes.items other))

  -- the map stays where the bytes do
  pub contents-set_same : new.bytes.items ≡ (get_or files i d).bytes.items → contents (set files i new) ≡ contents files
  contents-set_same kept = same_files _ _ (λ other. at_name other _ refl ∙ stays other _ refl)
    where
      stays : (other : List ℕ) (b : Bool) → eq_by_cmp (slice_cmp nat_cmp) other name ≡ b → cond b (Some new.bytes.items) (file_at (contents files) other) ≡ file_at (contents files) other
      stays other true tied = ap Some kept ∙ sym (file_at-contents files other
          ∙ ap (λ n. option_map (λ stored. stored.bytes.items) (find (is_named n) files)) (names_tied other name tied)
          ∙ ap (option_map (λ stored. stored.bytes.items)) (find_first (is_named name) files i (get_or files i d) at))
      stays other false apart = refl

  -- the room at this name is that of the new file
  pub room_at-set : room_at (set files i new) name ≡ new.room
  room_at-set = ap (λ found. option_map_or (λ stored. stored.room) found 0) found_new

  -- it was that of the old one
  pub room_at-old : room_at files name ≡ (get_or files i d).room
  room_at-old = ap (λ found. option_map_or (λ stored. stored.room) found 0) (find_first (is_named name) files i (get_or files i d) at)

  -- the rooms at other names stay
  pub room_at-other : (other : List ℕ) → other ≢ name → room_at (set files i new) other ≡ room_at files other
  room_at-other other differ = ap (λ found. option_map_or (λ stored. stored.room) found 0) (found_other other differ)

  -- all rooms stay where the file's does
  pub rooms_stay : new.room ≡ (get_or files i d).room → (other : List ℕ) → room_at (set files i new) other ≡ room_at files other
  rooms_stay kept other =
      elim (pointwise nat_eq other name) as (λ v. pointwise nat_eq other name ≡ v → room_at (set files i new) other ≡ room_at files other) [
        | true ↦ λ tested. let e = same_names other name tested in
            subst (λ n. room_at (set files i new) n ≡ room_at files n) (sym e) (room_at-set ∙ kept ∙ sym room_at-old)
        | false ↦ λ tested. room_at-other other (λ e. false≢true (sym tested ∙ same_tested other name e))
      ] refl
