-- The old bytes of a file are put back.
use Rattle.std.proofs.Common.{◌≡◌, ◌⊎◌, inl, inr, ℕ, ◌<◌, true, List, [], Option, Some, is_some, length, get_or, unwrap_or, bytes_eq, sym, ap, ◌∙◌, subst}
use Rattle.std.specs.List.{list_any, position_or_len}
use Rattle.std.proofs.lemmas.Bool.{cases_eq}
use Rattle.std.proofs.lemmas.List.{get_or_append_left}
use Rattle.std.proofs.lemmas.List.Folds.{list_any_at}
use Rattle.dm_io.specs.Files.{Files, file_at}
use Rattle.dm_search.specs.CallFiles.{file_for, known_or}
use Rattle.dm_search.specs.Loaded.{Loaded, number_of, held_at, is_held, is_absent, with_bytes}
use Rattle.dm_unit.proofs.GrowLemmas.{some-of, held-now, held-other}
use Rattle.dm_unit.proofs.NameLemmas.{same-name, name-at, name-kept, held-among}
use Rattle.dm_local.specs.Kept.{IsOfLoader}
use Rattle.dm_readings.specs.Leaves.{Follows}
use Rattle.dm_kept.proofs.CurrentLemmas.{held-place}

module _ (files : Files) (known : Loaded) (file : ℕ) (bytes : List ℕ) (held : is_held known file ≡ true) (of : IsOfLoader known) (new : Loaded) (follows : Follows files (with_bytes known file bytes) new) (after : IsOfLoader new) where
  abbrev pub old_bytes : List ℕ
  old_bytes = unwrap_or (held_at known file) []

  abbrev pub restored : Loaded
  restored = with_bytes new file old_bytes

  has : held_at known file ≡ Some old_bytes
  has = let some = some-of (held_at known file) held in some.1 ∙ sym (ap (λ (o : Option (List ℕ)). Some (unwrap_or o [])) some.1)

  inside : file < length known.names
  inside = subst (λ n. file < n) of.1 (held-place known file held)

  pub held-behind : is_held new file ≡ true
  held-behind = ap is_some (follows.knows.held_too file bytes (held-now known file bytes (held-place known file held)))

  back : held_at restored file ≡ Some old_bytes
  back = held-now new file old_bytes (held-place new file held-behind)

  held-too : (other : ℕ) (text : List ℕ) → held_at known other ≡ Some text → held_at restored other ≡ Some text
  held-too other text h = by (cases_eq other file)
    where
      by : (other ≡ file) ⊎ (other ≡ file → ⊥) → held_at restored other ≡ Some text
      by (inl same) = ap (held_at restored) same ∙ back ∙ sym has ∙ sym (ap (held_at known) same) ∙ h
      by (inr apart) = held-other new file other old_bytes apart ∙ follows.knows.held_too other text (held-other known file other bytes apart ∙ h)

  -- the name of the file was there
  was-among : (name : List ℕ) → number_of new name ≡ file → list_any (bytes_eq name) known.names ≡ true
  was-among name same =
      let at = name-at name new.names (held-among new name after.1 (ap (is_held new) same ∙ held-behind)) in
      let front = ap (λ (ns : List (List ℕ)). get_or ns file []) follows.knows.begins.1 ∙ get_or_append_left known.names follows.knows.begins.0 [] file inside in
      list_any_at (bytes_eq name) known.names file [] inside (ap (bytes_eq name) (sym front ∙ ap (λ n. get_or new.names n []) (sym same) ∙ at) ∙ same-name name)

  number-stays : (name : List ℕ) → list_any (bytes_eq name) known.names ≡ true → number_of new name ≡ number_of known name
  number-stays name among = ap (λ (ns : List (List ℕ)). position_or_len (bytes_eq name) ns) follows.knows.begins.1 ∙ name-kept name known.names follows.knows.begins.0 among

  served-back : (name : List ℕ) → file_for restored files name ≡ file_for known files name
  served-back name = by (cases_eq (number_of new name) file)
    where
      by : (number_of new name ≡ file) ⊎ (number_of new name ≡ file → ⊥) → file_for restored files name ≡ file_for known files name
      by (inl same) =
          ap (λ (o : Option (List ℕ)). known_or o (is_absent new name) (file_at files name)) (ap (held_at restored) same ∙ back)
          ∙ sym (ap (λ (o : Option (List ℕ)). known_or o (is_absent known name) (file_at files name)) (ap (held_at known) (sym (number-stays name (was-among name same)) ∙ same) ∙ has))
      by (inr apart) =
          ap (λ (o : Option (List ℕ)). known_or o (is_absent new name) (file_at files name)) (held-other new file (number_of new name) old_bytes apart) ∙ follows.served name
          ∙ ap (λ (o : Option (List ℕ)). known_or o (is_absent known name) (file_at files name))
          (held-other known file (number_of known name) bytes (λ e. apart (number-stays name (held-among known name of.1 (ap (is_held known) e ∙ held)) ∙ e)))

  pub follows-back : Follows files known restored
  follows-back = record { knows = record { begins = follows.knows.begins; held_too = held-too; absent_too = follows.knows.absent_too }; served = served-back }
