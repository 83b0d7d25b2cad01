-- What a loader knows stays known.
use Rattle.std.proofs.Common.{◌≡◌, ◌≢◌, ℕ, ◌<◌, ◌≤◌, Bool, true, false, ◌||◌, ◌⊎◌, inl, inr, List, [], ◌∷◌, ◌++◌, length, Option, None, Some, Result, Ok, Err, is_some, nat_lt, refl, sym, ap, ◌∙◌, subst, arith, bytes_eq, append_assoc, true≢false}
use Rattle.std.specs.List.{list_any, position_or_len}
use Rattle.std.proofs.lemmas.Bool.{ltb-false, ltb-true}
use Rattle.std.proofs.lemmas.List.{append-nil, length-append, get_or-set_same, get_or-set_other, map-set}
use Rattle.std.proofs.lemmas.List.Folds.{list_any-append}
use Rattle.dm_token.specs.declared.stop.Refusal.{Refusal}
use Rattle.dm_phase.specs.declared.Character.{Character}
use Rattle.dm_phase.specs.Phases.{flat_text}
use Rattle.dm_phase.specs.Answer.{flat_of, unless_refused}
use Rattle.dm_search.specs.Loaded.{Loaded, number_of, held_at, is_held, is_absent, with_name, with_bytes, without_file}
use Rattle.dm_search.specs.Readable.{IsRefusedAs}
use Rattle.dm_unit.specs.Loaders.{Grows, IsOf, is_known, shown}
use Rattle.dm_unit.specs.Includes.{with_found}
use Rattle.dm_unit.proofs.NameLemmas.{HasSlots, name-kept, name-behind, held-among, with_name-known, with_name-slots, number-inside, held-with_name, absent-with_name, names-with_name}

-- what is there
pub some-of : {A : Type 0} (o : Option A) → is_some o ≡ true → (x : A) × (o ≡ Some x)
some-of None h = absurd (true≢false (sym h))
some-of (Some x) h = (x, refl)

pub grows-refl : (apart : Option ℕ) (loaded : Loaded) → Grows apart loaded loaded
grows-refl apart loaded = record {
  begins = ([], sym (append-nil loaded.names));
  held_too = λ file bytes held. held;
  absent_too = λ name absent. absent;
  new_held = λ file least inside. absurd (omega (arith, least, inside));
}

pub grows-trans : (apart : Option ℕ) (a b c : Loaded) → Grows None a b → Grows apart b c → Grows apart a c
grows-trans apart a b c first second = record {
  begins = (first.begins.0 ++ second.begins.0, second.begins.1 ∙ ap (λ ns. ns ++ second.begins.0) first.begins.1 ∙ append_assoc a.names first.begins.0 second.begins.0);
  held_too = λ file bytes held. second.held_too file bytes (first.held_too file bytes held);
  absent_too = λ name absent. second.absent_too name (first.absent_too name absent);
  new_held = λ file least inside. by file least inside (nat_lt file (length b.names)) refl;
}
  where
    held : (file : ℕ) → (is_held b file ≡ true) ⊎ IsOf None file → (is_held c file ≡ true) ⊎ IsOf apart file
    held file (inl h) = let bytes = some-of (held_at b file) h in inl (ap is_some (second.held_too file bytes.0 bytes.1))
    held file (inr none) = absurd none

    by : (file : ℕ) → length a.names ≤ file → file < length c.names → (t : Bool) → nat_lt file (length b.names) ≡ t → (is_held c file ≡ true) ⊎ IsOf apart file
    by file least inside true lt = held file (first.new_held file least (ltb-true file (length b.names) lt))
    by file least inside false lt = second.new_held file (ltb-false file (length b.names) lt) inside

-- more names of which none is new, and more that is known
pub grows-same : (old new : Loaded) → new.names ≡ old.names → ((file : ℕ) (bytes : List ℕ) → held_at old file ≡ Some bytes → held_at new file ≡ Some bytes)
    → ((name : List ℕ) → is_absent old name ≡ true → is_absent new name ≡ true) → Grows None old new
grows-same old new names held absent = record {
  begins = ([], names ∙ sym (append-nil old.names));
  held_too = held;
  absent_too = absent;
  new_held = λ file least inside. let same = ap length names in absurd (omega (arith, least, inside, same));
}

-- a name is known to be absent
pub grows-absent : (old : Loaded) (name : List ℕ) → Grows None old (without_file old name)
grows-absent old name = grows-same old (without_file old name) refl (λ file bytes held. held) absent
  where
    or-true : (a b : Bool) → a ≡ true → (a || b) ≡ true
    or-true a b h = ap (λ t. t || b) h

    absent : (other : List ℕ) → is_absent old other ≡ true → is_absent (without_file old name) other ≡ true
    absent other h = list_any-append (bytes_eq other) old.absent (name ∷ []) ∙ or-true (is_absent old other) (list_any (bytes_eq other) (name ∷ [])) h

-- a name has a number, and it is the file of a stop, or is held
new-number : (old : Loaded) (name : List ℕ) (file : ℕ) → length old.names ≤ file → file < length (with_name old name).names → file ≡ number_of old name
new-number old name file least inside = by (list_any (bytes_eq name) old.names) refl
  where
    by : (b : Bool) → list_any (bytes_eq name) old.names ≡ b → file ≡ number_of old name
    by true h = let same = ap (λ (l : Loaded). length l.names) (with_name-known old name h) in absurd (omega (arith, same, least, inside))
    by false h =
        let behind = name-behind name old.names h in
        let more = names-with_name old name in
        let all = ap length more.1 ∙ length-append old.names more.0 in
        omega (arith, behind, all, more.2, least, inside)

pub grows-name : (apart : Option ℕ) (old : Loaded) (name : List ℕ) → IsOf apart (number_of old name) → Grows apart old (with_name old name)
grows-name apart old name of = record {
  begins = ((names-with_name old name).0, (names-with_name old name).1);
  held_too = λ file bytes held. held-with_name old name file ∙ held;
  absent_too = λ other absent. ap (list_any (bytes_eq other)) (absent-with_name old name) ∙ absent;
  new_held = λ file least inside. inr (subst (IsOf apart) (sym (new-number old name file least inside)) of);
}

-- its file is held then
pub held-now : (loaded : Loaded) (file : ℕ) (bytes : List ℕ) → file < length loaded.held → held_at (with_bytes loaded file bytes) file ≡ Some bytes
held-now loaded file bytes inside = get_or-set_same loaded.held file (Some bytes) None inside

pub held-other : (loaded : Loaded) (file other : ℕ) (bytes : List ℕ) → other ≢ file → held_at (with_bytes loaded file bytes) other ≡ held_at loaded other
held-other loaded file other bytes apart = get_or-set_other loaded.held file other (Some bytes) None apart

pub grows-loaded : (old : Loaded) (name bytes : List ℕ) → HasSlots old → is_held old (number_of old name) ≡ false → Grows None old (with_bytes (with_name old name) (number_of old name) bytes)
grows-loaded old name bytes slots none = record {
  begins = ((names-with_name old name).0, (names-with_name old name).1);
  held_too = λ file held bytes_are. held-other (with_name old name) (number_of old name) file bytes (λ same. true≢false (sym (ap is_some bytes_are) ∙ ap (is_held old) same ∙ none)) ∙ held-with_name old name file ∙ bytes_are;
  absent_too = λ other absent. ap (list_any (bytes_eq other)) (absent-with_name old name) ∙ absent;
  new_held = λ file least inside.
      let is = new-number old name file least inside in
      let here : number_of old name < length (with_name old name).held = omega (arith, number-inside old name, with_name-slots old name slots) in
      inl (ap (is_held (with_bytes (with_name old name) (number_of old name) bytes)) is ∙ ap is_some (held-now (with_name old name) (number_of old name) bytes here));
}

pub shown-with_bytes : (loaded : Loaded) (file : ℕ) (bytes : List ℕ) → shown (with_bytes loaded file bytes) ≡ with_found file (shown loaded)
shown-with_bytes loaded file bytes = ap (λ found. record { names = loaded.names; found = found }) (map-set is_some loaded.held file (Some bytes))

-- A NAME THAT IS KNOWN

or-cases : (a b : Bool) → (a || b) ≡ true → (a ≡ true) ⊎ (b ≡ true)
or-cases true b h = inl refl
or-cases false b h = inr h

or-left : (a b : Bool) → a ≡ true → (a || b) ≡ true
or-left a b h = ap (λ t. t || b) h

or-right : (a b : Bool) → b ≡ true → (a || b) ≡ true
or-right true b h = refl
or-right false b h = h

pub known-held : (loaded : Loaded) (name : List ℕ) → is_held loaded (number_of loaded name) ≡ true → is_known loaded name ≡ true
known-held loaded name h = or-left (is_held loaded (number_of loaded name)) (is_absent loaded name) h

pub known-absent : (loaded : Loaded) (name : List ℕ) → is_absent loaded name ≡ true → is_known loaded name ≡ true
known-absent loaded name h = or-right (is_held loaded (number_of loaded name)) (is_absent loaded name) h

pub number-grows : (apart : Option ℕ) (old new : Loaded) (name : List ℕ) → Grows apart old new → list_any (bytes_eq name) old.names ≡ true → number_of new name ≡ number_of old name
number-grows apart old new name grows among = ap (position_or_len (bytes_eq name)) grows.begins.1 ∙ name-kept name old.names grows.begins.0 among

pub known-grows : (apart : Option ℕ) (old new : Loaded) (name : List ℕ) → HasSlots old → Grows apart old new → is_known old name ≡ true → is_known new name ≡ true
known-grows apart old new name slots grows known = by (or-cases (is_held old (number_of old name)) (is_absent old name) known)
  where
    by : (is_held old (number_of old name) ≡ true) ⊎ (is_absent old name ≡ true) → is_known new name ≡ true
    by (inl held) =
        let bytes = some-of (held_at old (number_of old name)) held in
        let number = number-grows apart old new name grows (held-among old name slots held) in
        known-held new name (ap (is_held new) number ∙ ap is_some (grows.held_too (number_of old name) bytes.0 bytes.1))
    by (inr absent) = known-absent new name (grows.absent_too name absent)

-- THE PLACE OF A REFUSAL

file_in : {A : Type 0} → ℕ → Result A Refusal → ℕ
file_in file (Ok answer) = file
file_in file (Err refusal) = refusal.place.file

-- bytes are refused at a place in their file
pub refused-file : (file : ℕ) (bytes : List ℕ) (refusal : Refusal) → IsRefusedAs file bytes refusal → refusal.place.file ≡ file
unfolding flat_of file_in
refused-file file bytes refusal (inl flat) = by (flat_text bytes) flat
  where
    by : (text : Result (List Character) Character) → unless_refused file bytes text ≡ Err refusal → refusal.place.file ≡ file
    by (Ok text) e = sym (ap (file_in file) e)
    by (Err backslash) e = sym (ap (file_in file) e)
refused-file file bytes refusal (inr is) = ap (λ (r : Refusal). r.place.file) is.2.3
