-- What a loader comes to know of files is what it has read of them, whether or not the folder tells its files.
use Rattle.std.proofs.Common.{◌≡◌, ◌≢◌, ℕ, ◌<◌, ◌≤◌, Bool, true, false, cond, ◌||◌, ◌⊎◌, inl, inr, List, [], ◌∷◌, length, Option, None, Some, Result, Ok, Err, is_some, refl, sym, ap, ◌∙◌, subst, arith, true≢false}
use Rattle.std.proofs.lemmas.Bool.{le-ltb}
use Rattle.dm_token.specs.declared.stop.Stop.{Stop}
use Rattle.dm_token.specs.Limits.{source_length_limit}
use Rattle.dm_io.specs.declared.folder.Got.TheVariants.{Bytes, Long}
use Rattle.dm_io.specs.Answers as io
use Rattle.dm_io.specs.Files.{Files, file_at}
use Rattle.dm_search.specs.Loaded.{Loaded, number_of, name_of, held_at, is_held, is_absent, with_name, with_bytes}
use Rattle.dm_search.specs.CallFiles.{known_or, file_for}
use Rattle.dm_search.specs.Loading.{Loads}
use Rattle.dm_search.specs.Searching.{IsUnknown, PassesOver, EndsAt, Finds}
use Rattle.dm_unit.specs.Loaders.{Grows, KeepsKnown, HasKnown, held_for, is_known}
use Rattle.dm_unit.proofs.NameLemmas.{HasSlots, with_name-slots, number-with_name, name-with_name, number-inside}
use Rattle.dm_unit.proofs.GrowLemmas.{held-now, held-other, known-grows, known-held, known-absent}
use Rattle.dm_unit.proofs.SearchLemmas.{unknown-file, passes-slots, passes-grows, passes-absent, finds-grows}
use Rattle.dm_unit.proofs.FileLemmas.{call-held, same-number}

-- WHAT IS KNOWN OF A NAME

-- the file of a known name is what is held for it
known-file : (files : Files) (l : Loaded) (name : List ℕ) → is_known l name ≡ true → file_for l files name ≡ held_for l name
known-file files l name known = by (held_at l (number_of l name)) (is_absent l name) known
  where
    by : (held : Option (List ℕ)) (absent : Bool) → (is_some held || absent) ≡ true → known_or held absent (file_at files name) ≡ held
    by (Some bytes) absent h = refl
    by None true h = refl
    by None false h = absurd (true≢false (sym h))

unknown-parts : (l : Loaded) (name : List ℕ) → is_known l name ≡ false → IsUnknown l name
unknown-parts l name h = by (is_held l (number_of l name)) (is_absent l name) h
  where
    by : (a b : Bool) → (a || b) ≡ false → (a ≡ false) × (b ≡ false)
    by true b e = absurd (true≢false e)
    by false b e = (refl, e)

not-known : (l : Loaded) (name : List ℕ) → IsUnknown l name → is_known l name ≡ false
not-known l name h = ap (λ b. b || is_absent l name) h.0 ∙ h.1

-- what wasn't known behind a call wasn't before
unknown-before : (old new : Loaded) (name : List ℕ) → KeepsKnown old new → is_known new name ≡ false → is_known old name ≡ false
unknown-before old new name keeps unknown = by (is_known old name) refl
  where
    by : (b : Bool) → is_known old name ≡ b → b ≡ false
    by false h = refl
    by true h = absurd (true≢false (sym (keeps name h).0 ∙ unknown))

pub keeps-trans : (l0 l1 l2 : Loaded) → KeepsKnown l0 l1 → KeepsKnown l1 l2 → KeepsKnown l0 l2
keeps-trans l0 l1 l2 first second name known = let early = first name known in let late = second name early.0 in (late.0, late.1 ∙ early.1)

-- FILES THAT HAVE WHAT BECAME KNOWN

pub known-early : (files : Files) (l0 l1 l2 : Loaded) → KeepsKnown l1 l2 → HasKnown files l0 l2 → HasKnown files l0 l1
known-early files l0 l1 l2 keeps has name unknown known = let still = keeps name known in has name unknown still.0 ∙ still.1

pub known-late : (files : Files) (l0 l1 l2 : Loaded) → KeepsKnown l0 l1 → HasKnown files l0 l2 → HasKnown files l1 l2
known-late files l0 l1 l2 keeps has name unknown known = has name (unknown-before l0 l1 name keeps unknown) known

-- the files of the call stay
pub known-served : (files : Files) (l0 l1 l2 : Loaded) → KeepsKnown l0 l1 → KeepsKnown l1 l2 → HasKnown files l0 l2 → (name : List ℕ) → file_for l1 files name ≡ file_for l0 files name
known-served files l0 l1 l2 first second has name = by (is_known l0 name) (is_known l1 name) refl refl
  where
    by : (a b : Bool) → is_known l0 name ≡ a → is_known l1 name ≡ b → file_for l1 files name ≡ file_for l0 files name
    by true b h k = let still = first name h in known-file files l1 name still.0 ∙ still.1 ∙ sym (known-file files l0 name h)
    by false true h k =
        known-file files l1 name k ∙ sym (known-early files l0 l1 l2 second has name h k) ∙ sym (unknown-file files l0 name (unknown-parts l0 name h))
    by false false h k = unknown-file files l1 name (unknown-parts l1 name k) ∙ sym (unknown-file files l0 name (unknown-parts l0 name h))

-- A SEARCH

-- a file that is loaded leaves what is held for other names
loaded-keeps : (old : Loaded) (name bytes other : List ℕ) → HasSlots old → IsUnknown old name → is_known old other ≡ true
    → held_for (with_bytes (with_name old name) (number_of old name) bytes) other ≡ held_for old other
loaded-keeps old name bytes other slots unknown known =
    held-other (with_name old name) (number_of old name) (number_of (with_name old name) other) bytes apart ∙ call-held old name other slots
  where
    apart : number_of (with_name old name) other ≢ number_of old name
    apart same =
        let is : other ≡ name = same-number (with_name old name) other name (ap (name_of (with_name old name)) (number-with_name old name) ∙ name-with_name old name)
        (subst (λ n. n < length (with_name old name).names) (sym (number-with_name old name)) (number-inside old name)) (same ∙ sym (number-with_name old name)) in
        true≢false (sym known ∙ ap (is_known old) is ∙ not-known old name unknown)

ends-keeps : (told : Option Files) (name : List ℕ) (old : Loaded) (result : Result (Option ℕ) Stop) (new : Loaded) (other : List ℕ) → HasSlots old → EndsAt told name old result new → is_known old other ≡ true
    → held_for new other ≡ held_for old other
ends-keeps told name old (Ok None) new other slots ends known = absurd ends
ends-keeps told name old (Ok (Some number)) new other slots ends known = by ends.1
  where
    by : ((is_held old number ≡ true) × (new ≡ old)) ⊎ (IsUnknown old name × Loads told name (with_name old name) number (Ok true) new) → held_for new other ≡ held_for old other
    by (inl held) = ap (λ (l : Loaded). held_for l other) held.1
    by (inr loads) =
        ap (λ (l : Loaded). held_for l other) (loads.1.4 ∙ ap (λ n. with_bytes (with_name old name) n loads.1.0) ends.0) ∙ loaded-keeps old name loads.1.0 other slots loads.0 known
ends-keeps told name old (Err stop) new other slots (inl memory) known = by memory.1
  where
    by : (new ≡ old) ⊎ (new ≡ with_name old name) → held_for new other ≡ held_for old other
    by (inl same) = ap (λ (l : Loaded). held_for l other) same
    by (inr named) = ap (λ (l : Loaded). held_for l other) named ∙ call-held old name other slots
ends-keeps told name old (Err stop) new other slots (inr stops) known = ap (λ (l : Loaded). held_for l other) stops.2 ∙ call-held old name other slots

passes-keeps : (told : Option Files) (name : List ℕ) (old next : Loaded) (other : List ℕ) → PassesOver told name old next → held_for next other ≡ held_for old other
passes-keeps told name old next other (inl known) = ap (λ (l : Loaded). held_for l other) known.1
passes-keeps told name old next other (inr unknown) = ap (λ (l : Loaded). held_for l other) unknown.2

pub finds-keeps : (told : Option Files) (header : Option ℕ) (names : List (List ℕ)) (old : Loaded) (result : Result (Option ℕ) Stop) (new : Loaded) (other : List ℕ) → HasSlots old → Finds told header names old result new
    → is_known old other ≡ true → held_for new other ≡ held_for old other
unfolding Finds
finds-keeps told header [] old result new other slots finds known = ap (λ (l : Loaded). held_for l other) finds.1
finds-keeps told header (name ∷ names) old result new other slots (inl ends) known = ends-keeps told name old result new other slots ends known
finds-keeps told header (name ∷ names) old result new other slots (inr passes) known =
    let next = passes.0 in
    finds-keeps told header names next result new other (passes-slots told name old next passes.1 slots) passes.2 (known-grows None old next other slots (passes-grows told name old next passes.1) known)
    ∙ passes-keeps told name old next other passes.1

-- a search that doesn't stop is one over files that have what became known
bytes-read : (file : Option (List ℕ)) (bytes : List ℕ) → file ≡ Some bytes → length bytes ≤ source_length_limit → Bytes bytes ≡ io.reading_of file source_length_limit
bytes-read file bytes is short =
    sym (ap (λ f. io.reading_of f source_length_limit) is ∙ ap (λ (b : Bool). cond b Long (Bytes bytes)) (le-ltb source_length_limit (length bytes) short))

ends-read : (files : Files) (told : Option Files) (name : List ℕ) (old : Loaded) (number : ℕ) (new : Loaded) → HasSlots old → HasKnown files old new → EndsAt told name old (Ok (Some number)) new
    → EndsAt (Some files) name old (Ok (Some number)) new
ends-read files told name old number new slots has ends = (ends.0, by ends.1)
  where
    by : ((is_held old number ≡ true) × (new ≡ old)) ⊎ (IsUnknown old name × Loads told name (with_name old name) number (Ok true) new)
        → ((is_held old number ≡ true) × (new ≡ old)) ⊎ (IsUnknown old name × Loads (Some files) name (with_name old name) number (Ok true) new)
    by (inl held) = inl held
    by (inr loads) =
        let bytes = loads.1.0 in
        let now = with_bytes (with_name old name) (number_of old name) bytes in
        let is : new ≡ now = loads.1.4 ∙ ap (λ n. with_bytes (with_name old name) n bytes) ends.0 in
        let inside : number_of old name < length (with_name old name).held = omega (arith, number-inside old name, with_name-slots old name slots) in
        let held : held_for now name ≡ Some bytes = ap (held_at now) (number-with_name old name) ∙ held-now (with_name old name) (number_of old name) bytes inside in
        let known : is_known new name ≡ true = ap (λ (l : Loaded). is_known l name) is ∙ known-held now name (ap is_some held) in
        let file : file_at files name ≡ Some bytes = has name (not-known old name loads.0) known ∙ ap (λ (l : Loaded). held_for l name) is ∙ held in
        inr (loads.0, (bytes, bytes-read (file_at files name) bytes file loads.1.3.0, loads.1.2, loads.1.3, loads.1.4))

none-held : (held : Option (List ℕ)) → is_some held ≡ false → held ≡ None
none-held None h = refl
none-held (Some bytes) h = absurd (true≢false h)

pub finds-read : (files : Files) (told : Option Files) (header : Option ℕ) (names : List (List ℕ)) (old : Loaded) (found : Option ℕ) (new : Loaded) → HasSlots old → HasKnown files old new
    → Finds told header names old (Ok found) new → Finds (Some files) header names old (Ok found) new
unfolding Finds
finds-read files told header [] old found new slots has finds = finds
finds-read files told header (name ∷ names) old None new slots has (inl ends) = absurd ends
finds-read files told header (name ∷ names) old (Some number) new slots has (inl ends) = inl (ends-read files told name old number new slots has ends)
finds-read files told header (name ∷ names) old found new slots has (inr passes) = inr (passes.0, over passes.1, finds-read files told header names passes.0 found new next_slots later passes.2)
  where
    next_slots : HasSlots passes.0
    next_slots = passes-slots told name old passes.0 passes.1 slots

    before : (other : List ℕ) → is_known passes.0 other ≡ false → (b : Bool) → is_known old other ≡ b → is_known old other ≡ false
    before other h false e = e
    before other h true e = absurd (true≢false (sym (known-grows None old passes.0 other slots (passes-grows told name old passes.0 passes.1) e) ∙ h))

    later : HasKnown files passes.0 new
    later other unknown known = has other (before other unknown (is_known old other) refl) known

    still : is_known passes.0 name ≡ true
    still = known-absent passes.0 name (passes-absent told name old passes.0 passes.1)

    over : PassesOver told name old passes.0 → PassesOver (Some files) name old passes.0
    over (inl known) = inl known
    over (inr unknown) = inr (unknown.0, sym (ap (λ file. io.reading_of file source_length_limit) none), unknown.2)
      where
        grows : Grows None passes.0 new
        grows = finds-grows told header names passes.0 (Ok found) new next_slots (λ e. cc) passes.2

        none : file_at files name ≡ None
        none =
            has name (not-known old name unknown.0) (known-grows None passes.0 new name next_slots grows still)
            ∙ finds-keeps told header names passes.0 (Ok found) new name next_slots passes.2 still
            ∙ passes-keeps told name old passes.0 name passes.1
            ∙ none-held (held_for old name) unknown.0.0
