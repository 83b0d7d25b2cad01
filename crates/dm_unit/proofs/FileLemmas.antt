-- What a search leaves of the files of the call, and what is known of the file that it finds or at which it stops.
use Rattle.std.proofs.Common.{◌≡◌, ◌≢◌, ℕ, zero, suc, ◌+◌, ◌<◌, ◌≤◌, Bool, true, false, cond, not, ◌||◌, ◌⊎◌, inl, inr, List, [], ◌∷◌, ◌++◌, length, get_or, Option, None, Some, Result, Ok, Err, is_some, nat_lt, refl, sym, ap, ◌∙◌, subst, arith, bytes_eq, true≢false}
use Rattle.std.specs.List.{list_any, position_or_len, position_from}
use Rattle.std.proofs.lemmas.Bool.{ltb-true, ltb-false}
use Rattle.std.proofs.lemmas.List.{length-append, get_or_past, get_or_append_left}
use Rattle.std.proofs.lemmas.List.Folds.{list_any-append}
use Rattle.std.proofs.lemmas.Slice.Eq.{bytes_eq-Decides}
use Rattle.dm_token.specs.declared.stop.Stop.{Stop}
use Rattle.dm_token.specs.declared.stop.Stop.TheVariants.{ReadFault}
use Rattle.dm_io.specs.Files.{Files, file_at}
use Rattle.dm_search.specs.Headers.{headers, header_number, header_names}
use Rattle.dm_search.specs.Fresh.{StartsWithHeaders}
use Rattle.dm_search.specs.Loaded.{Loaded, number_of, name_of, held_at, is_held, is_absent, with_name, with_bytes}
use Rattle.dm_search.specs.CallFiles.{known_or, file_for}
use Rattle.dm_search.specs.Loading.{Loads}
use Rattle.dm_search.specs.Searching.{IsUnknown, PassesOver, EndsAt, Finds}
use Rattle.dm_unit.specs.Loaders.{Grows, WasUnknown}
use Rattle.dm_unit.specs.Views.{IsHeld}
use Rattle.dm_unit.proofs.NameLemmas.{HasSlots, name-at, name-behind, name-kept, held-among, with_name-slots, number-with_name, name-with_name, number-inside, held-with_name, absent-with_name, names-with_name}
use Rattle.dm_unit.proofs.GrowLemmas.{some-of, held-now, held-other, number-grows}
use Rattle.dm_search.proofs.CallLemmas.{passes-same}
use Rattle.dm_unit.proofs.SearchLemmas.{unknown-file, held-file, passes-slots, passes-grows, read-bytes}

-- THE FILES OF THE CALL STAY

-- a name that isn't among some has no place in front of their end
name-past : (name : List ℕ) (names more : List (List ℕ)) → list_any (bytes_eq name) names ≡ false → length names ≤ position_or_len (bytes_eq name) (names ++ more)
name-past name [] more h = omega arith
name-past name (x ∷ xs) more h = by (bytes_eq name x) h (name-past name xs more)
  where
    by : (b : Bool) → (b || list_any (bytes_eq name) xs) ≡ false → (list_any (bytes_eq name) xs ≡ false → length xs ≤ position_or_len (bytes_eq name) (xs ++ more))
        → length (x ∷ xs) ≤ cond (not b) (1 + position_or_len (bytes_eq name) (xs ++ more)) 0
    by true h next = absurd (true≢false h)
    by false h next = let rest = next h in omega (arith, rest)

-- what is held for a name stays when another has a number
pub call-held : (old : Loaded) (name other : List ℕ) → HasSlots old → held_at (with_name old name) (number_of (with_name old name) other) ≡ held_at old (number_of old other)
call-held old name other slots = held-with_name old name (number_of (with_name old name) other) ∙ by (list_any (bytes_eq other) old.names) refl
  where
    more : List (List ℕ)
    more = (names-with_name old name).0

    by : (b : Bool) → list_any (bytes_eq other) old.names ≡ b → held_at old (number_of (with_name old name) other) ≡ held_at old (number_of old other)
    by true h = ap (held_at old) (ap (position_or_len (bytes_eq other)) (names-with_name old name).1 ∙ name-kept other old.names (names-with_name old name).0 h)
    by false h =
        let far : length old.names ≤ number_of (with_name old name) other = subst (λ ns. length old.names ≤ position_or_len (bytes_eq other) ns) (sym (names-with_name old name).1) (name-past other old.names (names-with_name old name).0 h) in
        let behind = name-behind other old.names h in
        get_or_past old.held (number_of (with_name old name) other) None (omega (arith, far, slots)) ∙ sym (get_or_past old.held (number_of old other) None (omega (arith, behind, slots)))

pub named-same : (files : Files) (old : Loaded) (name other : List ℕ) → HasSlots old → file_for (with_name old name) files other ≡ file_for old files other
named-same files old name other slots =
    ap (λ absent. known_or (held_at (with_name old name) (number_of (with_name old name) other)) (list_any (bytes_eq other) absent) (file_at files other)) (absent-with_name old name)
    ∙ ap (λ held. known_or held (is_absent old other) (file_at files other)) (call-held old name other slots)

-- a name with the number of another is that other
pub same-number : (l : Loaded) (other name : List ℕ) → name_of l (number_of l name) ≡ name → number_of l name < length l.names → number_of l other ≡ number_of l name → other ≡ name
same-number l other name is inside same = by (list_any (bytes_eq other) l.names) refl
  where
    by : (b : Bool) → list_any (bytes_eq other) l.names ≡ b → other ≡ name
    by true h = sym (name-at other l.names h) ∙ ap (name_of l) same ∙ is
    by false h = let behind = name-behind other l.names h in absurd (omega (arith, behind, inside, same))

pub loaded-same : (files : Files) (old : Loaded) (name bytes other : List ℕ) → HasSlots old → IsUnknown old name → file_at files name ≡ Some bytes
    → file_for (with_bytes (with_name old name) (number_of old name) bytes) files other ≡ file_for old files other
loaded-same files old name bytes other slots unknown is = by (bytes_eq other name) refl
  where
    l : Loaded
    l = with_name old name

    by : (b : Bool) → bytes_eq other name ≡ b → file_for (with_bytes (with_name old name) (number_of old name) bytes) files other ≡ file_for old files other
    by true h =
        let same : other ≡ name = (bytes_eq-Decides other name).0 h in
        let inside : number_of old name < length (with_name old name).held = omega (arith, number-inside old name, with_name-slots old name slots) in
        let held : held_at (with_bytes (with_name old name) (number_of old name) bytes) (number_of (with_name old name) name) ≡ Some bytes =
        ap (held_at (with_bytes (with_name old name) (number_of old name) bytes)) (number-with_name old name) ∙ held-now (with_name old name) (number_of old name) bytes inside in
        ap (file_for (with_bytes (with_name old name) (number_of old name) bytes) files) same
        ∙ held-file files (with_bytes (with_name old name) (number_of old name) bytes) name bytes held
        ∙ sym (ap (file_for old files) same ∙ unknown-file files old name unknown ∙ is)
    by false h =
        let apart : number_of (with_name old name) other ≢ number_of old name = λ same. true≢false (sym ((bytes_eq-Decides other name).1
        (same-number (with_name old name) other name (ap (name_of (with_name old name)) (number-with_name old name) ∙ name-with_name old name)
        (subst (λ n. n < length (with_name old name).names) (sym (number-with_name old name)) (number-inside old name)) (same ∙ sym (number-with_name old name)))) ∙ h) in
        ap (λ held. known_or held (is_absent (with_name old name) other) (file_at files other)) (held-other (with_name old name) (number_of old name) (number_of (with_name old name) other) bytes apart)
        ∙ named-same files old name other slots

ends-same : (files : Files) (name : List ℕ) (old : Loaded) (result : Result (Option ℕ) Stop) (new : Loaded) → HasSlots old → EndsAt (Some files) name old result new → (other : List ℕ) → file_for new files other ≡ file_for old files other
ends-same files name old (Ok None) new slots ends other = absurd ends
ends-same files name old (Ok (Some number)) new slots ends other = by ends.1
  where
    by : ((is_held old number ≡ true) × (new ≡ old)) ⊎ (IsUnknown old name × Loads (Some files) name (with_name old name) number (Ok true) new) → file_for new files other ≡ file_for old files other
    by (inl held) = ap (λ (l : Loaded). file_for l files other) held.1
    by (inr loads) =
        ap (λ (l : Loaded). file_for l files other) (loads.1.4 ∙ ap (λ n. with_bytes (with_name old name) n loads.1.0) ends.0)
        ∙ loaded-same files old name loads.1.0 other slots loads.0 (read-bytes (file_at files name) loads.1.0 loads.1.1).0
ends-same files name old (Err stop) new slots (inl memory) other = by memory.1
  where
    by : (new ≡ old) ⊎ (new ≡ with_name old name) → file_for new files other ≡ file_for old files other
    by (inl same) = ap (λ (l : Loaded). file_for l files other) same
    by (inr named) = ap (λ (l : Loaded). file_for l files other) named ∙ named-same files old name other slots
ends-same files name old (Err stop) new slots (inr stops) other = ap (λ (l : Loaded). file_for l files other) stops.2 ∙ named-same files old name other slots

pub finds-same : (files : Files) (header : Option ℕ) (names : List (List ℕ)) (old : Loaded) (result : Result (Option ℕ) Stop) (new : Loaded) → HasSlots old → Finds (Some files) header names old result new
    → (other : List ℕ) → file_for new files other ≡ file_for old files other
unfolding Finds
finds-same files header [] old result new slots finds other = ap (λ (l : Loaded). file_for l files other) finds.1
finds-same files header (name ∷ names) old result new slots (inl ends) other = ends-same files name old result new slots ends other
finds-same files header (name ∷ names) old result new slots (inr passes) other =
    finds-same files header names passes.0 result new (passes-slots (Some files) name old passes.0 passes.1 slots) passes.2 other ∙ passes-same files name old passes.0 passes.1 other

-- THE FILE THAT IS FOUND

-- a file that is held has the number of a name
pub held-inside : (l : Loaded) (file : ℕ) → HasSlots l → is_held l file ≡ true → file < length l.names
held-inside l file slots held = by (nat_lt file (length l.names)) refl
  where
    by : (b : Bool) → nat_lt file (length l.names) ≡ b → file < length l.names
    by true h = ltb-true file (length l.names) h
    by false h = let far = ltb-false file (length l.names) h in absurd (true≢false (sym held ∙ ap is_some (get_or_past l.held file None (omega (arith, far, slots)))))

pub held-grows : (apart : Option ℕ) (old new : Loaded) (file : ℕ) → Grows apart old new → IsHeld old file → IsHeld new file
held-grows apart old new file grows is =
    let bytes = some-of (held_at old file) is.held in
    let inside = is.inside in
    let same : name_of new file ≡ name_of old file = ap (λ ns. get_or ns file []) grows.begins.1 ∙ get_or_append_left old.names grows.begins.0 [] file inside in
    record {
      inside = let all = ap length grows.begins.1 ∙ length-append old.names grows.begins.0 in omega (arith, inside, all);
      held = ap is_some (grows.held_too file bytes.0 bytes.1);
      named = ap (number_of new) same ∙ number-grows apart old new (name_of old file) grows (among (list_any (bytes_eq (name_of old file)) old.names) refl) ∙ is.named;
    }
  where
    among : (b : Bool) → list_any (bytes_eq (name_of old file)) old.names ≡ b → list_any (bytes_eq (name_of old file)) old.names ≡ true
    among true h = h
    among false h =
        let behind = name-behind (name_of old file) old.names h in
        let inside = is.inside in
        let named = is.named in
        absurd (omega (arith, behind, inside, named))

ends-held : (told : Option Files) (name : List ℕ) (old : Loaded) (number : ℕ) (new : Loaded) → HasSlots old → EndsAt told name old (Ok (Some number)) new → IsHeld new number
ends-held told name old number new slots ends = by ends.1
  where
    by : ((is_held old number ≡ true) × (new ≡ old)) ⊎ (IsUnknown old name × Loads told name (with_name old name) number (Ok true) new) → IsHeld new number
    by (inl held) =
        let here : is_held old (number_of old name) ≡ true = ap (is_held old) (sym ends.0) ∙ held.0 in
        let at = name-at name old.names (held-among old name slots here) in
        subst (λ (l : Loaded). IsHeld l number) (sym held.1) (subst (IsHeld old) (sym ends.0) (record { inside = held-inside old (number_of old name) slots here; held = here; named = ap (number_of old) at }))
    by (inr loads) =
        let inside : number_of old name < length (with_name old name).held = omega (arith, number-inside old name, with_name-slots old name slots) in
        subst (λ (l : Loaded). IsHeld l number) (sym (loads.1.4 ∙ ap (λ n. with_bytes (with_name old name) n loads.1.0) ends.0))
        (subst (IsHeld (with_bytes (with_name old name) (number_of old name) loads.1.0)) (sym ends.0)
        (record {
          inside = number-inside old name;
          held = ap is_some (held-now (with_name old name) (number_of old name) loads.1.0 inside);
          named = ap (number_of (with_name old name)) (name-with_name old name) ∙ number-with_name old name;
        }))

pub finds-held : (told : Option Files) (header : Option ℕ) (names : List (List ℕ)) (old : Loaded) (number : ℕ) (new : Loaded) → HasSlots old → ((n : ℕ) → header ≡ Some n → IsHeld old n)
    → Finds told header names old (Ok (Some number)) new → IsHeld new number
unfolding Finds
finds-held told header [] old number new slots built finds =
    let is : header ≡ Some number = cc in
    subst (λ (l : Loaded). IsHeld l number) (sym finds.1) (built number is)
finds-held told header (name ∷ names) old number new slots built (inl ends) = ends-held told name old number new slots ends
finds-held told header (name ∷ names) old number new slots built (inr passes) =
    finds-held told header names passes.0 number new (passes-slots told name old passes.0 passes.1 slots)
    (λ n is. held-grows None old passes.0 n (passes-grows told name old passes.0 passes.1) (built n is)) passes.2

-- THE BUILT-IN HEADERS

position_from-lt : {A : Type 0} (p : A → Bool) (i : ℕ) (xs : List A) (n : ℕ) → position_from p i xs ≡ Some n → n < i + length xs
position_from-lt p i [] n is = absurd (cc)
position_from-lt p i (x ∷ xs) n is = by (p x) is (position_from-lt p (i + 1) xs n)
  where
    by : (b : Bool) → cond b (Some i) (position_from p (i + 1) xs) ≡ Some n → (position_from p (i + 1) xs ≡ Some n → n < i + 1 + length xs) → n < i + length (x ∷ xs)
    by true e next = let same : i ≡ n = cc in omega (arith, same)
    by false e next = let rest = next e in omega (arith, rest)

header-lt : (name : List ℕ) (n : ℕ) → header_number name ≡ Some n → n < 6
unfolding header_number
header-lt name n is = position_from-lt (λ header. bytes_eq name header.0) 0 headers n is

header-named : (others : List (List ℕ)) (n : ℕ) → n < 6 → position_or_len (bytes_eq (get_or (header_names ++ others) n [])) (header_names ++ others) ≡ n
header-named others zero h = refl
header-named others (suc zero) h = refl
header-named others (suc (suc zero)) h = refl
header-named others (suc (suc (suc zero))) h = refl
header-named others (suc (suc (suc (suc zero)))) h = refl
header-named others (suc (suc (suc (suc (suc zero))))) h = refl
header-named others (suc (suc (suc (suc (suc (suc n)))))) h = absurd (omega (arith, h))

header-inside : (others : List (List ℕ)) (n : ℕ) → n < 6 → n < length (header_names ++ others)
header-inside others n few = let long : length (header_names ++ others) ≡ suc (suc (suc (suc (suc (suc (length others)))))) = refl in omega (arith, few, long)

pub header-held : (l : Loaded) (name : List ℕ) (n : ℕ) → StartsWithHeaders l → header_number name ≡ Some n → IsHeld l n
header-held l name n starts is =
    let few = header-lt name n is in
    record {
      inside = subst (λ names. n < length names) (sym starts.0.1) (header-inside starts.0.0 n few);
      held = starts.1 n few;
      named = subst (λ names. position_or_len (bytes_eq (get_or names n [])) names ≡ n) (sym starts.0.1) (header-named starts.0.0 n few);
    }

-- THE FILE OF A FAULT

or-no : (a b : Bool) → (a || b) ≡ false → a ≡ false
or-no true b h = absurd (true≢false h)
or-no false b h = refl

-- of a name that is passed over nothing else becomes known
passes-unknown : (told : Option Files) (name : List ℕ) (old next : Loaded) (file : ℕ) (other : List ℕ) → PassesOver told name old next → is_held next file ≡ false → is_absent next other ≡ false
    → (is_held old file ≡ false) × (is_absent old other ≡ false)
passes-unknown told name old next file other (inl known) held absent =
    (sym (ap (λ (l : Loaded). is_held l file) known.1) ∙ held, sym (ap (λ (l : Loaded). is_absent l other) known.1) ∙ absent)
passes-unknown told name old next file other (inr unknown) held absent = (
  sym (ap (λ (l : Loaded). is_held l file) unknown.2) ∙ held,
  or-no (is_absent old other) (list_any (bytes_eq other) (name ∷ [])) (sym (list_any-append (bytes_eq other) old.absent (name ∷ [])) ∙ sym (ap (λ (l : Loaded). is_absent l other) unknown.2) ∙ absent),
)

pub finds-fault : (told : Option Files) (header : Option ℕ) (names : List (List ℕ)) (old : Loaded) (file : ℕ) (new : Loaded) → Finds told header names old (Err (ReadFault file)) new → WasUnknown old new file
unfolding Finds
finds-fault told header [] old file new finds = absurd (cc)
finds-fault told header (name ∷ names) old file new (inl (inl memory)) = absurd (cc)
finds-fault told header (name ∷ names) old file new (inl (inr stops)) =
    let named : name_of new file ≡ name = ap (λ (l : Loaded). name_of l file) stops.2 ∙ ap (name_of (with_name old name)) stops.1 ∙ name-with_name old name in
    (ap (is_held old) stops.1 ∙ stops.0.0, ap (is_absent old) named ∙ stops.0.1)
finds-fault told header (name ∷ names) old file new (inr passes) =
    let rest = finds-fault told header names passes.0 file new passes.2 in
    passes-unknown told name old passes.0 file (name_of new file) passes.1 rest.0 rest.1
