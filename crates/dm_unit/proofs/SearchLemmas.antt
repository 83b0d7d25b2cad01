-- A search by a loader is the search of the definition.
use Rattle.std.proofs.Common.{◌≡◌, ◌≢◌, ℕ, ◌<◌, ◌≤◌, Bool, true, false, cond, ◌||◌, ◌⊎◌, inl, inr, List, [], ◌∷◌, length, drop, map, count_by, Option, None, Some, Result, Ok, Err, is_some, get_or, nat_lt, nat_le, refl, sym, ap, ◌∙◌, subst, arith, bytes_eq}
use Rattle.std.proofs.lemmas.Bool.{lt-leb, le-leb}
use Rattle.std.proofs.lemmas.List.{drop-map}
use Rattle.std.proofs.lemmas.List.Sums.{sum_by-append}
use Rattle.std.proofs.lemmas.List.Folds.{list_any-append}
use Rattle.std.proofs.lemmas.Slice.Eq.{bytes_eq-Decides}
use Rattle.dm_token.specs.LimitNumbers as limits
use Rattle.dm_token.specs.declared.stop.Stop.{Stop}
use Rattle.dm_token.specs.declared.stop.Stop.TheVariants.{Memory, Refused, Limit, ReadFault}
use Rattle.dm_token.specs.Limits.{source_length_limit, most_files}
use Rattle.dm_io.specs.declared.folder.Got.TheVariants.{Bytes, Long}
use Rattle.dm_io.specs.Answers as io
use Rattle.dm_io.specs.Files.{Files, file_at}
use Rattle.dm_search.specs.Loaded.{Loaded, number_of, name_of, held_at, is_held, is_absent, with_name, with_bytes}
use Rattle.dm_search.specs.Loaded as loaded
use Rattle.dm_search.specs.CallFiles.{known_or, file_for}
use Rattle.dm_search.specs.Readable.{IsReadable}
use Rattle.dm_search.specs.Loading.{HasBytes, StopsLoading, Loads}
use Rattle.dm_search.specs.Searching.{IsUnknown, PassesOver, EndsAt, Finds}
use Rattle.dm_search.proofs.CallLemmas.{nothing-known, passed-none, passes-same}
use Rattle.dm_unit.specs.States.{Setting, Catalogue, limit}
use Rattle.dm_unit.specs.Sources.{reading_of}
use Rattle.dm_unit.specs.Loaders.{Grows, IsOf, is_known, shown, file_of, stopped_at}
use Rattle.dm_unit.specs.Includes.{Sought, sought, HasNumber, LooksAt, Searches, MayFind, found_as, found_files, first_found, if_readable, number_in, numbered}
use Rattle.dm_unit.specs.Views.{Stops, SearchLeads}
use Rattle.dm_unit.proofs.SourceLemmas.{reading-tokens, reading-refused}
use Rattle.dm_unit.proofs.NameLemmas.{HasSlots, held-among, with_name-known, with_name-slots, shown-with_name, number-with_name, name-with_name, number-inside, held-with_name, found-is}
use Rattle.dm_unit.proofs.GrowLemmas.{some-of, grows-refl, grows-trans, grows-absent, grows-name, grows-loaded, held-now, shown-with_bytes, known-held, known-absent, refused-file}

-- WHAT IS KNOWN OF A FILE

-- the file of a name of which nothing is known is the folder's
pub unknown-file : (files : Files) (old : Loaded) (name : List ℕ) → IsUnknown old name → file_for old files name ≡ file_at files name
unknown-file files old name unknown = nothing-known (held_at old (number_of old name)) (is_absent old name) (file_at files name) unknown.0 unknown.1

-- that of a name whose file is held is what is held
pub held-file : (files : Files) (old : Loaded) (name bytes : List ℕ) → held_at old (number_of old name) ≡ Some bytes → file_for old files name ≡ Some bytes
held-file files old name bytes held = ap (λ o. known_or o (is_absent old name) (file_at files name)) held

-- WHAT A READING SAYS

pub read-bytes : (file : Option (List ℕ)) (bytes : List ℕ) → Bytes bytes ≡ io.reading_of file source_length_limit → (file ≡ Some bytes) × (nat_lt source_length_limit (length bytes) ≡ false)
read-bytes None bytes is = absurd (cc)
read-bytes (Some other) bytes is = by (nat_lt source_length_limit (length other)) refl is
  where
    by : (b : Bool) → nat_lt source_length_limit (length other) ≡ b → Bytes bytes ≡ cond b Long (Bytes other) → (◌≡◌ {A = Option (List ℕ)} (Some other) (Some bytes)) × (nat_lt source_length_limit (length bytes) ≡ false)
    by true h e = absurd (cc)
    by false h e = let same : other ≡ bytes = cc in (ap Some same, ap (λ bs. nat_lt source_length_limit (length bs)) (sym same) ∙ h)

read-long : (file : Option (List ℕ)) → Long ≡ io.reading_of file source_length_limit → (bytes : List ℕ) × (file ≡ Some bytes) × (nat_lt source_length_limit (length bytes) ≡ true)
read-long None is = absurd (cc)
read-long (Some bytes) is = by (nat_lt source_length_limit (length bytes)) refl is
  where
    by : (b : Bool) → nat_lt source_length_limit (length bytes) ≡ b → Long ≡ cond b Long (Bytes bytes) → (other : List ℕ) × (◌≡◌ {A = Option (List ℕ)} (Some bytes) (Some other)) × (nat_lt source_length_limit (length other) ≡ true)
    by true h e = (bytes, refl, h)
    by false h e = absurd (cc)

-- THE FILES THAT WERE FOUND

count-map : {A : Type 0} (f : A → Bool) (xs : List A) → count_by (λ w. w) (map f xs) ≡ count_by f xs
count-map f [] = refl
count-map f (x ∷ xs) =
    let a = sum_by-append (λ w. cond w 1 0) (f x ∷ []) (map f xs) in
    let b = sum_by-append (λ y. cond (f y) 1 0) (x ∷ []) xs in
    let rest = count-map f xs in omega (arith, a, b, rest)

pub found-count : (l : Loaded) → found_files (shown l) ≡ loaded.found_files l
found-count l = ap (count_by (λ w. w)) (drop-map is_some 6 l.held) ∙ count-map is_some (drop 6 l.held)

-- A FILE THAT IS FOUND FOR THE FIRST TIME

found-new : (l : Loaded) (number : ℕ) (bytes : List ℕ) → is_held l number ≡ false → found_as number bytes (shown l) ≡ first_found number bytes (shown l)
found-new l number bytes none = ap (λ b. cond b (Ok (sought (Some number) (shown l))) (first_found number bytes (shown l))) (found-is l number ∙ none)

first-long : (files : Catalogue) (number : ℕ) (bytes : List ℕ) → nat_lt source_length_limit (length bytes) ≡ true → first_found number bytes files ≡ Err (limit limits.file_bytes number)
unfolding first_found
first-long files number bytes long =
    ap (λ b. cond b (Err (limit limits.file_bytes number)) (cond (nat_le most_files (found_files files)) (Err (limit limits.files number)) (if_readable number files (reading_of number bytes)))) long

first-many : (files : Catalogue) (number : ℕ) (bytes : List ℕ) → nat_lt source_length_limit (length bytes) ≡ false → nat_le most_files (found_files files) ≡ true → first_found number bytes files ≡ Err (limit limits.files number)
unfolding first_found
first-many files number bytes short many =
    ap (λ b. cond b (Err (limit limits.file_bytes number)) (cond (nat_le most_files (found_files files)) (Err (limit limits.files number)) (if_readable number files (reading_of number bytes)))) short
    ∙ ap (λ b. cond b (Err (limit limits.files number)) (if_readable number files (reading_of number bytes))) many

first-read : (files : Catalogue) (number : ℕ) (bytes : List ℕ) → nat_lt source_length_limit (length bytes) ≡ false → nat_le most_files (found_files files) ≡ false → first_found number bytes files ≡ if_readable number files (reading_of number bytes)
unfolding first_found
first-read files number bytes short few =
    ap (λ b. cond b (Err (limit limits.file_bytes number)) (cond (nat_le most_files (found_files files)) (Err (limit limits.files number)) (if_readable number files (reading_of number bytes)))) short
    ∙ ap (λ b. cond b (Err (limit limits.files number)) (if_readable number files (reading_of number bytes))) few

few-found : (l : Loaded) → loaded.found_files l < most_files → nat_le most_files (found_files (shown l)) ≡ false
few-found l few = let count = found-count l in lt-leb most_files (found_files (shown l)) (omega (arith, count, few))

many-found : (l : Loaded) → most_files ≤ loaded.found_files l → nat_le most_files (found_files (shown l)) ≡ true
many-found l many = let count = found-count l in le-leb most_files (found_files (shown l)) (omega (arith, count, many))

-- THE END OF A SEARCH

-- the file of a name that ends the search, as the definition has it
ends-with : (setting : Setting) (header : Option ℕ) (name : List ℕ) (names : List (List ℕ)) (bytes : List ℕ) (files : Catalogue) (result : Result Sought Stop)
    → setting.source name ≡ Some bytes → MayFind (setting.looked name) result → HasNumber setting name files → result ≡ found_as (number_in files name) bytes (numbered name files)
    → Searches setting header (name ∷ names) files result
unfolding Searches
ends-with setting header name names bytes files result source may numbers is =
    inr (subst (λ s. LooksAt setting s name files (Searches setting header names files) result) (sym source) (may, numbers, is))

-- the number of a name at which a search ends has that name then
ends-named : (setting : Setting) (name : List ℕ) (old new : Loaded) → new.names ≡ (with_name old name).names
    → ((number : ℕ) → number < length new.names → setting.named number ≡ name_of new number) → setting.named (number_of old name) ≡ name
ends-named setting name old new same named =
    named (number_of old name) (subst (λ (ns : List (List ℕ)). number_of old name < length ns) (sym same) (number-inside old name))
    ∙ ap (λ (ns : List (List ℕ)). get_or ns (number_of old name) []) same ∙ name-with_name old name

unknown-held : (old : Loaded) (name : List ℕ) → IsUnknown old name → is_held (with_name old name) (number_of old name) ≡ false
unknown-held old name unknown = ap is_some (held-with_name old name (number_of old name)) ∙ unknown.0

-- a file that was held
pub leads-held : (setting : Setting) (files : Files) (header : Option ℕ) (name : List ℕ) (names : List (List ℕ)) (old : Loaded) → HasSlots old
    → file_for old files name ≡ setting.source name → setting.looked name ≡ true → setting.named (number_of old name) ≡ name → is_held old (number_of old name) ≡ true
    → Searches setting header (name ∷ names) (shown old) (Ok (sought (Some (number_of old name)) (shown old)))
leads-held setting files header name names old slots served looked named held =
    let bytes = some-of (held_at old (number_of old name)) held in
    let among = held-among old name slots held in
    let same : numbered name (shown old) ≡ shown old = sym (shown-with_name old name) ∙ ap shown (with_name-known old name among) in
    ends-with setting header name names bytes.0 (shown old) _ (sym served ∙ held-file files old name bytes.0 bytes.1) looked named
    (sym (ap (found_as (number_of old name) bytes.0) same
    ∙ ap (λ b. cond b (Ok (sought (Some (number_of old name)) (shown old))) (first_found (number_of old name) bytes.0 (shown old))) (found-is old (number_of old name) ∙ held)))

-- a file that is loaded
pub leads-loaded : (setting : Setting) (files : Files) (header : Option ℕ) (name : List ℕ) (names : List (List ℕ)) (old : Loaded) (bytes : List ℕ)
    → file_for old files name ≡ setting.source name → setting.looked name ≡ true → setting.named (number_of old name) ≡ name → IsUnknown old name → HasBytes (Some files) name bytes → loaded.found_files (with_name old name) < most_files
    → IsReadable (number_of old name) bytes
    → Searches setting header (name ∷ names) (shown old) (Ok (sought (Some (number_of old name)) (shown (with_bytes (with_name old name) (number_of old name) bytes))))
leads-loaded setting files header name names old bytes served looked named unknown has few readable =
    let number = number_of old name in
    let now = with_name old name in
    let read = read-bytes (file_at files name) bytes has in
    ends-with setting header name names bytes (shown old) _ (sym served ∙ unknown-file files old name unknown ∙ read.0) looked named
    (sym (ap (found_as number bytes) (sym (shown-with_name old name))
    ∙ found-new now number bytes (unknown-held old name unknown)
    ∙ first-read (shown now) number bytes read.1 (few-found now few)
    ∙ ap (if_readable number (shown now)) (reading-tokens number bytes readable.1 readable.2)
    ∙ ap (λ (files : Catalogue). Ok (sought (Some number) files)) (sym (shown-with_bytes now number bytes))))

-- a file that stops the search
pub leads-stopped : (setting : Setting) (files : Files) (header : Option ℕ) (name : List ℕ) (names : List (List ℕ)) (old : Loaded) (stop : Stop)
    → file_for old files name ≡ setting.source name → setting.named (number_of old name) ≡ name → IsUnknown old name → StopsLoading (Some files) name (with_name old name) (number_of old name) stop
    → Stops (Searches setting header (name ∷ names) (shown old)) stop
unfolding Searches
leads-stopped setting files header name names old Memory served named unknown stops = tt
leads-stopped setting files header name names old (ReadFault number) served named unknown stops =
    inl (found-is old (number_of old name) ∙ unknown.0, named, ap (λ n. Err (ReadFault n)) stops)
leads-stopped setting files header name names old (Limit passed) served named unknown (inl long) =
    let read = read-long (file_at files name) long.1 in
    ends-with setting header name names read.0 (shown old) _ (sym served ∙ unknown-file files old name unknown ∙ read.1) tt named
    (ap (λ l. Err (Limit l)) long.0
    ∙ sym (ap (found_as (number_of old name) read.0) (sym (shown-with_name old name))
    ∙ found-new (with_name old name) (number_of old name) read.0 (unknown-held old name unknown)
    ∙ first-long (shown (with_name old name)) (number_of old name) read.0 read.2))
leads-stopped setting files header name names old (Limit passed) served named unknown (inr many) =
    let read = read-bytes (file_at files name) many.1 many.2 in
    ends-with setting header name names many.1 (shown old) _ (sym served ∙ unknown-file files old name unknown ∙ read.0) tt named
    (ap (λ l. Err (Limit l)) many.0
    ∙ sym (ap (found_as (number_of old name) many.1) (sym (shown-with_name old name))
    ∙ found-new (with_name old name) (number_of old name) many.1 (unknown-held old name unknown)
    ∙ first-many (shown (with_name old name)) (number_of old name) many.1 read.1 (many-found (with_name old name) many.3)))
leads-stopped setting files header name names old (Refused refusal) served named unknown stops =
    let read = read-bytes (file_at files name) stops.0 stops.1 in
    ends-with setting header name names stops.0 (shown old) _ (sym served ∙ unknown-file files old name unknown ∙ read.0) tt named
    (sym (ap (found_as (number_of old name) stops.0) (sym (shown-with_name old name))
    ∙ found-new (with_name old name) (number_of old name) stops.0 (unknown-held old name unknown)
    ∙ first-read (shown (with_name old name)) (number_of old name) stops.0 read.1 (few-found (with_name old name) stops.2)
    ∙ ap (if_readable (number_of old name) (shown (with_name old name))) (reading-refused (number_of old name) stops.0 refusal stops.3)))

-- A NAME THAT IS PASSED OVER

pub passes-grows : (told : Option Files) (name : List ℕ) (old next : Loaded) → PassesOver told name old next → Grows None old next
passes-grows told name old next (inl known) = subst (Grows None old) (sym known.1) (grows-refl None old)
passes-grows told name old next (inr unknown) = subst (Grows None old) (sym unknown.2) (grows-absent old name)

pub passes-slots : (told : Option Files) (name : List ℕ) (old next : Loaded) → PassesOver told name old next → HasSlots old → HasSlots next
passes-slots told name old next (inl known) slots = subst HasSlots (sym known.1) slots
passes-slots told name old next (inr unknown) slots = subst HasSlots (sym unknown.2) slots

pub passes-shown : (told : Option Files) (name : List ℕ) (old next : Loaded) → PassesOver told name old next → shown next ≡ shown old
passes-shown told name old next (inl known) = ap shown known.1
passes-shown told name old next (inr unknown) = ap shown unknown.2

or-true : (a : Bool) → (a || (true || false)) ≡ true
or-true true = refl
or-true false = refl

pub passes-absent : (told : Option Files) (name : List ℕ) (old next : Loaded) → PassesOver told name old next → is_absent next name ≡ true
passes-absent told name old next (inl known) = ap (λ (l : Loaded). is_absent l name) known.1 ∙ known.0.1
passes-absent told name old next (inr unknown) =
    ap (λ (l : Loaded). is_absent l name) unknown.2 ∙ list_any-append (bytes_eq name) old.absent (name ∷ [])
    ∙ ap (λ b. is_absent old name || (b || false)) ((bytes_eq-Decides name name).1 refl) ∙ or-true (is_absent old name)

-- WHAT A SEARCH LEAVES

-- a stop names the file at which the search ended
pub stop-file : (told : Option Files) (name : List ℕ) (l : Loaded) (file : ℕ) (stop : Stop) → StopsLoading told name l file stop → stop ≢ Memory → IsOf (file_of stop) file
stop-file told name l file Memory stops not = absurd (not refl)
stop-file told name l file (ReadFault number) stops not = sym stops
stop-file told name l file (Limit passed) (inl long) not = sym (ap (λ (p : _). p.file) long.0)
stop-file told name l file (Limit passed) (inr many) not = sym (ap (λ (p : _). p.file) many.0)
stop-file told name l file (Refused refusal) stops not = sym (refused-file file stops.0 refusal stops.3)

not-memory : {A : Type 0} (stop : Stop) → ◌≢◌ {A = Result A Stop} (Err stop) (Err Memory) → stop ≢ Memory
not-memory stop not same = not (ap Err same)

pub ends-grows : (told : Option Files) (name : List ℕ) (old : Loaded) (result : Result (Option ℕ) Stop) (new : Loaded) → HasSlots old → result ≢ Err Memory → EndsAt told name old result new → Grows (stopped_at result) old new
ends-grows told name old (Ok None) new slots not ends = absurd ends
ends-grows told name old (Ok (Some number)) new slots not ends = by ends.1
  where
    by : ((is_held old number ≡ true) × (new ≡ old)) ⊎ (IsUnknown old name × Loads told name (with_name old name) number (Ok true) new) → Grows None old new
    by (inl held) = subst (Grows None old) (sym held.1) (grows-refl None old)
    by (inr loads) =
        subst (Grows None old) (sym (loads.1.4 ∙ ap (λ n. with_bytes (with_name old name) n loads.1.0) ends.0)) (grows-loaded old name loads.1.0 slots loads.0.0)
ends-grows told name old (Err stop) new slots not (inl memory) = absurd (not (ap Err memory.0))
ends-grows told name old (Err stop) new slots not (inr stops) =
    subst (Grows (file_of stop) old) (sym stops.2) (grows-name (file_of stop) old name (stop-file told name (with_name old name) (number_of old name) stop stops.1 (not-memory stop not)))

pub finds-grows : (told : Option Files) (header : Option ℕ) (names : List (List ℕ)) (old : Loaded) (result : Result (Option ℕ) Stop) (new : Loaded) → HasSlots old → result ≢ Err Memory → Finds told header names old result new → Grows (stopped_at result) old new
unfolding Finds
finds-grows told header [] old result new slots not finds = subst (Grows (stopped_at result) old) (sym finds.1) (grows-refl (stopped_at result) old)
finds-grows told header (name ∷ names) old result new slots not (inl ends) = ends-grows told name old result new slots not ends
finds-grows told header (name ∷ names) old result new slots not (inr passes) =
    grows-trans (stopped_at result) old passes.0 new (passes-grows told name old passes.0 passes.1)
    (finds-grows told header names passes.0 result new (passes-slots told name old passes.0 passes.1 slots) not passes.2)

-- THE SEARCH

ends-leads : (setting : Setting) (files : Files) (header : Option ℕ) (name : List ℕ) (names : List (List ℕ)) (old : Loaded) (result : Result (Option ℕ) Stop) (new : Loaded) → HasSlots old
    → file_for old files name ≡ setting.source name → (is_known new name ≡ true → setting.looked name ≡ true)
    → ((number : ℕ) → number < length new.names → setting.named number ≡ name_of new number) → EndsAt (Some files) name old result new
    → SearchLeads setting header (name ∷ names) (shown old) result (shown new)
ends-leads setting files header name names old (Ok None) new slots served looked named ends = absurd ends
ends-leads setting files header name names old (Ok (Some number)) new slots served looked named ends =
    subst (λ n. Searches setting header (name ∷ names) (shown old) (Ok (sought (Some n) (shown new)))) (sym ends.0) (by ends.1)
  where
    by : ((is_held old number ≡ true) × (new ≡ old)) ⊎ (IsUnknown old name × Loads (Some files) name (with_name old name) number (Ok true) new)
        → Searches setting header (name ∷ names) (shown old) (Ok (sought (Some (number_of old name)) (shown new)))
    by (inl held) =
        let here : is_held old (number_of old name) ≡ true = ap (is_held old) (sym ends.0) ∙ held.0 in
        let known : is_known new name ≡ true = ap (λ (l : Loaded). is_known l name) held.1 ∙ known-held old name here in
        subst (λ (l : Loaded). Searches setting header (name ∷ names) (shown old) (Ok (sought (Some (number_of old name)) (shown l)))) (sym held.1)
        (leads-held setting files header name names old slots served (looked known)
        (ends-named setting name old new (ap (λ (l : Loaded). l.names) (held.1 ∙ sym (with_name-known old name (held-among old name slots here)))) named) here)
    by (inr loads) =
        let now = with_bytes (with_name old name) (number_of old name) loads.1.0 in
        let is : new ≡ now = loads.1.4 ∙ ap (λ n. with_bytes (with_name old name) n loads.1.0) ends.0 in
        let inside : number_of old name < length (with_name old name).held = omega (arith, number-inside old name, with_name-slots old name slots) in
        let held : is_held now (number_of now name) ≡ true = ap (is_held now) (number-with_name old name) ∙ ap is_some (held-now (with_name old name) (number_of old name) loads.1.0 inside) in
        let known : is_known new name ≡ true = ap (λ (l : Loaded). is_known l name) is ∙ known-held now name held in
        subst (λ (l : Loaded). Searches setting header (name ∷ names) (shown old) (Ok (sought (Some (number_of old name)) (shown l)))) (sym is)
        (leads-loaded setting files header name names old loads.1.0 served (looked known) (ends-named setting name old new (ap (λ (l : Loaded). l.names) is) named) loads.0 loads.1.1 loads.1.2 (subst (λ n. IsReadable n loads.1.0) ends.0 loads.1.3))
ends-leads setting files header name names old (Err stop) new slots served looked named (inl memory) = subst (Stops (Searches setting header (name ∷ names) (shown old))) (sym memory.0) tt
ends-leads setting files header name names old (Err stop) new slots served looked named (inr stops) =
    leads-stopped setting files header name names old stop served (ends-named setting name old new (ap (λ (l : Loaded). l.names) stops.2) named) stops.0 stops.1

-- behind a name that is passed over
over-search : (setting : Setting) (header : Option ℕ) (name : List ℕ) (names : List (List ℕ)) (files : Catalogue) (result : Result Sought Stop) → setting.source name ≡ None → setting.looked name ≡ true
    → Searches setting header names files result → Searches setting header (name ∷ names) files result
unfolding Searches
over-search setting header name names files result none looked rest =
    inr (subst (λ s. LooksAt setting s name files (Searches setting header names files) result) (sym none) (looked, rest))

over-leads : (setting : Setting) (header : Option ℕ) (name : List ℕ) (names : List (List ℕ)) (before : Catalogue) (result : Result (Option ℕ) Stop) (after : Catalogue) → setting.source name ≡ None
    → (result ≢ Err Memory → setting.looked name ≡ true) → SearchLeads setting header names before result after → SearchLeads setting header (name ∷ names) before result after
over-leads setting header name names before (Ok number) after none looked rest = over-search setting header name names before _ none (looked (λ same. (cc))) rest
over-leads setting header name names before (Err Memory) after none looked rest = tt
over-leads setting header name names before (Err (Refused refusal)) after none looked rest = over-search setting header name names before _ none (looked (λ same. (cc))) rest
over-leads setting header name names before (Err (Limit passed)) after none looked rest = over-search setting header name names before _ none (looked (λ same. (cc))) rest
over-leads setting header name names before (Err (ReadFault file)) after none looked rest = over-search setting header name names before _ none (looked (λ same. (cc))) rest

none-search : (setting : Setting) (header : Option ℕ) (files : Catalogue) → Searches setting header [] files (Ok (sought header files))
unfolding Searches
none-search setting header files = refl

pub finds-leads : (setting : Setting) (files : Files) (header : Option ℕ) (names : List (List ℕ)) (old : Loaded) (result : Result (Option ℕ) Stop) (new : Loaded) → HasSlots old
    → ((name : List ℕ) → file_for old files name ≡ setting.source name) → ((name : List ℕ) → is_known new name ≡ true → setting.looked name ≡ true)
    → ((number : ℕ) → number < length new.names → setting.named number ≡ name_of new number) → Finds (Some files) header names old result new → SearchLeads setting header names (shown old) result (shown new)
unfolding Finds
finds-leads setting files header [] old result new slots served looked named finds =
    subst (λ r. SearchLeads setting header [] (shown old) r (shown new)) (sym finds.0)
    (subst (λ (l : Loaded). Searches setting header [] (shown old) (Ok (sought header (shown l)))) (sym finds.1) (none-search setting header (shown old)))
finds-leads setting files header (name ∷ names) old result new slots served looked named (inl ends) =
    ends-leads setting files header name names old result new slots (served name) (looked name) named ends
finds-leads setting files header (name ∷ names) old result new slots served looked named (inr passes) =
    let next = passes.0 in
    let next_slots = passes-slots (Some files) name old next passes.1 slots in
    let rest = finds-leads setting files header names next result new next_slots (λ other. passes-same files name old next passes.1 other ∙ served other) looked named passes.2 in
    let known : result ≢ Err Memory → setting.looked name ≡ true = λ not.
    looked name (known-absent new name ((finds-grows (Some files) header names next result new next_slots not passes.2).absent_too name (passes-absent (Some files) name old next passes.1))) in
    over-leads setting header name names (shown old) result (shown new) (sym (served name) ∙ passed-none files name old next passes.1) known
    (subst (λ before. SearchLeads setting header names before result (shown new)) (passes-shown (Some files) name old next passes.1) rest)
