-- What calls leave of the folder and the loader, one after another.
use Rattle.std.proofs.Common.{◌≡◌, ◌≢◌, ℕ, ◌+◌, ◌<◌, ◌≤◌, Bool, true, false, ◌⊎◌, inl, inr, List, [], ◌∷◌, length, Option, None, Some, Result, Ok, Err, is_some, refl, sym, ap, ◌∙◌, subst, arith, bytes_eq, true≢false}
use Rattle.std.specs.List.{list_any}
use Rattle.std.proofs.lemmas.List.{length-append}
use Rattle.dm_token.specs.declared.unit.Unit.{Unit as Source}
use Rattle.dm_token.specs.declared.stop.Stop.{Stop}
use Rattle.dm_token.specs.declared.stop.Stop.TheVariants.{Memory, ReadFault}
use Rattle.dm_io.specs.Files.{Files}
use Rattle.dm_io.specs.Faults.{Rose}
use Rattle.dm_search.specs.Headers.{header_number}
use Rattle.dm_search.specs.Fresh.{StartsWithHeaders}
use Rattle.dm_search.specs.Loaded.{Loaded, number_of, name_of, held_at, is_held, is_absent, with_name}
use Rattle.dm_search.specs.CallFiles.{file_for}
use Rattle.dm_search.specs.Loading.{StopsLoading, Loads}
use Rattle.dm_search.specs.Searching.{IsUnknown, PassesOver, EndsAt, Finds}
use Rattle.dm_unit.specs.States.{Setting}
use Rattle.dm_unit.specs.Loaders.{Grows, WasUnknown, held_for, is_known, stopped_at, shown}
use Rattle.dm_unit.specs.Views.{IsFaultless, Leaves, AreRead, Serves, SearchLeads, FindsHeld, stop_of, named_by, loaded_as}
use Rattle.dm_unit.proofs.NameLemmas.{HasSlots, name-at, name-behind, names-with_name, with_name-known}
use Rattle.dm_unit.proofs.GrowLemmas.{some-of, grows-refl, grows-trans, known-grows}
use Rattle.dm_unit.proofs.SearchLemmas.{finds-leads, finds-grows}
use Rattle.dm_unit.proofs.FileLemmas.{finds-same, finds-held, finds-fault, header-held}
use Rattle.dm_unit.proofs.KnownLemmas.{keeps-trans, finds-keeps, finds-read}

-- no stop is a fault
pub NoFault : Option Stop → Type 0
NoFault stop = (file : ℕ) → stop ≡ Some (ReadFault file) → ⊥

pub faultless : (stop : Stop) → IsFaultless stop → NoFault (Some stop)
unfolding NoFault
faultless stop is file e = let same : stop ≡ ReadFault file = cc in subst IsFaultless same is

-- nothing is done
pub leaves-refl : (told : Option Files) (room : List ℕ → ℕ) (faults : ℕ) (l : Loaded) (stop : Option Stop) → NoFault stop → Leaves told told room room faults faults l l stop
unfolding NoFault
leaves-refl told room faults l stop none = record {
  files_stay = refl;
  rooms_stay = λ other. refl;
  later = omega arith;
  failed = λ file e. absurd (none file e);
  unknown = λ file e. absurd (none file e);
  grows = λ not. grows-refl (named_by stop) l;
  knows = λ not name known. (known, refl);
  served = λ files told name. refl;
}

grows-weaken : (apart : Option ℕ) (a b : Loaded) → Grows None a b → Grows apart a b
grows-weaken apart a b grows = grows-trans apart a b b grows (grows-refl apart b)

not-held : (a b : Loaded) (file : ℕ) → Grows None a b → is_held b file ≡ false → is_held a file ≡ false
not-held a b file grows none = by (is_held a file) refl
  where
    by : (t : Bool) → is_held a file ≡ t → t ≡ false
    by false h = refl
    by true h = let bytes = some-of (held_at a file) h in absurd (true≢false (sym (ap is_some (grows.held_too file bytes.0 bytes.1)) ∙ none))

not-absent : (a b : Loaded) (name : List ℕ) → Grows None a b → is_absent b name ≡ false → is_absent a name ≡ false
not-absent a b name grows none = by (is_absent a name) refl
  where
    by : (t : Bool) → is_absent a name ≡ t → t ≡ false
    by false h = refl
    by true h = absurd (true≢false (sym (grows.absent_too name h) ∙ none))

pub none-memory : ◌≢◌ {A = Option Stop} None (Some Memory)
none-memory e = cc

-- one call and then another
pub leaves-trans : (t0 t1 t2 : Option Files) (r0 r1 r2 : List ℕ → ℕ) (f0 f1 f2 : ℕ) (l0 l1 l2 : Loaded) (stop : Option Stop) → Leaves t0 t1 r0 r1 f0 f1 l0 l1 None → Leaves t1 t2 r1 r2 f1 f2 l1 l2 stop
    → Leaves t0 t2 r0 r2 f0 f2 l0 l2 stop
leaves-trans t0 t1 t2 r0 r1 r2 f0 f1 f2 l0 l1 l2 stop first second =
    let grows : Grows None l0 l1 = first.grows none-memory in
    let early = first.later in
    record {
      files_stay = second.files_stay ∙ first.files_stay;
      rooms_stay = λ other. second.rooms_stay other ∙ first.rooms_stay other;
      later = let late = second.later in omega (arith, early, late);
      failed = λ file e. let rose = second.failed file e in omega (arith, early, rose);
      unknown = λ file e. let was = second.unknown file e in (not-held l0 l1 file grows was.0, not-absent l0 l1 (name_of l2 file) grows was.1);
      grows = λ not. grows-trans (named_by stop) l0 l1 l2 grows (second.grows not);
      knows = λ not. keeps-trans l0 l1 l2 (first.knows none-memory) (second.knows not);
      served = λ files told name. second.served files (first.files_stay ∙ told) name ∙ first.served files told name;
    }

-- a stop behind a call
pub leaves-stop : (t0 t1 : Option Files) (r0 r1 : List ℕ → ℕ) (f0 f1 : ℕ) (l0 l1 : Loaded) (stop : Option Stop) → NoFault stop → Leaves t0 t1 r0 r1 f0 f1 l0 l1 None → Leaves t0 t1 r0 r1 f0 f1 l0 l1 stop
unfolding NoFault
leaves-stop t0 t1 r0 r1 f0 f1 l0 l1 stop none first = record {
  files_stay = first.files_stay;
  rooms_stay = first.rooms_stay;
  later = first.later;
  failed = λ file e. absurd (none file e);
  unknown = λ file e. absurd (none file e);
  grows = λ not. grows-weaken (named_by stop) l0 l1 (first.grows none-memory);
  knows = λ not. first.knows none-memory;
  served = first.served;
}

-- A SEARCH

-- what the loader's call says
abbrev pub Found : Option Files → Option ℕ → List (List ℕ) → Loaded → Result (Option ℕ) Stop → Loaded → Type 0
Found told header names old result new = ((result ≡ Err Memory) × (new ≡ old)) ⊎ Finds told header names old result new

pub stop-is : {A : Type 0} (result : Result A Stop) (stop : Stop) → stop_of result ≡ Some stop → result ≡ Err stop
stop-is (Ok answer) stop e = absurd (cc)
stop-is (Err other) stop e = let same : other ≡ stop = cc in ap Err same

is-memory : {A : Type 0} (result : Result A Stop) → result ≡ Err Memory → stop_of result ≡ Some Memory
is-memory result e = ap stop_of e

pub stopped-named : {A : Type 0} (result : Result A Stop) → stopped_at result ≡ named_by (stop_of result)
stopped-named (Ok answer) = refl
stopped-named (Err stop) = refl

pub search-leaves : (told told_now : Option Files) (room room_now : List ℕ → ℕ) (faults faults_now : ℕ) (header : Option ℕ) (names : List (List ℕ)) (old : Loaded) (result : Result (Option ℕ) Stop) (new : Loaded)
    → HasSlots old → Found told header names old result new → ((file : ℕ) → result ≡ Err (ReadFault file) → Rose faults faults_now) → told_now ≡ told → ((other : List ℕ) → room_now other ≡ room other) → faults ≤ faults_now
    → Leaves told told_now room room_now faults faults_now old new (stop_of result)
search-leaves told told_now room room_now faults faults_now header names old result new slots found failed stay rooms later = record {
  files_stay = stay;
  rooms_stay = rooms;
  later = later;
  failed = λ file e. failed file (stop-is result (ReadFault file) e);
  unknown = λ file e. unknown file (stop-is result (ReadFault file) e) found;
  grows = λ not. subst (λ apart. Grows apart old new) (stopped-named result) (grows (λ e. not (is-memory result e)) found);
  knows = λ not name known. (known-grows (stopped_at result) old new name slots (grows (λ e. not (is-memory result e)) found) known, still name known found);
  served = λ files is name. served files is name found;
}
  where
    unknown : (file : ℕ) → result ≡ Err (ReadFault file) → Found told header names old result new → WasUnknown old new file
    unknown file e (inl memory) = absurd (by (sym memory.0 ∙ e))
      where
        by : ◌≡◌ {A = Result (Option ℕ) Stop} (Err Memory) (Err (ReadFault file)) → ⊥
        by e = cc
    unknown file e (inr finds) = finds-fault told header names old file new (subst (λ r. Finds told header names old r new) e finds)

    grows : result ≢ Err Memory → Found told header names old result new → Grows (stopped_at result) old new
    grows not (inl memory) = absurd (not memory.0)
    grows not (inr finds) = finds-grows told header names old result new slots not finds

    still : (name : List ℕ) → is_known old name ≡ true → Found told header names old result new → held_for new name ≡ held_for old name
    still name known (inl memory) = ap (λ (l : Loaded). held_for l name) memory.1
    still name known (inr finds) = finds-keeps told header names old result new name slots finds known

    served : (files : Files) → told ≡ Some files → (name : List ℕ) → Found told header names old result new → file_for new files name ≡ file_for old files name
    served files is name (inl memory) = ap (λ (l : Loaded). file_for l files name) memory.1
    served files is name (inr finds) = finds-same files header names old result new slots (subst (λ t. Finds t header names old result new) is finds) name

pub search-leads : (told : Option Files) (unit : Source) (main : ℕ) (header : Option ℕ) (names : List (List ℕ)) (old : Loaded) (result : Result (Option ℕ) Stop) (new : Loaded) (setting : Setting)
    → HasSlots old → Found told header names old result new → Serves told unit main old new (stop_of result) setting → SearchLeads setting header names (shown old) result (shown new)
search-leads told unit main header names old result new setting slots (inl memory) serves = subst (λ r. SearchLeads setting header names (shown old) r (shown new)) (sym memory.0) tt
search-leads told unit main header names old result new setting slots (inr finds) serves =
    finds-leads setting serves.files.0 header names old result new slots serves.files.2 serves.looked serves.named (read result serves.files.1 finds)
  where
    read : (result : Result (Option ℕ) Stop) → AreRead told old new (stop_of result) serves.files.0 → Finds told header names old result new → Finds (Some serves.files.0) header names old result new
    read result (inl are) finds = subst (λ t. Finds t header names old result new) are finds
    read (Ok found) (inr known) finds = finds-read serves.files.0 told header names old found new slots known.1 finds
    read (Err stop) (inr known) finds = absurd (no-stop known.0)
      where
        no-stop : ◌≡◌ {A = Option Stop} (Some stop) None → ⊥
        no-stop e = cc

pub search-held : (told : Option Files) (name : List ℕ) (names : List (List ℕ)) (old : Loaded) (result : Result (Option ℕ) Stop) (new : Loaded)
    → HasSlots old → StartsWithHeaders old → Found told (header_number name) names old result new → FindsHeld result new
search-held told name names old (Ok None) new slots starts found = tt
search-held told name names old (Err stop) new slots starts found = tt
search-held told name names old (Ok (Some file)) new slots starts (inl memory) = absurd (by memory.0)
  where
    by : ◌≡◌ {A = Result (Option ℕ) Stop} (Ok (Some file)) (Err Memory) → ⊥
    by e = cc
search-held told name names old (Ok (Some file)) new slots starts (inr finds) =
    finds-held told (header_number name) names old file new slots (λ n is. header-held old name n starts is) finds

-- it adds at most one name
ends-names : (told : Option Files) (name : List ℕ) (old : Loaded) (result : Result (Option ℕ) Stop) (new : Loaded) → EndsAt told name old result new → length new.names ≤ length old.names + 1
ends-names told name old (Ok None) new ends = absurd ends
ends-names told name old (Ok (Some number)) new ends = by ends.1
  where
    one : length (with_name old name).names ≤ length old.names + 1
    one = let more = names-with_name old name in let all = ap length more.1 ∙ length-append old.names more.0 in omega (arith, all, more.2)

    by : ((is_held old number ≡ true) × (new ≡ old)) ⊎ (IsUnknown old name × Loads told name (with_name old name) number (Ok true) new) → length new.names ≤ length old.names + 1
    by (inl held) = let same = ap (λ (l : Loaded). length l.names) held.1 in omega (arith, same)
    by (inr loads) = let same = ap (λ (l : Loaded). length l.names) loads.1.4 in let le = one in omega (arith, same, le)
ends-names told name old (Err stop) new (inl memory) = by memory.1
  where
    by : (new ≡ old) ⊎ (new ≡ with_name old name) → length new.names ≤ length old.names + 1
    by (inl same) = let e = ap (λ (l : Loaded). length l.names) same in omega (arith, e)
    by (inr named) = let e = ap (λ (l : Loaded). length l.names) named in let more = names-with_name old name in let all = ap length more.1 ∙ length-append old.names more.0 in omega (arith, e, all, more.2)
ends-names told name old (Err stop) new (inr stops) =
    let e = ap (λ (l : Loaded). length l.names) stops.2 in let more = names-with_name old name in let all = ap length more.1 ∙ length-append old.names more.0 in omega (arith, e, all, more.2)

passes-names : (told : Option Files) (name : List ℕ) (old next : Loaded) → PassesOver told name old next → length next.names ≡ length old.names
passes-names told name old next (inl known) = ap (λ (l : Loaded). length l.names) known.1
passes-names told name old next (inr unknown) = ap (λ (l : Loaded). length l.names) unknown.2

finds-names : (told : Option Files) (header : Option ℕ) (names : List (List ℕ)) (old : Loaded) (result : Result (Option ℕ) Stop) (new : Loaded) → Finds told header names old result new → length new.names ≤ length old.names + 1
unfolding Finds
finds-names told header [] old result new finds = let e = ap (λ (l : Loaded). length l.names) finds.1 in omega (arith, e)
finds-names told header (name ∷ names) old result new (inl ends) = ends-names told name old result new ends
finds-names told header (name ∷ names) old result new (inr passes) =
    let rest = finds-names told header names passes.0 result new passes.2 in let same = passes-names told name old passes.0 passes.1 in omega (arith, rest, same)

pub search-names : (told : Option Files) (header : Option ℕ) (names : List (List ℕ)) (old : Loaded) (result : Result (Option ℕ) Stop) (new : Loaded) → Found told header names old result new → length new.names ≤ length old.names + 1
search-names told header names old result new (inl memory) = let e = ap (λ (l : Loaded). length l.names) memory.1 in omega (arith, e)
search-names told header names old result new (inr finds) = finds-names told header names old result new finds

-- THE MAIN FILE

-- a loading is a search for the file's name
load-found : (told : Option Files) (name : List ℕ) (old : Loaded) (file : ℕ) (result : Result Bool Stop) (new : Loaded) → file ≡ number_of old name → list_any (bytes_eq name) old.names ≡ true
    → is_held old file ≡ false → is_absent old name ≡ false → Loads told name old file result new → Finds told None (name ∷ []) old (loaded_as file result) new
unfolding Finds
load-found told name old file (Ok true) new is among held absent loads =
    inl (is, inr ((ap (is_held old) (sym is) ∙ held, absent), subst (λ (l : Loaded). Loads told name l file (Ok true) new) (sym (with_name-known old name among)) loads))
load-found told name old file (Ok false) new is among held absent loads =
    inr (new, inr ((ap (is_held old) (sym is) ∙ held, absent), loads.0, loads.1), (refl, refl))
load-found told name old file (Err stop) new is among held absent loads =
    let same = with_name-known old name among in
    inl (inr ((ap (is_held old) (sym is) ∙ held, absent), subst (λ (l : Loaded). StopsLoading told name l (number_of old name) stop) (sym same) (subst (λ n. StopsLoading told name old n stop) is loads.0), loads.1 ∙ sym same))

pub loads-found : (told : Option Files) (name : List ℕ) (old : Loaded) (file : ℕ) (result : Result Bool Stop) (new : Loaded) → HasSlots old → file < length old.names → file ≡ number_of old name
    → (is_held old file ≡ true → (result ≡ Ok true) × (new ≡ old))
    → (is_held old file ≡ false → is_absent old (name_of old file) ≡ true → (result ≡ Ok false) × (new ≡ old))
    → (is_held old file ≡ false → is_absent old (name_of old file) ≡ false → Loads told (name_of old file) old file result new)
    → Found told None (name ∷ []) old (loaded_as file result) new
unfolding Finds
loads-found told name old file result new slots inside is held absent read = inr (by (is_held old file) (is_absent old name) refl refl)
  where
    among : list_any (bytes_eq name) old.names ≡ true
    among = there (list_any (bytes_eq name) old.names) refl
      where
        there : (b : Bool) → list_any (bytes_eq name) old.names ≡ b → b ≡ true
        there true h = refl
        there false h = let behind = name-behind name old.names h in absurd (omega (arith, behind, inside, is))

    named : name_of old file ≡ name
    named = ap (name_of old) is ∙ name-at name old.names among

    by : (h a : Bool) → is_held old file ≡ h → is_absent old name ≡ a → Finds told None (name ∷ []) old (loaded_as file result) new
    by true a h e =
        let known = held h in
        subst (λ r. Finds told None (name ∷ []) old (loaded_as file r) new) (sym known.0) (inl (is, inl (h, known.1)))
    by false true h e =
        let known = absent h (ap (is_absent old) named ∙ e) in
        subst (λ r. Finds told None (name ∷ []) old (loaded_as file r) new) (sym known.0) (inr (new, inl ((ap (is_held old) (sym is) ∙ h, e), known.1), (refl, refl)))
    by false false h e =
        load-found told name old file result new is among h e (subst (λ n. Loads told n old file result new) named (read h (ap (is_absent old) named ∙ e)))

-- its stop is that of the search
pub loaded-stop : (file : ℕ) (result : Result Bool Stop) → stop_of (loaded_as file result) ≡ stop_of result
loaded-stop file (Ok there) = refl
loaded-stop file (Err stop) = refl

pub loaded-failed : (file : ℕ) (result : Result Bool Stop) (stop : Stop) → loaded_as file result ≡ Err stop → result ≡ Err stop
loaded-failed file (Ok there) stop e = absurd (cc)
loaded-failed file (Err other) stop e = let same : other ≡ stop = cc in ap Err same

pub main-held : (told : Option Files) (names : List (List ℕ)) (old : Loaded) (result : Result (Option ℕ) Stop) (new : Loaded) → HasSlots old → Found told None names old result new → FindsHeld result new
main-held told names old (Ok None) new slots found = tt
main-held told names old (Err stop) new slots found = tt
main-held told names old (Ok (Some file)) new slots (inl memory) = absurd (by memory.0)
  where
    by : ◌≡◌ {A = Result (Option ℕ) Stop} (Ok (Some file)) (Err Memory) → ⊥
    by e = cc
main-held told names old (Ok (Some file)) new slots (inr finds) = finds-held told None names old file new slots (λ n is. absurd (by n is)) finds
  where
    by : (n : ℕ) → ◌≡◌ {A = Option ℕ} None (Some n) → ⊥
    by n e = cc

pub main-leaves : (told told_now : Option Files) (room room_now : List ℕ → ℕ) (faults faults_now : ℕ) (names : List (List ℕ)) (old : Loaded) (file : ℕ) (result : Result Bool Stop) (new : Loaded)
    → HasSlots old → Found told None names old (loaded_as file result) new → ((number : ℕ) → result ≡ Err (ReadFault number) → Rose faults faults_now) → told_now ≡ told → ((other : List ℕ) → room_now other ≡ room other)
    → faults ≤ faults_now → Leaves told told_now room room_now faults faults_now old new (stop_of result)
main-leaves told told_now room room_now faults faults_now names old file result new slots found failed stay rooms later =
    subst (λ stop. Leaves told told_now room room_now faults faults_now old new stop) (loaded-stop file result)
    (search-leaves told told_now room room_now faults faults_now None names old (loaded_as file result) new slots found (λ number e. failed number (loaded-failed file result (ReadFault number) e)) stay rooms later)
