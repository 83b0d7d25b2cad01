-- What calls leave of the folder and the loader, one after another.
use Rattle.std.proofs.Common.{get_or, ◌≡◌, ◌≢◌, ℕ, ◌<◌, ◌≤◌, Bool, true, false, ◌⊎◌, inl, inr, List, [], ◌++◌, length, Option, None, Some, Result, Ok, Err, OnOk, IsErrAnd, is_some, nat_lt, refl, sym, ap, ◌∙◌, subst, arith, append_assoc, true≢false}
use Rattle.std.proofs.lemmas.Bool.{ltb-false, ltb-true}
use Rattle.std.proofs.lemmas.List.{append-nil, get_or_append_left, get_or_past}
use Rattle.dm_token.specs.Limits.{header_count}
use Rattle.dm_token.specs.declared.stop.Memory.{Memory as Wanted}
use Rattle.dm_token.specs.declared.stop.Stop.{Stop}
use Rattle.dm_token.specs.declared.stop.Stop.TheVariants.{Memory, ReadFault}
use Rattle.dm_io.specs.Faults.{Rose}
use Rattle.dm_io.specs.Files.{Files, HasFile, file_at}
use Rattle.dm_search.specs.Headers.{header_names}
use Rattle.dm_search.specs.Loaded.{Loaded, name_of, number_of, held_at, is_held, is_absent}
use Rattle.dm_search.specs.CallFiles.{file_for, known_or}
use Rattle.dm_unit.specs.Loaders.{Grows, IsOf, WasUnknown, stopped_at, most_names}
use Rattle.dm_unit.specs.Views.{StaysServed, stop_of, named_by}
use Rattle.dm_unit.proofs.NameLemmas.{name-at, held-among}
use Rattle.dm_readings.specs.Leaves.{AreThere, IsNumbered, Leaves, LeavesKnown, StaysKnown, Follows, memory_of}

-- ---- what the loader knows

-- what is there
some-of : {A : Type 0} (o : Option A) → is_some o ≡ true → (x : A) × (o ≡ Some x)
some-of None h = absurd (true≢false (sym h))
some-of (Some x) h = (x, refl)

-- what is held has a place
pub held-inside : (held : List (Option (List ℕ))) (file : ℕ) → is_some (get_or held file None) ≡ true → file < length held
held-inside held file there = by (nat_lt file (length held)) refl
  where
    by : (t : Bool) → nat_lt file (length held) ≡ t → file < length held
    by true e = ltb-true file (length held) e
    by false e = absurd (true≢false (sym there ∙ ap is_some (get_or_past held file None (ltb-false file (length held) e))))

grows-refl : (apart : Option ℕ) (loaded : Loaded) → Grows apart loaded loaded
grows-refl apart loaded = record {
  begins = ([], sym (append-nil loaded.names));
  held_too = λ file bytes held. held;
  absent_too = λ name absent. absent;
  new_held = λ file least inside. absurd (omega (arith, least, inside));
}

grows-trans : (apart : Option ℕ) (a b c : Loaded) → Grows None a b → Grows apart b c → Grows apart a c
grows-trans apart a b c first second = record {
  begins = (first.begins.0 ++ second.begins.0, second.begins.1 ∙ ap (λ ns. ns ++ second.begins.0) first.begins.1 ∙ append_assoc a.names first.begins.0 second.begins.0);
  held_too = λ file bytes held. second.held_too file bytes (first.held_too file bytes held);
  absent_too = λ name absent. second.absent_too name (first.absent_too name absent);
  new_held = λ file least inside. by file least inside (nat_lt file (length b.names)) refl;
}
  where
    held : (file : ℕ) → (is_held b file ≡ true) ⊎ IsOf None file → (is_held c file ≡ true) ⊎ IsOf apart file
    held file (inl h) = let bytes = some-of (held_at b file) h in inl (ap is_some (second.held_too file bytes.0 bytes.1))
    held file (inr none) = absurd none

    by : (file : ℕ) → length a.names ≤ file → file < length c.names → (t : Bool) → nat_lt file (length b.names) ≡ t → (is_held c file ≡ true) ⊎ IsOf apart file
    by file least inside true lt = held file (first.new_held file least (ltb-true file (length b.names) lt))
    by file least inside false lt = second.new_held file (ltb-false file (length b.names) lt) inside

-- what is known by a reading
pub follows-grown : (files : Files) (apart : Option ℕ) (a b : Loaded) → Grows apart a b → ((name : List ℕ) → file_for b files name ≡ file_for a files name) → Follows files a b
follows-grown files apart a b grows served =
    record { knows = record { begins = grows.begins; held_too = grows.held_too; absent_too = grows.absent_too }; served = served }

pub grows-weaken : (apart : Option ℕ) (a b : Loaded) → Grows None a b → Grows apart a b
grows-weaken apart a b grows = grows-trans apart a b b grows (grows-refl apart b)

not-held : (a b : Loaded) (file : ℕ) → Grows None a b → is_held b file ≡ false → is_held a file ≡ false
not-held a b file grows none = by (is_held a file) refl
  where
    by : (t : Bool) → is_held a file ≡ t → t ≡ false
    by false h = refl
    by true h = let bytes = some-of (held_at a file) h in absurd (true≢false (sym (ap is_some (grows.held_too file bytes.0 bytes.1)) ∙ none))

not-absent : (a b : Loaded) (name : List ℕ) → Grows None a b → is_absent b name ≡ false → is_absent a name ≡ false
not-absent a b name grows none = by (is_absent a name) refl
  where
    by : (t : Bool) → is_absent a name ≡ t → t ≡ false
    by false h = refl
    by true h = absurd (true≢false (sym (grows.absent_too name h) ∙ none))

pub none-memory : ◌≢◌ {A = Option Stop} None (Some Memory)
none-memory e = cc

-- ---- the files of the folder

module _ (files : Files) (old new : Loaded) (first : IsNumbered old) (second : IsNumbered new) where
  -- a name among those of the headers has its number from them
  past-headers : (file : ℕ) → header_count ≤ file → file < length new.names → is_held old (number_of old (name_of new file)) ≡ true → header_count ≤ number_of old (name_of new file)
  past-headers file least inside held = by (nat_lt (number_of old name) header_count) refl
    where
      name : List ℕ
      name = name_of new file

      named : name_of old (number_of old name) ≡ name
      named = name-at name old.names (held-among old name first.slots held)

      front : (names others : List (List ℕ)) (at : ℕ) → names ≡ header_names ++ others → at < header_count → get_or names at [] ≡ get_or header_names at []
      front names others at is before = ap (λ (ns : List (List ℕ)). get_or ns at []) is ∙ get_or_append_left header_names others [] at before

      so : number_of old name < header_count → file ≡ number_of old name
      so before =
          let same : name_of new (number_of old name) ≡ name =
          front new.names second.headers.0.0 (number_of old name) second.headers.0.1 before
          ∙ sym (front old.names first.headers.0.0 (number_of old name) first.headers.0.1 before) ∙ named in
          sym (second.differ file inside) ∙ sym (ap (number_of new) same) ∙ second.differ (number_of old name) (omega (arith, before, least, inside))

      by : (t : Bool) → nat_lt (number_of old name) header_count ≡ t → header_count ≤ number_of old name
      by false apart = ltb-false (number_of old name) header_count apart
      by true before = let lt = ltb-true (number_of old name) header_count before in let same = so lt in absurd (omega (arith, lt, same, least))

  -- a name that has a file in the call, and was there or isn't known
  from-file : (o : Option (List ℕ)) (absent : Bool) (file : Option (List ℕ)) (bytes : List ℕ) → known_or o absent file ≡ Some bytes → (is_some o ≡ true) ⊎ (is_some file ≡ true)
  from-file (Some text) absent file bytes is = inl refl
  from-file None true file bytes is = absurd (true≢false (sym (ap is_some is)))
  from-file None false file bytes is = inr (ap is_some is)

  held-there : ((name : List ℕ) → file_for new files name ≡ file_for old files name) → AreThere (Some files) old → AreThere (Some files) new
  held-there served there file least held = by (from-file (held_at old (number_of old name)) (is_absent old name) (file_at files name) bytes.0 (sym (served name) ∙ now))
    where
      name : List ℕ
      name = name_of new file

      bytes : (b : List ℕ) × (held_at new file ≡ Some b)
      bytes = some-of (held_at new file) held

      inside : file < length new.names
      inside = subst (λ n. file < n) second.slots (held-inside new.held file held)

      now : file_for new files name ≡ Some bytes.0
      now = ap (λ o. known_or o (is_absent new name) (file_at files name)) (ap (held_at new) (second.differ file inside) ∙ bytes.1)

      by : (is_held old (number_of old name) ≡ true) ⊎ (is_some (file_at files name) ≡ true) → HasFile (Some files) name
      by (inl was) =
          subst (HasFile (Some files)) (name-at name old.names (held-among old name first.slots was)) (there (number_of old name) (past-headers file least inside was) was)
      by (inr is) = is

pub there-stays : (told : Option Files) (old new : Loaded) → IsNumbered old → IsNumbered new → StaysServed told old new → AreThere told old → AreThere told new
there-stays None old new first second served there = λ file least held. tt
there-stays (Some files) old new first second served there = held-there files old new first second (served files refl) there

-- the same files after another call
there-on : (told now : Option Files) (old new : Loaded) → now ≡ told → (AreThere now old → AreThere now new) → AreThere told old → AreThere told new
there-on told now old new same there = subst (λ t. AreThere t old → AreThere t new) same there

-- ---- calls

pub memory-no-fault : (file : ℕ) → ◌≡◌ {A = Option Stop} (Some Memory) (Some (ReadFault file)) → ⊥
memory-no-fault file e = cc

-- no stop is a fault
abbrev pub NoFault : Option Stop → Type 0
NoFault stop = (file : ℕ) → stop ≡ Some (ReadFault file) → ⊥

-- one call and then another
pub leaves-trans : (t0 t1 t2 : Option Files) (r0 r1 r2 : List ℕ → ℕ) (f0 f1 f2 : ℕ) (l0 l1 l2 : Loaded) (stop : Option Stop) → Leaves t0 t1 r0 r1 f0 f1 l0 l1 None → Leaves t1 t2 r1 r2 f1 f2 l1 l2 stop
    → Leaves t0 t2 r0 r2 f0 f2 l0 l2 stop
leaves-trans t0 t1 t2 r0 r1 r2 f0 f1 f2 l0 l1 l2 stop first second =
    let grows : Grows None l0 l1 = first.grows none-memory in
    let early = first.later in
    record {
      files_stay = second.files_stay ∙ first.files_stay;
      rooms_stay = λ other. second.rooms_stay other ∙ first.rooms_stay other;
      later = let late = second.later in omega (arith, early, late);
      failed = λ file e. let rose = second.failed file e in omega (arith, early, rose);
      unknown = λ file e. let was = second.unknown file e in (not-held l0 l1 file grows was.0, not-absent l0 l1 (name_of l2 file) grows was.1);
      grows = λ not. grows-trans (named_by stop) l0 l1 l2 grows (second.grows not);
      roomy = second.roomy;
      served = λ files is name. second.served files (first.files_stay ∙ is) name ∙ first.served files is name;
      there = λ there. there-on t0 t1 l1 l2 first.files_stay second.there (first.there there);
    }

-- a stop behind a call
pub leaves-stop : (t0 t1 : Option Files) (r0 r1 : List ℕ → ℕ) (f0 f1 : ℕ) (l0 l1 : Loaded) (stop : Option Stop) → NoFault stop → Leaves t0 t1 r0 r1 f0 f1 l0 l1 None → Leaves t0 t1 r0 r1 f0 f1 l0 l1 stop
leaves-stop t0 t1 r0 r1 f0 f1 l0 l1 stop none first = record {
  files_stay = first.files_stay;
  rooms_stay = first.rooms_stay;
  later = first.later;
  failed = λ file e. absurd (none file e);
  unknown = λ file e. absurd (none file e);
  grows = λ not. grows-weaken (named_by stop) l0 l1 (first.grows none-memory);
  roomy = λ not. first.roomy none-memory;
  served = first.served;
  there = first.there;
}

-- ---- answers

pub stopped-named : {A : Type 0} (result : Result A Stop) → stopped_at result ≡ named_by (stop_of result)
stopped-named (Ok answer) = refl
stopped-named (Err stop) = refl

pub stop-memory : {A : Type 0} (result : Result A Stop) → stop_of result ≢ Some Memory → result ≢ Err Memory
stop-memory result not e = not (ap stop_of e)

pub stop-is : {A : Type 0} (result : Result A Stop) (stop : Stop) → stop_of result ≡ Some stop → result ≡ Err stop
stop-is (Ok answer) stop e = absurd (cc)
stop-is (Err other) stop e = let same : other ≡ stop = cc in ap Err same

-- what a unit's reading leaves
pub reading-leaves : {A : Type 0} (t0 t1 : Option Files) (r0 r1 : List ℕ → ℕ) (f0 f1 : ℕ) (l0 l1 : Loaded) (result : Result A Stop) → t1 ≡ t0 → ((other : List ℕ) → r1 other ≡ r0 other) → f0 ≤ f1
    → ((file : ℕ) → result ≡ Err (ReadFault file) → Rose f0 f1) → ((file : ℕ) → result ≡ Err (ReadFault file) → WasUnknown l0 l1 file) → (result ≢ Err Memory → Grows (stopped_at result) l0 l1)
    → length l1.names < most_names → StaysServed t0 l0 l1 → IsNumbered l0 → IsNumbered l1 → Leaves t0 t1 r0 r1 f0 f1 l0 l1 (stop_of result)
reading-leaves t0 t1 r0 r1 f0 f1 l0 l1 result stay rooms later failed unknown grows roomy served old new = record {
  files_stay = stay;
  rooms_stay = rooms;
  later = later;
  failed = λ file e. failed file (stop-is result (ReadFault file) e);
  unknown = λ file e. unknown file (stop-is result (ReadFault file) e);
  grows = λ not. subst (λ apart. Grows apart l0 l1) (stopped-named result) (grows (stop-memory result not));
  roomy = λ not. roomy;
  served = served;
  there = there-stays t0 l0 l1 old new served;
}

-- memory is wanted behind a call
pub leaves-handed : {A : Type 0} {t0 t1 : Option Files} {r0 r1 : List ℕ → ℕ} {f0 f1 : ℕ} {l0 l1 : Loaded} (result : Result A Stop) → IsErrAnd result (λ e. e ≡ Memory) → Leaves t0 t1 r0 r1 f0 f1 l0 l1 None
    → Leaves t0 t1 r0 r1 f0 f1 l0 l1 (stop_of result)
leaves-handed (Ok given) handed first = absurd handed
leaves-handed {A = A} {t0 = t0} {t1 = t1} {r0 = r0} {r1 = r1} {f0 = f0} {f1 = f1} {l0 = l0} {l1 = l1} (Err e) handed first =
    subst (λ (s : Stop). Leaves t0 t1 r0 r1 f0 f1 l0 l1 (Some s)) (sym handed) (leaves-stop t0 t1 r0 r1 f0 f1 l0 l1 (Some Memory) memory-no-fault first)

-- ---- several units

stays-trans : (a b c : Loaded) → StaysKnown a b → StaysKnown b c → StaysKnown a c
stays-trans a b c first second = record {
  begins = (first.begins.0 ++ second.begins.0, second.begins.1 ∙ ap (λ ns. ns ++ second.begins.0) first.begins.1 ∙ append_assoc a.names first.begins.0 second.begins.0);
  held_too = λ file bytes held. second.held_too file bytes (first.held_too file bytes held);
  absent_too = λ name absent. second.absent_too name (first.absent_too name absent);
}

unheld-before : (a b : Loaded) (file : ℕ) → StaysKnown a b → is_held b file ≡ false → is_held a file ≡ false
unheld-before a b file stays none = by (is_held a file) refl
  where
    by : (t : Bool) → is_held a file ≡ t → t ≡ false
    by false h = refl
    by true h = let bytes = some-of (held_at a file) h in absurd (true≢false (sym (ap is_some (stays.held_too file bytes.0 bytes.1)) ∙ none))

pub stop-inside : (stop : Stop) → ◌≡◌ {A = Option Stop} (Some stop) (Some Memory) → stop ≡ Memory
stop-inside stop e = cc

-- one unit
pub known-one : {t0 t1 : Option Files} {r0 r1 : List ℕ → ℕ} {f0 f1 : ℕ} {l0 l1 : Loaded} {stop : Option Stop} → Leaves t0 t1 r0 r1 f0 f1 l0 l1 stop → LeavesKnown t0 t1 r0 r1 f0 f1 l0 l1 stop
known-one one = record {
  files_stay = one.files_stay;
  rooms_stay = one.rooms_stay;
  later = one.later;
  failed = one.failed;
  unheld = λ file e. (one.unknown file e).0;
  knows = λ not. let grows = one.grows not in record { begins = grows.begins; held_too = grows.held_too; absent_too = grows.absent_too };
  roomy = one.roomy;
  served = one.served;
  there = one.there;
}

module _ {t0 t1 t2 : Option Files} {r0 r1 r2 : List ℕ → ℕ} {f0 f1 f2 : ℕ} {l0 l1 l2 : Loaded} where
  -- one unit and then others
  pub known-trans : (stop : Option Stop) → LeavesKnown t0 t1 r0 r1 f0 f1 l0 l1 None → LeavesKnown t1 t2 r1 r2 f1 f2 l1 l2 stop → LeavesKnown t0 t2 r0 r2 f0 f2 l0 l2 stop
  known-trans stop first second =
      let early = first.later in
      record {
        files_stay = second.files_stay ∙ first.files_stay;
        rooms_stay = λ other. second.rooms_stay other ∙ first.rooms_stay other;
        later = let late = second.later in omega (arith, early, late);
        failed = λ file e. let rose = second.failed file e in omega (arith, early, rose);
        unheld = λ file e. unheld-before l0 l1 file (first.knows none-memory) (second.unheld file e);
        knows = λ not. stays-trans l0 l1 l2 (first.knows none-memory) (second.knows not);
        roomy = second.roomy;
        served = λ files is name. second.served files (first.files_stay ∙ is) name ∙ first.served files is name;
        there = λ there. there-on t0 t1 l1 l2 first.files_stay second.there (first.there there);
      }

  -- others are read behind a stop
  pub known-behind : (stop : Option Stop) → LeavesKnown t0 t1 r0 r1 f0 f1 l0 l1 stop → LeavesKnown t1 t2 r1 r2 f1 f2 l1 l2 None → LeavesKnown t0 t2 r0 r2 f0 f2 l0 l2 stop
  known-behind stop first second =
      let late = second.later in
      record {
        files_stay = second.files_stay ∙ first.files_stay;
        rooms_stay = λ other. second.rooms_stay other ∙ first.rooms_stay other;
        later = let early = first.later in omega (arith, early, late);
        failed = λ file e. let rose = first.failed file e in omega (arith, rose, late);
        unheld = first.unheld;
        knows = λ not. stays-trans l0 l1 l2 (first.knows not) (second.knows none-memory);
        roomy = λ not. second.roomy none-memory;
        served = λ files is name. second.served files (first.files_stay ∙ is) name ∙ first.served files is name;
        there = λ there. there-on t0 t1 l1 l2 first.files_stay second.there (first.there there);
      }

  -- memory is wanted behind a stop
  pub known-memory : (stop other : Option Stop) → LeavesKnown t0 t1 r0 r1 f0 f1 l0 l1 stop → LeavesKnown t1 t2 r1 r2 f1 f2 l1 l2 other → LeavesKnown t0 t2 r0 r2 f0 f2 l0 l2 (Some Memory)
  known-memory stop other first second = record {
    files_stay = second.files_stay ∙ first.files_stay;
    rooms_stay = λ other. second.rooms_stay other ∙ first.rooms_stay other;
    later = let early = first.later in let late = second.later in omega (arith, early, late);
    failed = λ file e. absurd (memory-no-fault file e);
    unheld = λ file e. absurd (memory-no-fault file e);
    knows = λ not. absurd (not refl);
    roomy = λ not. absurd (not refl);
    served = λ files is name. second.served files (first.files_stay ∙ is) name ∙ first.served files is name;
    there = λ there. there-on t0 t1 l1 l2 first.files_stay second.there (first.there there);
  }

-- memory is wanted in place of a stop
pub known-wanted : {t0 t1 : Option Files} {r0 r1 : List ℕ → ℕ} {f0 f1 : ℕ} {l0 l1 : Loaded} (stop : Option Stop) → LeavesKnown t0 t1 r0 r1 f0 f1 l0 l1 stop → LeavesKnown t0 t1 r0 r1 f0 f1 l0 l1 (Some Memory)
known-wanted stop first = record {
  files_stay = first.files_stay;
  rooms_stay = first.rooms_stay;
  later = first.later;
  failed = λ file e. absurd (memory-no-fault file e);
  unheld = λ file e. absurd (memory-no-fault file e);
  knows = λ not. absurd (not refl);
  roomy = λ not. absurd (not refl);
  served = first.served;
  there = first.there;
}

-- a stop that is passed over, unless it is want of memory
pub known-over : {t0 t1 : Option Files} {r0 r1 : List ℕ → ℕ} {f0 f1 : ℕ} {l0 l1 : Loaded} (result : Result (Unit {0}) Wanted) (stop : Stop) → OnOk result (stop ≢ Memory)
    → LeavesKnown t0 t1 r0 r1 f0 f1 l0 l1 (Some stop) → LeavesKnown t0 t1 r0 r1 f0 f1 l0 l1 (memory_of result)
known-over (Err error) stop not first = known-wanted (Some stop) first
known-over (Ok done) stop not first = record {
  files_stay = first.files_stay;
  rooms_stay = first.rooms_stay;
  later = first.later;
  failed = λ file e. absurd (cc);
  unheld = λ file e. absurd (cc);
  knows = λ none. first.knows (λ e. not (stop-inside stop e));
  roomy = λ none. first.roomy (λ e. not (stop-inside stop e));
  served = first.served;
  there = first.there;
}

-- what is handed on
pub known-handed : {A : Type 0} {t0 t1 : Option Files} {r0 r1 : List ℕ → ℕ} {f0 f1 : ℕ} {l0 l1 : Loaded} (result : Result A Stop) (fault : Stop) → IsErrAnd result (λ e. e ≡ fault)
    → LeavesKnown t0 t1 r0 r1 f0 f1 l0 l1 (Some fault) → LeavesKnown t0 t1 r0 r1 f0 f1 l0 l1 (stop_of result)
known-handed (Ok given) fault handed first = absurd handed
known-handed {A = A} {t0 = t0} {t1 = t1} {r0 = r0} {r1 = r1} {f0 = f0} {f1 = f1} {l0 = l0} {l1 = l1} (Err e) fault handed first = subst (λ (s : Stop). LeavesKnown t0 t1 r0 r1 f0 f1 l0 l1 (Some s)) (sym handed) first

pub wanted-handed : {t0 t1 : Option Files} {r0 r1 : List ℕ → ℕ} {f0 f1 : ℕ} {l0 l1 : Loaded} (result : Result (Unit {0}) Wanted) (fault : Wanted) → IsErrAnd result (λ e. e ≡ fault)
    → LeavesKnown t0 t1 r0 r1 f0 f1 l0 l1 (Some Memory) → LeavesKnown t0 t1 r0 r1 f0 f1 l0 l1 (memory_of result)
wanted-handed (Ok done) fault handed first = absurd handed
wanted-handed (Err e) fault handed first = first
