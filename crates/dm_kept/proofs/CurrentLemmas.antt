-- Readings by what the loader knows now.
use Rattle.std.proofs.Common.{◌≡◌, inl, inr, ℕ, ◌+◌, ◌<◌, ◌≤◌, Bool, true, false, List, [], ◌∷◌, ◌++◌, length, Option, None, Some, Result, Ok, Err, is_some, unwrap_or, refl, sym, ap, ◌∙◌, subst, append_assoc, true≢false, ◌⊎◌, bytes_eq}
use Rattle.std.specs.List.{AllZip, position_or_len}
use Rattle.std.specs.Result.{result_map_both}
use Rattle.std.proofs.lemmas.Bool.{cases_eq, cases_lt, or_cases}
use Rattle.std.proofs.lemmas.List.{append-nil, get_or_past, length-set}
use Rattle.dm_token.specs.declared.stop.Stop.{Stop}
use Rattle.dm_token.specs.declared.unit.Unit.{Unit as Source}
use Rattle.dm_io.specs.Files.{Files}
use Rattle.dm_search.specs.Headers.{header_names}
use Rattle.dm_search.specs.Loaded.{Loaded, name_of, number_of, held_at, is_held, is_absent, with_bytes}
use Rattle.dm_unit.specs.Loaders.{is_known, shown}
use Rattle.dm_unit.specs.Units.{setting_of}
use Rattle.dm_unit.proofs.GrowLemmas.{some-of, known-held, known-absent, held-now, held-other}
use Rattle.dm_unit.proofs.NameLemmas.{name-kept, held-among}
use Rattle.dm_reading.specs.declared.reading.Reading.{Reading}
use Rattle.dm_readings.specs.Reading.{IsReading, AreOneReading}
use Rattle.dm_local.specs.Kept.{IsOfLoader, IsReadBy, Keeps}
use Rattle.dm_local.proofs.KeptLemmas.{read-again, slots-behind, same-shown}
use Rattle.dm_readings.specs.Again.{reads, put_in, NextAgain, ReadsAgain, IsCountedWith, IsReadAgain}
use Rattle.dm_readings.specs.Leaves.{StaysKnown, Follows}
use Rattle.dm_readings.specs.Units.{Ending, ending, ReadsNext, ReadsUnits, ReadsProject, IsCounted}
use Rattle.dm_kept.specs.Current.{AreCurrent, AreSame}

-- ---- what a loader keeps

pub follows-refl : (files : Files) (loaded : Loaded) → Follows files loaded loaded
follows-refl files loaded = record {
  knows = record { begins = ([], sym (append-nil loaded.names)); held_too = λ file bytes held. held; absent_too = λ name absent. absent };
  served = λ name. refl;
}

pub follows-trans : (files : Files) (a b c : Loaded) → Follows files a b → Follows files b c → Follows files a c
follows-trans files a b c first second = record {
  knows = record {
    begins = (
      first.knows.begins.0 ++ second.knows.begins.0,
      second.knows.begins.1 ∙ ap (λ ns. ns ++ second.knows.begins.0) first.knows.begins.1 ∙ append_assoc a.names first.knows.begins.0 second.knows.begins.0,
    );
    held_too = λ file bytes held. second.knows.held_too file bytes (first.knows.held_too file bytes held);
    absent_too = λ name absent. second.knows.absent_too name (first.knows.absent_too name absent);
  };
  served = λ name. second.served name ∙ first.served name;
}

held-stays : (old new : Loaded) (file : ℕ) → StaysKnown old new → is_held old file ≡ true → is_held new file ≡ true
held-stays old new file stays held = let bytes = some-of (held_at old file) held in ap is_some (stays.held_too file bytes.0 bytes.1)

known-stays : (old new : Loaded) (name : List ℕ) → length old.held ≡ length old.names → StaysKnown old new → is_known old name ≡ true → is_known new name ≡ true
known-stays old new name slots stays known = by (or_cases (is_held old (number_of old name)) (is_absent old name) known)
  where
    by : (is_held old (number_of old name) ≡ true) ⊎ (is_absent old name ≡ true) → is_known new name ≡ true
    by (inl held) =
        let number : number_of new name ≡ number_of old name =
        ap (λ (names : List (List ℕ)). position_or_len (bytes_eq name) names) stays.begins.1 ∙ name-kept name old.names stays.begins.0 (held-among old name slots held) in
        known-held new name (ap (is_held new) number ∙ held-stays old new (number_of old name) stays held)
    by (inr absent) = known-absent new name (stays.absent_too name absent)

-- behind a reading a loader is still one
pub loader-behind : (files : Files) (unit : Source) (old new : Loaded) (reading : Reading) → IsReading (setting_of old new files unit) unit old (Ok reading) new → StaysKnown old new → IsOfLoader old → IsOfLoader new
loader-behind files unit old new reading is stays of = (
  (
    (of.0.0.0 ++ stays.begins.0, stays.begins.1 ∙ ap (λ ns. ns ++ stays.begins.0) of.0.0.1 ∙ append_assoc header_names of.0.0.0 stays.begins.0),
    λ file first. held-stays old new file stays (of.0.1 file first),
  ),
  slots-behind files unit old new reading.pp of.0 of.1 is.1,
)

-- a reading stays the one of its unit
pub read-follow : (files : Files) (unit : Source) (old new known : Loaded) (reading : Reading) → IsReading (setting_of old new files unit) unit old (Ok reading) new → IsOfLoader old → Follows files old new → Follows files new known
    → IsReadBy known files unit reading
read-follow files unit old new known reading is of first second = (is.0, read-again files files unit old new known of.0 of.1 reading.pp is.1 keeps, is.2)
  where
    slots : length new.held ≡ length new.names
    slots = slots-behind files unit old new reading.pp of.0 of.1 is.1

    keeps : Keeps reading.pp.files files files old new known
    keeps = record {
      numbers = second.knows.begins;
      held = λ file h. held-stays new known file second.knows h;
      knows = λ name h. known-stays new known name slots second.knows h;
      there = λ name h. ap is_some (second.served name ∙ first.served name);
      bytes = λ file h. second.served (name_of known file) ∙ first.served (name_of known file);
    }

pub by-follow : (files : Files) (unit : Source) (old known : Loaded) (reading : Reading) → IsReadBy old files unit reading → IsOfLoader old → Follows files old known → IsReadBy known files unit reading
by-follow files unit old known reading is of follows = read-follow files unit old old known reading is of (follows-refl files old) follows

pub current-follow : (files : Files) (units : List Source) (readings : List Reading) (old known : Loaded) → AreCurrent old files units readings → IsOfLoader old → Follows files old known → AreCurrent known files units readings
current-follow files [] [] old known are of follows = tt
current-follow files [] (reading ∷ readings) old known are of follows = absurd are
current-follow files (unit ∷ units) [] old known are of follows = absurd are
current-follow files (unit ∷ units) (reading ∷ readings) old known are of follows =
    (by-follow files unit old known reading are.0 of follows, current-follow files units readings old known are.1 of follows)

-- ---- the first readings

-- a loader behind another, and the readings by it
pub record Current (files : Files) (units : List Source) (old new : Loaded) (readings : List Reading) : Type 0 where
  pub follows : Follows files old new
  pub loader : IsOfLoader new
  pub are : AreCurrent new files units readings

-- one unit and then others
current-cons : (files : Files) (unit : Source) (units : List Source) (old known new : Loaded) (reading : Reading) (readings : List Reading)
    → Follows files old known → ((last : Loaded) → Follows files known last → IsReadBy last files unit reading) → Current files units known new readings → Current files (unit ∷ units) old new (reading ∷ readings)
current-cons files unit units old known new reading readings first stays others =
    record { follows = follows-trans files old known new first others.follows; loader = others.loader; are = (stays new others.follows, others.are) }

ok-inside : {A B : Type 0} (a b : A) → ◌≡◌ {A = Result A B} (Ok a) (Ok b) → a ≡ b
ok-inside a b e = cc

never-ok : {A B : Type 0} (a : A) (b : B) → ◌≡◌ {A = Result A B} (Err b) (Ok a) → ⊥
never-ok a b e = cc

module _ (files : Files) where
  units-current : (units : List Source) (spent : ℕ) (old : Loaded) (end : Ending) (readings : List Reading) → ReadsUnits files units spent old end → end.result ≡ Ok readings → IsOfLoader old
      → Current files units old end.loaded readings
  units-current [] spent old end readings are is of =
      let none : readings ≡ [] = ok-inside readings [] (sym is ∙ ap (λ (e : Ending). e.result) are) in
      let same : end.loaded ≡ old = ap (λ (e : Ending). e.loaded) are in
      subst (λ (new : Loaded). Current files [] old new readings) (sym same)
      (subst (λ (rs : List Reading). Current files [] old old rs) (sym none) (record { follows = follows-refl files old; loader = of; are = tt }))
  units-current (unit ∷ units) spent old end readings (inl stops) is of = absurd (never-ok readings stops.0 (sym (ap (λ (e : Ending). e.result) stops.3) ∙ is))
  units-current (unit ∷ units) spent old end readings (inr goes) is of =
      by goes.2.result refl
      (λ more so. units-current units (spent + length goes.0.pp.tokens) goes.1 goes.2 more goes.4 so (loader-behind files unit old goes.1 goes.0 goes.3.0 goes.3.2.knows of))
    where
      first : Reading
      first = goes.0

      known : Loaded
      known = goes.1

      others : Ending
      others = goes.2

      next : ReadsNext files unit spent old (Ok first) known
      next = goes.3

      whole : result_map_both (λ rs. first ∷ rs) (λ stop. stop) others.result ≡ Ok readings
      whole = sym (ap (λ (e : Ending). e.result) goes.5) ∙ is

      by : (result : Result (List Reading) Stop) → others.result ≡ result → ((more : List Reading) → others.result ≡ Ok more → Current files units known others.loaded more)
          → Current files (unit ∷ units) old end.loaded readings
      by (Err stop) so rest = absurd (never-ok readings stop (sym (ap (result_map_both (λ (rs : List Reading). first ∷ rs) (λ (s : Stop). s)) so) ∙ whole))
      by (Ok more) so rest =
          let all : first ∷ more ≡ readings = ok-inside (first ∷ more) readings (sym (ap (result_map_both (λ (rs : List Reading). first ∷ rs) (λ (s : Stop). s)) so) ∙ whole) in
          let last : others.loaded ≡ end.loaded = sym (ap (λ (e : Ending). e.loaded) goes.5) in
          subst (λ (rs : List Reading). Current files (unit ∷ units) old end.loaded rs) all
          (subst (λ (new : Loaded). Current files (unit ∷ units) old new (first ∷ more)) last
          (current-cons files unit units old known others.loaded first more next.2 (λ later follows. read-follow files unit old known later first next.0 of next.2 follows)
          (rest more so)))

  pub project-current : (units : List Source) (old new : Loaded) (readings : List Reading) (begun : ℕ) → ReadsProject files units old (ending (Ok readings) begun new) → IsOfLoader old → Current files units old new readings
  project-current units old new readings begun is of = by is.0 is.1 is.2
    where
      by : (given : Result (List Reading) Stop) → ReadsUnits files units 0 old (ending given begun new) → IsCounted given (Ok readings) → Current files units old new readings
      by (Err stop) are counted = absurd (never-ok readings stop (sym counted))
      by (Ok others) are (inl few) = units-current units 0 old (ending (Ok others) begun new) readings are (sym few.1) of
      by (Ok others) are (inr many) = absurd (never-ok readings _ (sym many.1))

-- ---- the readings again

module _ (files : Files) (file : ℕ) where
  -- the units that don't read the file have the readings that they have now
  abbrev pub AreUnread : Loaded → List Source → List Reading → Type 0
  AreUnread known units kept = AllZip (λ (unit : Source) (reading : Reading). reads file reading ≡ false → IsReadBy known files unit reading) units kept

  unread-follow : (units : List Source) (kept : List Reading) (old known : Loaded) → AreUnread old units kept → IsOfLoader old → Follows files old known → AreUnread known units kept
  unread-follow [] [] old known are of follows = tt
  unread-follow [] (reading ∷ kept) old known are of follows = absurd are
  unread-follow (unit ∷ units) [] old known are of follows = absurd are
  unread-follow (unit ∷ units) (reading ∷ kept) old known are of follows =
      (λ unread. by-follow files unit old known reading (are.0 unread) of follows, unread-follow units kept old known are.1 of follows)

  -- one unit is read again, or keeps its reading
  record Step (unit : Source) (old known : Loaded) (reading : Reading) : Type 0 where
    follows : Follows files old known
    loader : IsOfLoader known
    stays : (last : Loaded) → Follows files known last → IsReadBy last files unit reading

  step : (unit : Source) (reading : Reading) (spent : ℕ) (old known : Loaded) (one : Option Reading) (again : Bool) → reads file reading ≡ again → NextAgain again files unit reading spent old (Ok one) known
      → IsOfLoader old → (reads file reading ≡ false → IsReadBy old files unit reading) → Step unit old known (unwrap_or one reading)
  step unit reading spent old known None true is next of unread = absurd next
  step unit reading spent old known (Some given) true is next of unread = record {
    follows = next.2;
    loader = loader-behind files unit old known given next.0 next.2.knows of;
    stays = λ last follows. read-follow files unit old known last given next.0 of next.2 follows;
  }
  step unit reading spent old known None false is next of unread =
      subst (λ (new : Loaded). Step unit old new reading) (sym next.1)
      (record { follows = follows-refl files old; loader = of; stays = λ last follows. by-follow files unit old last reading (unread is) of follows })
  step unit reading spent old known (Some given) false is next of unread = absurd next

  again-current : (units : List Source) (kept : List Reading) (spent : ℕ) (old : Loaded) (result : Result (List (Option Reading)) Stop) (news : List (Option Reading)) (new : Loaded)
      → ReadsAgain files file units kept spent old result new → result ≡ Ok news → IsOfLoader old → AreUnread old units kept → Current files units old new (put_in kept news)
  again-current [] (reading ∷ kept) spent old result news new are is of unread = absurd unread
  again-current (unit ∷ units) [] spent old result news new are is of unread = absurd unread
  again-current [] [] spent old result news new are is of unread =
      subst (λ (last : Loaded). Current files [] old last []) (sym are.1) (record { follows = follows-refl files old; loader = of; are = tt })
  again-current (unit ∷ units) (reading ∷ kept) spent old result news new (inl stops) is of unread = absurd (never-ok news stops.0 (sym stops.4 ∙ is))
  again-current (unit ∷ units) (reading ∷ kept) spent old result news new (inr goes) is of unread =
      let first = step unit reading spent old goes.1 goes.0 (reads file reading) refl goes.3 of unread.0 in
      by goes.2 refl first
      (λ more so. again-current units kept (spent + length (unwrap_or goes.0 reading).pp.tokens) goes.1 goes.2 more new goes.4 so first.loader (unread-follow units kept old goes.1 unread.1 of first.follows))
    where
      one : Option Reading
      one = goes.0

      known : Loaded
      known = goes.1

      by : (others : Result (List (Option Reading)) Stop) → goes.2 ≡ others → Step unit old known (unwrap_or one reading)
          → ((more : List (Option Reading)) → goes.2 ≡ Ok more → Current files units known new (put_in kept more)) → Current files (unit ∷ units) old new (put_in (reading ∷ kept) news)
      by (Err stop) so first rest = absurd (never-ok news stop (sym (goes.5 ∙ ap (result_map_both (λ (ns : List (Option Reading)). one ∷ ns) (λ (s : Stop). s)) so) ∙ is))
      by (Ok more) so first rest =
          let all : one ∷ more ≡ news = ok-inside (one ∷ more) news (sym (goes.5 ∙ ap (result_map_both (λ (ns : List (Option Reading)). one ∷ ns) (λ (s : Stop). s)) so) ∙ is) in
          subst (λ (ns : List (Option Reading)). Current files (unit ∷ units) old new (put_in (reading ∷ kept) ns)) all
          (current-cons files unit units old known new (unwrap_or one reading) (put_in kept more) first.follows first.stays (rest more so))

  pub edited-current : (units : List Source) (kept : List Reading) (old : Loaded) (news : List (Option Reading)) (new : Loaded) → IsReadAgain files file units kept old (Ok news) new → IsOfLoader old → AreUnread old units kept
      → Current files units old new (put_in kept news)
  edited-current units kept old news new is of unread = by is.0 is.1 is.2
    where
      by : (given : Result (List (Option Reading)) Stop) → ReadsAgain files file units kept 0 old given new → IsCountedWith kept given (Ok news) → Current files units old new (put_in kept news)
      by (Err stop) are counted = absurd (never-ok news stop (sym counted))
      by (Ok others) are (inl few) = again-current units kept 0 old (Ok others) news new are (sym few.1) of unread
      by (Ok others) are (inr many) = absurd (never-ok news _ (sym many.1))

-- ---- a file whose bytes change

-- what is held has a place
pub held-place : (loaded : Loaded) (file : ℕ) → is_held loaded file ≡ true → file < length loaded.held
held-place loaded file held = by (cases_lt file (length loaded.held))
  where
    by : (file < length loaded.held) ⊎ (length loaded.held ≤ file) → file < length loaded.held
    by (inl h) = h
    by (inr past) = absurd (true≢false (sym held ∙ ap is_some (get_or_past loaded.held file None past)))

module _ (files : Files) (known : Loaded) (file : ℕ) (bytes : List ℕ) (held : is_held known file ≡ true) where
  held-edited : (other : ℕ) → is_held known other ≡ true → is_held (with_bytes known file bytes) other ≡ true
  held-edited other h = by (cases_eq other file)
    where
      by : (other ≡ file) ⊎ (other ≡ file → ⊥) → is_held (with_bytes known file bytes) other ≡ true
      by (inl same) = ap (is_held (with_bytes known file bytes)) same ∙ ap is_some (held-now known file bytes (held-place known file held))
      by (inr apart) = ap is_some (held-other known file other bytes apart) ∙ h

  pub edited-loader : IsOfLoader known → IsOfLoader (with_bytes known file bytes)
  edited-loader of = ((of.0.0, λ other first. held-edited other (of.0.1 other first)), length-set known.held file (Some bytes) ∙ of.1)

  pub edited-unread : ((unit : Source) (reading : Reading) → IsReadBy known files unit reading → reads file reading ≡ false → IsReadBy (with_bytes known file bytes) files unit reading)
      → (units : List Source) (kept : List Reading) → AreCurrent known files units kept → AreUnread files file (with_bytes known file bytes) units kept
  edited-unread stay [] [] are = tt
  edited-unread stay [] (reading ∷ kept) are = absurd are
  edited-unread stay (unit ∷ units) [] are = absurd are
  edited-unread stay (unit ∷ units) (reading ∷ kept) are = (λ unread. stay unit reading are.0 unread, edited-unread stay units kept are.1)

-- ---- all units once more

module _ (files : Files) (learn : (unit : Source) (known new : Loaded) (reading again : Reading) → IsReadBy known files unit reading → IsReading (setting_of known new files unit) unit known (Ok again) new
    → AreOneReading (Ok reading) (Ok again)) where
  units-same : (units : List Source) (spent : ℕ) (old : Loaded) (end : Ending) (readings others : List Reading) → ReadsUnits files units spent old end → end.result ≡ Ok others → IsOfLoader old → AreCurrent old files units readings
      → AreSame readings others × (shown end.loaded ≡ shown old)
  units-same [] spent old end [] others are is of current =
      let none : others ≡ [] = ok-inside others [] (sym is ∙ ap (λ (e : Ending). e.result) are) in
      (subst (λ (rs : List Reading). AreSame [] rs) (sym none) tt, ap shown (ap (λ (e : Ending). e.loaded) are))
  units-same [] spent old end (reading ∷ readings) others are is of current = absurd current
  units-same (unit ∷ units) spent old end [] others are is of current = absurd current
  units-same (unit ∷ units) spent old end (reading ∷ readings) others (inl stops) is of current = absurd (never-ok others stops.0 (sym (ap (λ (e : Ending). e.result) stops.3) ∙ is))
  units-same (unit ∷ units) spent old end (reading ∷ readings) others (inr goes) is of current =
      by goes.2.result refl
      (λ more so.
      units-same units (spent + length goes.0.pp.tokens) goes.1 goes.2 readings more goes.4 so (loader-behind files unit old goes.1 goes.0 goes.3.0 goes.3.2.knows of)
      (current-follow files units readings old goes.1 current.1 of goes.3.2))
    where
      first : Reading
      first = goes.0

      known : Loaded
      known = goes.1

      rest : Ending
      rest = goes.2

      next : ReadsNext files unit spent old (Ok first) known
      next = goes.3

      whole : result_map_both (λ rs. first ∷ rs) (λ stop. stop) rest.result ≡ Ok others
      whole = sym (ap (λ (e : Ending). e.result) goes.5) ∙ is

      learned : shown known ≡ shown old
      learned = same-shown files unit old known reading.pp first.pp current.0.1 next.0.1

      by : (result : Result (List Reading) Stop) → rest.result ≡ result → ((more : List Reading) → rest.result ≡ Ok more → AreSame readings more × (shown rest.loaded ≡ shown known))
          → AreSame (reading ∷ readings) others × (shown end.loaded ≡ shown old)
      by (Err stop) so behind = absurd (never-ok others stop (sym (ap (result_map_both (λ (rs : List Reading). first ∷ rs) (λ (s : Stop). s)) so) ∙ whole))
      by (Ok more) so behind =
          let all : first ∷ more ≡ others = ok-inside (first ∷ more) others (sym (ap (result_map_both (λ (rs : List Reading). first ∷ rs) (λ (s : Stop). s)) so) ∙ whole) in
          let same = behind more so in (
            subst (λ (rs : List Reading). AreSame (reading ∷ readings) rs) all (learn unit old known reading first current.0 next.0, same.0),
            ap (λ (e : Ending). shown e.loaded) goes.5 ∙ same.1 ∙ learned,
          )

  pub project-same : (units : List Source) (old new : Loaded) (readings others : List Reading) (begun : ℕ) → ReadsProject files units old (ending (Ok others) begun new) → IsOfLoader old → AreCurrent old files units readings
      → AreSame readings others × (shown new ≡ shown old)
  project-same units old new readings others begun is of current = by is.0 is.1 is.2
    where
      by : (given : Result (List Reading) Stop) → ReadsUnits files units 0 old (ending given begun new) → IsCounted given (Ok others) → AreSame readings others × (shown new ≡ shown old)
      by (Err stop) are counted = absurd (never-ok others stop (sym counted))
      by (Ok some) are (inl few) = units-same units 0 old (ending (Ok some) begun new) readings others are (sym few.1) of current
      by (Ok some) are (inr many) = absurd (never-ok others _ (sym many.1))
