-- The refusals of units and projects lie in files.
use Rattle.std.proofs.Common.{◌≡◌, ℕ, ◌+◌, Bool, true, inl, inr, List, [], ◌∷◌, ◌++◌, length, Option, None, Some, Result, Ok, Err, is_some, refl, sym, ap, ◌∙◌, subst, append_assoc, true≢false, ◌&&◌, false}
use Rattle.std.specs.Prelude.{unwrap_or}
use Rattle.std.specs.List.{AllByRecursion, list_all}
use Rattle.std.specs.Result.{result_map_both}
use Rattle.dm_token.specs.Names.{is_normal_name}
use Rattle.dm_token.specs.declared.stop.Stop.{Stop}
use Rattle.dm_token.specs.declared.stop.Stop.TheVariants.{Refused, Limit}
use Rattle.dm_token.specs.declared.stop.Refusal.{Refusal}
use Rattle.dm_token.specs.declared.stop.Limit.{Limit as Limited}
use Rattle.dm_token.specs.declared.unit.Unit.{Unit as Source}
use Rattle.dm_token.specs.declared.unit.UnitTokens.{UnitTokens}
use Rattle.dm_io.specs.Files.{Files}
use Rattle.dm_search.specs.Fresh.{StartsWithHeaders}
use Rattle.dm_search.specs.Headers.{header_names}
use Rattle.dm_search.specs.Joining.{candidates, places}
use Rattle.dm_search.specs.Loaded.{Loaded, name_of, held_at}
use Rattle.dm_unit.specs.Loaders.{shown}
use Rattle.dm_unit.specs.States.{Catalogue}
use Rattle.dm_unit.specs.Units.{setting_of, first_files, state_with, IsReadAs}
use Rattle.dm_reading.specs.declared.reading.Reading.{Reading}
use Rattle.dm_readings.specs.Reading.{IsReading}
use Rattle.dm_readings.specs.Leaves.{Follows, StaysKnown}
use Rattle.dm_readings.specs.Units.{Ending, ending, ReadsNext, ReadsUnits, IsCounted, ReadsProject}
use Rattle.dm_defines.specs.Readable.{IsText, HasReadableDefines}
use Rattle.dm_places.specs.Places.{IsPlaceOf, LiesIn, CanBeRead, LiesInFile}
use Rattle.dm_places.proofs.LayerLemmas.{TokensLie, layers-lie}
use Rattle.dm_places.proofs.PlaceLemmas.{numbered-longer, longer-on, unit-goes, first-lies}

-- any name
abbrev Any : List ℕ → Type 0
Any name = Unit {0}

all-any : (names : List (List ℕ)) → AllByRecursion Any names
all-any [] = tt
all-any (name ∷ names) = (tt, all-any names)

any-fine : (name from : List ℕ) (quoted : Bool) (include : List (List ℕ)) → AllByRecursion Any (candidates name (places from quoted include))
any-fine name from quoted include = all-any (candidates name (places from quoted include))

pub all-normal : (names : List (List ℕ)) → list_all is_normal_name names ≡ true → AllByRecursion (λ (name : List ℕ). is_normal_name name ≡ true) names
all-normal [] all = tt
all-normal (name ∷ names) all = by (is_normal_name name) refl all (all-normal names)
  where
    by : (b : Bool) → is_normal_name name ≡ b → (b && list_all is_normal_name names) ≡ true → (list_all is_normal_name names ≡ true → AllByRecursion (λ (name : List ℕ). is_normal_name name ≡ true) names)
        → AllByRecursion (λ (name : List ℕ). is_normal_name name ≡ true) (name ∷ names)
    by true e all next = (e, next all)
    by false e all next = absurd (true≢false (sym all))

-- A UNIT

module _ (files : Files) (unit : Source) (old new : Loaded) (starts : StartsWithHeaders old) (readable : AllByRecursion (CanBeRead (setting_of old new files unit)) unit.define) where
  pub unit-lies : (refusal : Refusal) → IsReadAs (setting_of old new files unit) unit old (Err (Refused refusal)) new → LiesIn (setting_of old new files unit) refusal.place
  unit-lies refusal is =
      unit-goes (setting_of old new files unit) Any any-fine unit.file unit.define (state_with (first_files old unit)) (Err (Refused refusal)) tt (first-lies files unit old new Any any-fine starts is.0) readable is.1

  pub tokens-lie : (pp : UnitTokens) → IsReadAs (setting_of old new files unit) unit old (Ok pp) new → TokensLie (LiesIn (setting_of old new files unit)) pp.tokens
  tokens-lie pp is =
      let goes = unit-goes (setting_of old new files unit) Any any-fine unit.file unit.define (state_with (first_files old unit)) (Ok is.0) tt (first-lies files unit old new Any any-fine starts is.1.0) readable is.1.1 in
      subst (TokensLie (LiesIn (setting_of old new files unit))) (sym (ap (λ (tokens : UnitTokens). tokens.tokens) is.2)) goes.0.tokens_lie

  -- the names that are new are such as those for which is looked
  module _ (Fine : List ℕ → Type 0) (fine : (name from : List ℕ) (quoted : Bool) (include : List (List ℕ)) → AllByRecursion Fine (candidates name (places from quoted include))) where
    pub new-names : (pp : UnitTokens) → Fine unit.file → IsReadAs (setting_of old new files unit) unit old (Ok pp) new → (more : List (List ℕ)) × (new.names ≡ old.names ++ more) × AllByRecursion Fine more
    new-names pp is_fine is =
        let goes = unit-goes (setting_of old new files unit) Fine fine unit.file unit.define (state_with (first_files old unit)) (Ok is.0) is_fine (first-lies files unit old new Fine fine starts is.1.0) readable is.1.1 in
        let first = numbered-longer (setting_of old new files unit) Fine fine (shown old) unit.file is_fine in
        let both = longer-on (setting_of old new files unit) Fine fine (shown old) (first_files old unit) is.0.files first goes.1 in
        (both.0, sym (ap (λ (c : Catalogue). c.names) is.3) ∙ both.1, both.2)

  pub reading-lies : (refusal : Refusal) → IsReading (setting_of old new files unit) unit old (Err (Refused refusal)) new → LiesIn (setting_of old new files unit) refusal.place
  reading-lies refusal (inl is) = unit-lies refusal is
  reading-lies refusal (inr is) = layers-lie (LiesIn (setting_of old new files unit)) is.0.tokens refusal (tokens-lie is.0 is.1) is.2

-- A PROJECT

all-can : (files : Files) (unit : Source) (old new : Loaded) → HasReadableDefines unit → AllByRecursion (CanBeRead (setting_of old new files unit)) unit.define
all-can files unit old new readable = each unit.define readable
  where
    each : (defines : List (List ℕ)) → AllByRecursion IsText defines → AllByRecursion (CanBeRead (setting_of old new files unit)) defines
    each [] all = tt
    each (define ∷ defines) all = (all.0 (setting_of old new files unit).main, each defines all.1)

some-there : {A : Type 0} (o : Option A) → is_some o ≡ true → (x : A) × (o ≡ Some x)
some-there None h = absurd (true≢false (sym h))
some-there (Some x) h = (x, refl)

-- a loader that has grown still has the built-in headers
starts-later : (old new : Loaded) → StaysKnown old new → StartsWithHeaders old → StartsWithHeaders new
starts-later old new knows starts = (
  (starts.0.0 ++ knows.begins.0, knows.begins.1 ∙ ap (λ names. names ++ knows.begins.0) starts.0.1 ∙ append_assoc header_names starts.0.0 knows.begins.0),
  λ file inside. let held = some-there (held_at old file) (starts.1 file inside) in ap is_some (knows.held_too file held.0 held.1),
)

module _ (files : Files) (refusal : Refusal) where
  -- the files of the call stay
  lies-before : (old known new : Loaded) → Follows files old known → LiesInFile known new files refusal.place → LiesInFile old new files refusal.place
  lies-before old known new follows lies =
      subst (λ (bytes : Option (List ℕ)). IsPlaceOf (unwrap_or bytes []) refusal.place) (follows.served (name_of new refusal.place.file)) lies

  next-lies : (unit : Source) (spent : ℕ) (old new : Loaded) → StartsWithHeaders old → HasReadableDefines unit → ReadsNext files unit spent old (Err (Refused refusal)) new → LiesInFile old new files refusal.place
  next-lies unit spent old new starts readable (inl is) = reading-lies files unit old new starts (all-can files unit old new readable) refusal is
  next-lies unit spent old new starts readable (inr many) = absurd (no-limit _ many.3)
    where
      no-limit : (passed : Limited) → Refused refusal ≡ Limit passed → ⊥
      no-limit passed e = cc

  -- what the others give is what is given behind a unit
  others-refused : (reading : Reading) (others : Result (List Reading) Stop) → Err (Refused refusal) ≡ result_map_both (λ (readings : List Reading). reading ∷ readings) (λ (stop : Stop). stop) others → others ≡ Err (Refused refusal)
  others-refused reading (Ok readings) e = absurd (no-ok (reading ∷ readings) e)
    where
      no-ok : (readings : List Reading) → ◌≡◌ {A = Result (List Reading) Stop} (Err (Refused refusal)) (Ok readings) → ⊥
      no-ok readings e = cc
  others-refused reading (Err stop) e = sym e

  refused-is : (stop : Stop) → ◌≡◌ {A = Result (List Reading) Stop} (Err (Refused refusal)) (Err stop) → stop ≡ Refused refusal
  refused-is stop e = cc

  units-lie : (units : List Source) (spent : ℕ) (old : Loaded) (end : Ending) → StartsWithHeaders old → AllByRecursion HasReadableDefines units → end.result ≡ Err (Refused refusal) → ReadsUnits files units spent old end
      → LiesInFile old end.loaded files refusal.place
  units-lie [] spent old end starts readable is reads = absurd (no-units (sym is ∙ ap (λ (e : Ending). e.result) reads))
    where
      no-units : ◌≡◌ {A = Result (List Reading) Stop} (Err (Refused refusal)) (Ok []) → ⊥
      no-units e = cc
  units-lie (unit ∷ units) spent old end starts readable is (inl x) =
      let same = refused-is x.0 (sym is ∙ ap (λ (e : Ending). e.result) x.3) in
      subst (λ (new : Loaded). LiesInFile old new files refusal.place) (sym (ap (λ (e : Ending). e.loaded) x.3))
      (next-lies unit spent old x.1 starts readable.0 (subst (λ (stop : Stop). ReadsNext files unit spent old (Err stop) x.1) same x.2))
  units-lie (unit ∷ units) spent old end starts readable is (inr x) =
      let follows = x.3.2 in
      subst (λ (new : Loaded). LiesInFile old new files refusal.place) (sym (ap (λ (e : Ending). e.loaded) x.5))
      (lies-before old x.1 x.2.loaded follows
      (units-lie units (spent + length x.0.pp.tokens) x.1 x.2 (starts-later old x.1 follows.knows starts) readable.1 (others-refused x.0 x.2.result (sym is ∙ ap (λ (e : Ending). e.result) x.5)) x.4))

  pub project-lies : (units : List Source) (begun : ℕ) (old new : Loaded) → StartsWithHeaders old → AllByRecursion HasReadableDefines units → ReadsProject files units old (ending (Err (Refused refusal)) begun new)
      → LiesInFile old new files refusal.place
  project-lies units begun old new starts readable reads = by reads.0 reads.1 reads.2
    where
      by : (given : Result (List Reading) Stop) → ReadsUnits files units 0 old (ending given begun new) → IsCounted given (Err (Refused refusal)) → LiesInFile old new files refusal.place
      by (Err stop) units-read counted = units-lie units 0 old (ending (Err stop) begun new) starts readable (sym counted) units-read
      by (Ok readings) units-read (inl few) = absurd (no-ok few.1)
        where
          no-ok : ◌≡◌ {A = Result (List Reading) Stop} (Err (Refused refusal)) (Ok readings) → ⊥
          no-ok e = cc
      by (Ok readings) units-read (inr many) = absurd (no-limit _ many.1)
        where
          no-limit : (passed : Limited) → ◌≡◌ {A = Result (List Reading) Stop} (Err (Refused refusal)) (Err (Limit passed)) → ⊥
          no-limit passed e = cc
