-- The readings of a project have the layers of their tokens.
--     first_layered      those that it was read to first
--     again_layered      those of the units that are read again
use Rattle.std.specs.Prelude.{◌≡◌, ℕ, ◌+◌, Bool, true, false, List, [], ◌∷◌, length, Option, Some, None, IfSome, unwrap_or, Result, Ok, Err}
use Rattle.std.specs.List.{AllByRecursion}
use Rattle.std.specs.Result.{result_map_both}
use Rattle.std.proofs.Common.{sym, subst, ⊎_elim}
use Rattle.dm_token.specs.declared.stop.Stop.{Stop}
use Rattle.dm_token.specs.declared.unit.Unit.{Unit as Source}
use Rattle.dm_io.specs.Files.{Files}
use Rattle.dm_search.specs.Loaded.{Loaded}
use Rattle.dm_reading.specs.declared.reading.Reading.{Reading}
use Rattle.dm_reading.specs.Layered.{IsLayered}
use Rattle.dm_readings.specs.Again.{reads, NextAgain, ReadsAgain, IsCountedWith, IsReadAgain}
use Rattle.dm_readings.specs.Units.{Ending, ending, ReadsUnits, IsCounted, ReadsProject}

abbrev pub AllLayered : List Reading → Type 0
AllLayered readings = AllByRecursion IsLayered readings

abbrev IfLayered : Result (List Reading) Stop → Type 0
IfLayered (Ok readings) = AllLayered readings
IfLayered (Err stop) = Unit {0}

-- ---- the first readings

with_first : (first : Reading) (others : Result (List Reading) Stop) → IsLayered first → IfLayered others → IfLayered (result_map_both (λ readings. first ∷ readings) (λ (stop : Stop). stop) others)
with_first first (Ok readings) h k = (h, k)
with_first first (Err stop) h k = tt

units_layered : (files : Files) (units : List Source) (spent : ℕ) (old : Loaded) (end : Ending) → ReadsUnits files units spent old end → IfLayered end.result
units_layered files [] spent old end h = subst (λ (it : Ending). IfLayered it.result) (sym h) tt
units_layered files (unit ∷ units) spent old end h =
    ⊎_elim (λ stops. subst (λ (it : Ending). IfLayered it.result) (sym stops.3) tt)
    (λ goes. subst (λ (it : Ending). IfLayered it.result) (sym goes.5)
    (with_first goes.0 goes.2.result goes.3.0.2 (units_layered files units (spent + length goes.0.pp.tokens) goes.1 goes.2 goes.4))) h

same_ok : {A : Type 0} (a b : A) → ◌≡◌ {A = Result A Stop} (Ok a) (Ok b) → a ≡ b
same_ok a b e = cc

no_ok : {A : Type 0} (a : A) (stop : Stop) → Ok a ≡ Err stop → ⊥
no_ok a stop e = cc

pub first_layered : (files : Files) (units : List Source) (old : Loaded) (readings : List Reading) (begun : ℕ) (loaded : Loaded)
    → ReadsProject files units old (ending (Ok readings) begun loaded) → AllLayered readings
first_layered files units old readings begun loaded h = by_given h.0 (units_layered files units 0 old (ending h.0 begun loaded) h.1) h.2
  where
    by_given : (given : Result (List Reading) Stop) → IfLayered given → IsCounted given (Ok readings) → AllLayered readings
    by_given (Err stop) layered counted = absurd (no_ok readings stop counted)
    by_given (Ok them) layered counted =
        ⊎_elim (λ few. subst AllLayered (sym (same_ok readings them few.1)) layered) (λ many. absurd (no_ok readings _ many.1)) counted

-- ---- the units that are read again

abbrev pub AllNewLayered : List (Option Reading) → Type 0
AllNewLayered news = AllByRecursion (λ (new : Option Reading). IfSome new IsLayered) news

abbrev IfNewLayered : Result (List (Option Reading)) Stop → Type 0
IfNewLayered (Ok news) = AllNewLayered news
IfNewLayered (Err stop) = Unit {0}

with_next : (one : Option Reading) (others : Result (List (Option Reading)) Stop) → IfSome one IsLayered → IfNewLayered others
    → IfNewLayered (result_map_both (λ news. one ∷ news) (λ (stop : Stop). stop) others)
with_next one (Ok news) h k = (h, k)
with_next one (Err stop) h k = tt

next_layered : (b : Bool) (files : Files) (unit : Source) (reading : Reading) (spent : ℕ) (old new : Loaded) (one : Option Reading) → NextAgain b files unit reading spent old (Ok one) new
    → IfSome one IsLayered
next_layered true files unit reading spent old new None h = absurd h
next_layered true files unit reading spent old new (Some given) h = h.0.2
next_layered false files unit reading spent old new None h = tt
next_layered false files unit reading spent old new (Some given) h = absurd h

reads_layered : (files : Files) (file : ℕ) (units : List Source) (kept : List Reading) (spent : ℕ) (old : Loaded) (result : Result (List (Option Reading)) Stop) (new : Loaded)
    → ReadsAgain files file units kept spent old result new → IfNewLayered result
reads_layered files file [] kept spent old result new h = subst IfNewLayered (sym h.0) tt
reads_layered files file (unit ∷ units) [] spent old result new h = subst IfNewLayered (sym h.0) tt
reads_layered files file (unit ∷ units) (reading ∷ kept) spent old result new h =
    ⊎_elim (λ stops. subst IfNewLayered (sym stops.4) tt)
    (λ goes. subst IfNewLayered (sym goes.5)
    (with_next goes.0 goes.2 (next_layered (reads file reading) files unit reading spent old goes.1 goes.0 goes.3)
    (reads_layered files file units kept (spent + length (unwrap_or goes.0 reading).pp.tokens) goes.1 goes.2 new goes.4))) h

pub again_layered : (files : Files) (file : ℕ) (units : List Source) (kept : List Reading) (old : Loaded) (news : List (Option Reading)) (new : Loaded)
    → IsReadAgain files file units kept old (Ok news) new → AllNewLayered news
again_layered files file units kept old news new h = by_given h.0 (reads_layered files file units kept 0 old h.0 new h.1) h.2
  where
    by_given : (given : Result (List (Option Reading)) Stop) → IfNewLayered given → IsCountedWith kept given (Ok news) → AllNewLayered news
    by_given (Err stop) layered counted = absurd (no_ok news stop counted)
    by_given (Ok them) layered counted =
        ⊎_elim (λ few. subst AllNewLayered (sym (same_ok news them few.1)) layered) (λ many. absurd (no_ok news _ many.1)) counted
