-- How a reading goes on.
use Rattle.std.proofs.Common.{◌≡◌, ℕ, suc, true, false, inl, inr, List, [], ◌∷◌, None, Some, Result, Ok, Err, MatchBool, refl, sym, subst}
use Rattle.dm_token.specs.Limits as greatest
use Rattle.dm_token.specs.LimitNumbers as limits
use Rattle.dm_token.specs.Refusals as refusals
use Rattle.dm_token.specs.declared.stop.Stop.{Stop}
use Rattle.dm_token.specs.declared.stop.Stop.TheVariants.{Memory, Refused, Limit, ReadFault}
use Rattle.dm_unit.specs.States.{Setting, Catalogue, State, Outcome, Then, refusal, limit}
use Rattle.dm_unit.specs.Lines.{Part, parts_of}
use Rattle.dm_unit.specs.Sources.{tokens_in}
use Rattle.dm_unit.specs.Includes.{Sought, sought, Searches}
use Rattle.dm_unit.specs.Definitions.{DoesManifest}
use Rattle.dm_unit.specs.Readings.{ReadsPart, ReadsParts, ReadsFile, Enters, DoesManifests, ReadsFound, ReadsMain, ReadsUnit, end_in, within, begun, is_passed, absent_place, most_nested}
use Rattle.dm_unit.specs.Views.{Stops}

-- a stop that leads to another
pub stops-map : {A B : Type 0} (First : Result A Stop → Type 0) (Second : Result B Stop → Type 0) (stop : Stop) → ((other : Stop) → First (Err other) → Second (Err other)) → Stops First stop → Stops Second stop
stops-map First Second Memory map stops = tt
stops-map First Second (Refused refusal) map stops = map (Refused refusal) stops
stops-map First Second (Limit passed) map stops = map (Limit passed) stops
stops-map First Second (ReadFault file) map stops = map (ReadFault file) stops

-- the first of two steps stops
pub then-stops : {A B : Type 0} (First : Result A Stop → Type 0) (Second : A → Result B Stop → Type 0) (stop : Stop) → Stops First stop → Stops (Then First Second) stop
then-stops First Second stop stops = stops-map First (Then First Second) stop (λ other first. inl (other, first, refl)) stops

-- THE PARTS OF A FILE

pub parts-go : (setting : Setting) (more file : ℕ) (part : Part) (parts : List Part) (state middle : State) (outcome : Outcome) → ReadsPart setting (Enters setting more) file part state (Ok middle)
    → ReadsParts setting (Enters setting more) file parts middle outcome → ReadsParts setting (Enters setting more) file (part ∷ parts) state outcome
unfolding ReadsParts
parts-go setting more file part parts state middle outcome first rest = inr (middle, first, rest)

pub parts-stop : (setting : Setting) (more file : ℕ) (part : Part) (parts : List Part) (state : State) (stop : Stop) → ReadsPart setting (Enters setting more) file part state (Err stop)
    → ReadsParts setting (Enters setting more) file (part ∷ parts) state (Err stop)
unfolding ReadsParts
parts-stop setting more file part parts state stop first = inl (stop, first, refl)

pub parts-end : (setting : Setting) (more file : ℕ) (state : State) → ReadsParts setting (Enters setting more) file [] state (end_in state.sections state)
unfolding ReadsParts
parts-end setting more file state = refl

-- A FILE

pub file-ends : (setting : Setting) (more file : ℕ) (state read : State) → ReadsParts setting (Enters setting more) file (parts_of (tokens_in setting state.files file)) (begun file state) (Ok read)
    → ReadsFile setting (Enters setting more) file state (Ok (within state.sections read))
file-ends setting more file state read parts = inr (read, parts, refl)

pub file-stops : (setting : Setting) (more file : ℕ) (state : State) (stop : Stop) → Stops (ReadsParts setting (Enters setting more) file (parts_of (tokens_in setting state.files file)) (begun file state)) stop
    → Stops (ReadsFile setting (Enters setting more) file state) stop
file-stops setting more file state stop stops =
    then-stops (ReadsParts setting (Enters setting more) file (parts_of (tokens_in setting state.files file)) (begun file state)) (λ (read : State) (result : Outcome). result ≡ Ok (within state.sections read)) stop stops

-- AN INCLUDED FILE

pub enters-none : (setting : Setting) (file : ℕ) (state : State) → Enters setting 0 file state (Err (limit limits.nested_files setting.main))
unfolding Enters
enters-none setting file state = refl

pub enters-passed : (setting : Setting) (more file : ℕ) (state : State) → is_passed file state ≡ true → Enters setting (suc more) file state (Ok state)
unfolding Enters
enters-passed setting more file state passed =
    subst (λ b. MatchBool b (◌≡◌ {A = Outcome} (Ok state) (Ok state)) (ReadsFile setting (Enters setting more) file state (Ok state))) (sym passed) refl

pub enters-file : (setting : Setting) (more file : ℕ) (state : State) (outcome : Outcome) → is_passed file state ≡ false → ReadsFile setting (Enters setting more) file state outcome → Enters setting (suc more) file state outcome
unfolding Enters
enters-file setting more file state outcome passed reads =
    subst (λ b. MatchBool b (outcome ≡ Ok state) (ReadsFile setting (Enters setting more) file state outcome)) (sym passed) reads

-- THE UNIT

pub manifests-none : (setting : Setting) (state : State) → DoesManifests setting [] state (Ok state)
unfolding DoesManifests
manifests-none setting state = refl

pub manifests-go : (setting : Setting) (define : List ℕ) (defines : List (List ℕ)) (state middle : State) (outcome : Outcome) → DoesManifest setting.main define state (Ok middle) → DoesManifests setting defines middle outcome
    → DoesManifests setting (define ∷ defines) state outcome
unfolding DoesManifests
manifests-go setting define defines state middle outcome first rest = inr (middle, first, rest)

pub manifests-stop : (setting : Setting) (define : List ℕ) (defines : List (List ℕ)) (state : State) (stop : Stop) → DoesManifest setting.main define state (Err stop) → DoesManifests setting (define ∷ defines) state (Err stop)
unfolding DoesManifests
manifests-stop setting define defines state stop first = inl (stop, first, refl)

-- the defines stop the unit
pub unit-stops : (setting : Setting) (name : List ℕ) (defines : List (List ℕ)) (state : State) (stop : Stop) → DoesManifests setting defines state (Err stop) → ReadsUnit setting name defines state (Err stop)
unfolding ReadsUnit
unit-stops setting name defines state stop first = inl (stop, first, refl)

pub unit-reads : (setting : Setting) (name : List ℕ) (defines : List (List ℕ)) (state middle : State) (outcome : Outcome) → DoesManifests setting defines state (Ok middle) → ReadsMain setting name middle outcome
    → ReadsUnit setting name defines state outcome
unfolding ReadsUnit
unit-reads setting name defines state middle outcome first rest = inr (middle, first, rest)

-- the main file is absent
pub main-absent : (setting : Setting) (name : List ℕ) (state : State) (files : Catalogue) → Searches setting None (name ∷ []) state.files (Ok (sought None files)) → ReadsMain setting name state (Err (refusal refusals.not_found (absent_place setting.main)))
main-absent setting name state files search = inr (sought None files, search, refl)

-- its search stops
pub main-stops : (setting : Setting) (name : List ℕ) (state : State) (stop : Stop) → Stops (Searches setting None (name ∷ []) state.files) stop → Stops (ReadsMain setting name state) stop
main-stops setting name state stop stops = then-stops (Searches setting None (name ∷ []) state.files) (λ (found : Sought). ReadsFound setting found.number found.files state) stop stops

-- it is read
pub main-reads : (setting : Setting) (name : List ℕ) (state : State) (number : ℕ) (files : Catalogue) (outcome : Outcome) → Searches setting None (name ∷ []) state.files (Ok (sought (Some number) files))
    → ReadsFile setting (Enters setting most_nested) number (record state { files = files }) outcome → ReadsMain setting name state outcome
main-reads setting name state number files outcome search reads = inr (sought (Some number) files, search, reads)

pub most_nested-is : most_nested ≡ greatest.most_nested
unfolding most_nested
most_nested-is = refl
