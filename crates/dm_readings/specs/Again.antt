-- The reading again of the units that read a file, once its bytes were replaced (5.1.1.2).
--     ReadsAgain files file units kept spent old result new      the new readings, or the first stop, where the others keep theirs
--     IsReadAgain files file units kept old result new      the same, where the definitions of all units are counted last
--     put_in kept news      the readings of all units then
--     reader_count file kept      how many units read the file
--     AreReaders file kept news      the units that read the file have new readings
use Rattle.std.specs.Prelude.{◌≡◌, ◌⊎◌, ℕ, ◌+◌, ◌<◌, ◌≤◌, Bool, true, false, List, [], ◌∷◌, length, map, filter, nat_eq, is_some, unwrap_or, Option, Some, None, Result, Ok, Err}
use Rattle.std.specs.List.{list_any}
use Rattle.std.specs.Result.{result_map_both}
use Rattle.dm_token.specs.LimitNumbers as limits
use Rattle.dm_token.specs.Limits.{most_definitions}
use Rattle.dm_token.specs.declared.stop.Stop.{Stop}
use Rattle.dm_token.specs.declared.stop.Stop.TheVariants.{Memory}
use Rattle.dm_token.specs.declared.unit.Unit.{Unit as Source}
use Rattle.dm_io.specs.Files.{Files}
use Rattle.dm_search.specs.Loaded.{Loaded, number_of}
use Rattle.dm_unit.specs.States.{limit}
use Rattle.dm_unit.specs.Units.{setting_of}
use Rattle.dm_reading.specs.declared.reading.Reading.{Reading}
use Rattle.dm_readings.specs.Reading.{IsReading}
use Rattle.dm_readings.specs.Definitions.{definitions_in}
use Rattle.dm_readings.specs.Units.{most_project_tokens, no_file, ReadsNext}

-- whether a unit's reading reads the file of this number
abbrev pub reads : ℕ → Reading → Bool
reads file reading = list_any (nat_eq file) reading.pp.files

abbrev pub reader_count : ℕ → List Reading → ℕ
reader_count file kept = length (filter (reads file) kept)

-- the readings of a project, where some units have new ones
abbrev pub put_in : List Reading → List (Option Reading) → List Reading
put_in [] news = []
put_in (reading ∷ kept) [] = reading ∷ kept
put_in (reading ∷ kept) (new ∷ news) = unwrap_or new reading ∷ put_in kept news

-- A unit that reads the file is read again. Another isn't: its tokens are counted as they are.
abbrev pub NextAgain : Bool → Files → Source → Reading → ℕ → Loaded → Result (Option Reading) Stop → Loaded → Type 0
NextAgain true files unit reading spent old (Ok None) new = ⊥
NextAgain true files unit reading spent old (Ok (Some given)) new = ReadsNext files unit spent old (Ok given) new
NextAgain true files unit reading spent old (Err stop) new = ReadsNext files unit spent old (Err stop) new
NextAgain false files unit reading spent old (Ok None) new = (spent + length reading.pp.tokens ≤ most_project_tokens) × (new ≡ old)
NextAgain false files unit reading spent old (Ok (Some given)) new = ⊥
NextAgain false files unit reading spent old (Err stop) new =
    (most_project_tokens < spent + length reading.pp.tokens) × (stop ≡ limit limits.project_tokens (number_of old unit.file)) × (new ≡ old)

-- A unit that reads the file is read, whatever that gives.
abbrev pub MayRead : Bool → Files → Source → Loaded → Loaded → Type 0
MayRead true files unit old new = (answer : Result Reading Stop) × IsReading (setting_of old new files unit) unit old answer new
MayRead false files unit old new = new ≡ old

abbrev pub ReadsOthers : Files → ℕ → List Source → List Reading → Loaded → Loaded → Type 0
ReadsOthers files file [] kept old new = new ≡ old
ReadsOthers files file (unit ∷ units) [] old new = new ≡ old
ReadsOthers files file (unit ∷ units) (reading ∷ kept) old new =
    (known : Loaded) × MayRead (reads file reading) files unit old known × ReadsOthers files file units kept known new

-- All units that read the file are read again, in order, also behind the first stop.
abbrev pub ReadsAgain : Files → ℕ → List Source → List Reading → ℕ → Loaded → Result (List (Option Reading)) Stop → Loaded → Type 0
ReadsAgain files file [] kept spent old result new = (result ≡ Ok []) × (new ≡ old)
ReadsAgain files file (unit ∷ units) [] spent old result new = (result ≡ Ok []) × (new ≡ old)
ReadsAgain files file (unit ∷ units) (reading ∷ kept) spent old result new =
    ((stop : Stop) × (known : Loaded) × NextAgain (reads file reading) files unit reading spent old (Err stop) known
    × ReadsOthers files file units kept known new × (result ≡ Err stop))
    ⊎ ((one : Option Reading) × (known : Loaded) × (others : Result (List (Option Reading)) Stop)
    × NextAgain (reads file reading) files unit reading spent old (Ok one) known
    × ReadsAgain files file units kept (spent + length (unwrap_or one reading).pp.tokens) known others new
    × (result ≡ result_map_both (λ news. one ∷ news) (λ stop. stop) others))

-- The new readings stand, unless the project has too many different definitions with them.
abbrev pub IsCountedWith : List Reading → Result (List (Option Reading)) Stop → Result (List (Option Reading)) Stop → Type 0
IsCountedWith kept (Err stop) result = result ≡ Err stop
IsCountedWith kept (Ok news) result =
    ((length (definitions_in (put_in kept news)) ≤ most_definitions) × (result ≡ Ok news))
    ⊎ ((most_definitions < length (definitions_in (put_in kept news))) × (result ≡ Err (limit limits.definitions no_file)))

-- Only want of memory has no cause.
abbrev pub IsReadAgain : Files → ℕ → List Source → List Reading → Loaded → Result (List (Option Reading)) Stop → Loaded → Type 0
IsReadAgain files file units kept old (Err Memory) new = Unit {0}
IsReadAgain files file units kept old result new =
    (given : Result (List (Option Reading)) Stop) × ReadsAgain files file units kept 0 old given new × IsCountedWith kept given result

-- Just the units that read the file have a new reading.
abbrev pub AreReaders : ℕ → List Reading → List (Option Reading) → Type 0
AreReaders file kept news = map is_some news ≡ map (reads file) kept
