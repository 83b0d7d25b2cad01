-- What the call for a unit gives.
--     setting_of, start_of      what a unit is read with, and the state before it is read
--     finished state      the unit's tokens, as they are given
--     IsReadAs      the answer is that of the reading, or its stop
--     IsReadByKnown      so it is over all files that have what the loader came to know
use Rattle.std.specs.Prelude.{◌≡◌, ℕ, ◌<◌, List, [], ◌∷◌, length, slice_index_or, Result, Ok, Err}
use Rattle.std.specs.FinMap as finite
use Rattle.dm_token.specs.declared.stop.Stop.{Stop}
use Rattle.dm_token.specs.declared.stop.Stop.TheVariants.{Memory, Refused, Limit, ReadFault}
use Rattle.dm_token.specs.declared.expansion.Definition.{Definition}
use Rattle.dm_token.specs.declared.unit.Unit.{Unit as Source}
use Rattle.dm_token.specs.declared.unit.Read.{Read}
use Rattle.dm_token.specs.declared.unit.UnitTokens.{UnitTokens}
use Rattle.dm_io.specs.Files.{Files}
use Rattle.dm_macro.specs.Tables.{table_of}
use Rattle.dm_search.specs.Loaded.{Loaded, number_of, name_of}
use Rattle.dm_search.specs.CallFiles.{file_for}
use Rattle.dm_unit.specs.States.{Setting, Catalogue, State, Outcome}
use Rattle.dm_unit.specs.Includes.{numbered}
use Rattle.dm_unit.specs.Readings.{ReadsUnit}
use Rattle.dm_unit.specs.Loaders.{HasKnown, shown, is_known}

-- What a unit is read with, where these are the folder's files: those that the loader knows are as it knows them. Each name
-- that is looked for is known afterwards, and each number has the name that it has afterwards.
abbrev pub setting_of : Loaded → Loaded → Files → Source → Setting
setting_of old new files unit =
    record { source = file_for old files; looked = is_known new; named = name_of new; include = unit.include; main = number_of old unit.file }

-- the files before anything is looked for; the main file's name has a number
abbrev pub first_files : Loaded → Source → Catalogue
first_files loaded unit = numbered unit.file (shown loaded)

-- the state before a unit is read
abbrev pub state_with : Catalogue → State
state_with files =
    record {
      files = files;
      table = table_of [] finite.empty;
      before = [];
      tokens = [];
      expansions = [];
      uses = [];
      undefined = [];
      read_before = [];
      files_read = [];
      once = [];
      inclusions = 0;
      instance = 0;
      spent = 0;
      sections = [];
    }

-- the definitions read, each with the number of tokens before it
abbrev pub reads_of : List Definition → List ℕ → List Read
reads_of [] before = []
reads_of (definition ∷ definitions) [] = []
reads_of (definition ∷ definitions) (count ∷ before) = record { definition = definition; before = count } ∷ reads_of definitions before

-- the unit's tokens
abbrev pub finished : State → UnitTokens
finished state =
    record {
      tokens = state.tokens;
      expansions = state.expansions;
      read = reads_of state.table.read state.before;
      directive_uses = state.uses;
      undefined = state.undefined;
      read_before_undefined = state.read_before;
      files = state.files_read;
    }

-- each of these files has its number
abbrev pub AreNumbered : Setting → Catalogue → Type 0
AreNumbered setting files = (number : ℕ) → number < length files.names → setting.named number ≡ slice_index_or files.names number []

-- a unit's reading has this outcome, by the numbers that the files known before, the built-in headers and the main file have
abbrev pub HasOutcome : Setting → Loaded → Source → Outcome → Type 0
HasOutcome setting loaded unit outcome =
    AreNumbered setting (first_files loaded unit) × ReadsUnit setting unit.file unit.define (state_with (first_files loaded unit)) outcome

-- The answer is what the reading of the unit gives, or its first stop, and the loader holds then the files that were found.
-- Only want of memory has no cause.
abbrev pub IsReadAs : Setting → Source → Loaded → Result UnitTokens Stop → Loaded → Type 0
IsReadAs setting unit old (Ok tokens) new =
    (final : State) × HasOutcome setting old unit (Ok final) × (tokens ≡ finished final) × (final.files ≡ shown new)
IsReadAs setting unit old (Err Memory) new = Unit {0}
IsReadAs setting unit old (Err (Refused refusal)) new = HasOutcome setting old unit (Err (Refused refusal))
IsReadAs setting unit old (Err (Limit limit)) new = HasOutcome setting old unit (Err (Limit limit))
IsReadAs setting unit old (Err (ReadFault file)) new = HasOutcome setting old unit (Err (ReadFault file))

-- The tokens are those of the unit over any files that have what the loader came to know. So a unit's reading hangs on these alone, and it is one
-- whether or not the folder tells its files.
abbrev pub IsReadByKnown : Source → Loaded → Loaded → UnitTokens → Type 0
IsReadByKnown unit old new tokens = (files : Files) → HasKnown files old new → IsReadAs (setting_of old new files unit) unit old (Ok tokens) new
