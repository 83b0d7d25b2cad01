-- What the code's values and answers mean.
use Rattle.std.specs.Prelude.{◌≡◌, ◌≢◌, ◌⊎◌, ◌≤◌, ◌<◌, ℕ, ◌+◌, Bool, true, false, List, [], ◌∷◌, ◌++◌, length, slice_index_or, option_to_list, unwrap_or, if◌then◌else◌, Option, Some, None, Result, Ok, Err}
use Rattle.dm_token.specs.Limits.{most_work, most_tokens, most_inclusions}
use Rattle.dm_token.specs.LimitNumbers as limits
use Rattle.dm_token.specs.Refusals as refusals
use Rattle.dm_token.specs.declared.stop.Stop.{Stop}
use Rattle.dm_token.specs.declared.stop.Refusal.{Refusal}
use Rattle.dm_token.specs.declared.place.Place.{Place}
use Rattle.dm_token.specs.declared.stop.Stop.TheVariants.{Memory, Refused, Limit, ReadFault}
use Rattle.dm_token.specs.declared.token.PpToken.{PpToken}
use Rattle.dm_token.specs.declared.token.Token.{Token}
use Rattle.dm_token.specs.declared.expansion.Expansion.{Expansion}
use Rattle.dm_token.specs.declared.unit.Unit.{Unit as Source}
use Rattle.dm_token.specs.declared.unit.Use.{Use}
use Rattle.dm_macro.specs.Tables.{Table}
use Rattle.dm_io.specs.Files.{Files}
use Rattle.dm_expand.specs.Expansion.{Answer, expansion_of}
use Rattle.dm_expand.specs.AnswerViews.{looked_up, answer}
use Rattle.dm_search.specs.Loaded.{Loaded, name_of, number_of, held_at, is_held}
use Rattle.dm_search.specs.CallFiles.{file_for}
use Rattle.dm_unit.specs.declared.directive.Directive.{Directive}
use Rattle.dm_unit.specs.declared.directive.Directive.TheVariants.{If, Ifdef, Ifndef, Elif, Else, Endif, Include}
use Rattle.dm_unit.specs.declared.section.Section.{Section}
use Rattle.dm_unit.specs.declared.include.Header.{Header}
use Rattle.dm_unit.specs.declared.reader.Reader.{Reader}
use Rattle.dm_unit.specs.Lines.{Part, directive, text}
use Rattle.dm_unit.specs.States.{Setting, Catalogue, State, Outcome, refusal, limit, for_unit, Then}
use Rattle.dm_unit.specs.Sources.{reading_of, bytes_in}
use Rattle.dm_unit.specs.Sections.{is_read}
use Rattle.dm_macro.specs.Signs.{is_hash}
use Rattle.std.specs.Result.{result_unwrap_or}
use Rattle.dm_unit.specs.Definitions.{define_text, define_line}
use Rattle.dm_unit.specs.Conditions.{Tested, tested, Evaluates, defined_test, Measured, measured, plain, defined, first_item, token_for, use_for}
use Rattle.dm_unit.specs.declared.condition.Operand.{Operand}
use Rattle.dm_unit.specs.Includes.{Sought, sought, Searches, is_header_kind, is_quoted, header_name}
use Rattle.dm_search.specs.Headers.{header_number}
use Rattle.dm_search.specs.Joining.{candidates, places}
use Rattle.dm_unit.specs.Readings.{ReadsPart, Enters, after_text}
use Rattle.dm_unit.specs.Loaders.{Grows, WasUnknown, IsOf, KeepsKnown, HasKnown, file_of, is_known, shown}
use Rattle.dm_io.specs.Faults.{Rose}

-- what was read, where these are the files
abbrev pub state_of : Reader → Catalogue → State
state_of reader files =
    record {
      files = files;
      table = reader.table;
      before = reader.before.items;
      tokens = reader.tokens.items;
      expansions = reader.expansions.items;
      uses = reader.uses.items;
      undefined = reader.undefined.items;
      read_before = reader.read_before.items;
      files_read = reader.files_read.keys;
      once = reader.once.keys;
      inclusions = reader.inclusions;
      instance = reader.instance;
      spent = reader.work.spent;
      sections = reader.sections;
    }

-- a stop is one that is meant; only want of memory is free
abbrev pub Stops : {B : Type 0} → (Result B Stop → Type 0) → Stop → Type 0
Stops Meant Memory = Unit {0}
Stops Meant (Refused refusal) = Meant (Err (Refused refusal))
Stops Meant (Limit limit) = Meant (Err (Limit limit))
Stops Meant (ReadFault file) = Meant (Err (ReadFault file))

-- a step that ends in a state, or stops, is one that is meant
abbrev pub Does : {A : Type 0} → (Outcome → Type 0) → Result A Stop → State → Type 0
Does Meant (Ok answer) after = Meant (Ok after)
Does Meant (Err stop) after = Stops Meant stop

-- the same where only one step is meant
abbrev pub LeadsTo : {A : Type 0} → Outcome → Result A Stop → State → Type 0
LeadsTo meant result after = Does (λ outcome. outcome ≡ meant) result after

-- a condition that is tested, or stops, is one that is meant
abbrev pub Tests : (Result Tested Stop → Type 0) → Result Bool Stop → State → Type 0
Tests Meant (Ok truth) after = Meant (Ok (tested truth after))
Tests Meant (Err stop) after = Stops Meant stop

-- the counts keep their limits
pub record IsCounted (reader : Reader) : Type 0 where
  pub spent : reader.work.spent ≤ most_work
  pub instance : reader.instance ≤ reader.work.spent
  pub read : length reader.table.read ≤ reader.work.spent
  pub tokens : length reader.tokens.items ≤ most_tokens

-- One reader follows another in the same inclusion.
pub record Follows (old new : Reader) : Type 0 where
  pub main : new.main ≡ old.main
  pub inclusions : new.inclusions ≡ old.inclusions
  pub counted : IsCounted new

-- what an expansion gives and leaves
pub record Expands (old new : Reader) (names : List (List ℕ)) (group : List PpToken) (tokens : List Token) (expansions : List Expansion) : Type 0 where
  pub is : expansion_of (looked_up old.table names) group old.instance old.work.spent ≡ Ok (answer tokens expansions new.work.spent)
  pub stays : new ≡ record old { instance = old.instance + length expansions; work = new.work }
  pub counted : IsCounted new

-- an expansion stops so
abbrev pub ExpansionStops : Reader → List (List ℕ) → List PpToken → Stop → Type 0
ExpansionStops reader names group stop =
    Stops (λ (outcome : Result Answer Stop). for_unit reader.main (expansion_of (looked_up reader.table names) group reader.instance reader.work.spent) ≡ outcome) stop

-- a text is refused so
abbrev pub ReadingStops : ℕ → List ℕ → Stop → Type 0
ReadingStops file bytes stop =
    Stops (λ (outcome : Result (List PpToken) Stop). (refused : Refusal) × (reading_of file bytes ≡ Err refused) × (outcome ≡ Err (Refused refused))) stop

-- the text of a define is refused so
abbrev pub TextStops : ℕ → List ℕ → Stop → Type 0
TextStops main define stop = ReadingStops main (define_text define) stop

-- a define is this line
abbrev pub IsLineOf : ℕ → List ℕ → List PpToken → Type 0
IsLineOf main define line = (tokens : List PpToken) × (reading_of main (define_text define) ≡ Ok tokens) × (line ≡ define_line main define tokens)

-- the refusal of an `include` without a header name
abbrev pub LacksHeader : PpToken → List PpToken → Stop → Type 0
LacksHeader start [] stop = Stops (λ (outcome : Outcome). outcome ≡ Err (refusal refusals.directive start.place)) stop
LacksHeader start (header ∷ others) stop = Stops (λ (outcome : Outcome). (is_header_kind header.kind ≡ false) × (outcome ≡ Err (refusal refusals.out_of_subset start.place))) stop

-- a header name, as the code has it
abbrev pub IsHeader : PpToken → List PpToken → Header → Type 0
IsHeader start [] found = ⊥
IsHeader start (header ∷ others) found =
    (is_header_kind header.kind ≡ true) × (found.start ≡ start.place) × (found.quoted ≡ is_quoted header.spelling) × (found.name ≡ header_name header.spelling)

-- The files are those that the folder tells. Whether or not it tells them, a call that doesn't stop has read these where they have all that
-- the loader came to know.
abbrev pub AreRead : Option Files → Loaded → Loaded → Option Stop → Files → Type 0
AreRead told old new stop files = (told ≡ Some files) ⊎ ((stop ≡ None) × HasKnown files old new)

-- The setting has the files of the call. It lets the names be looked for that are known then, and has the names that numbers have then.
pub record Serves (told : Option Files) (unit : Source) (main : ℕ) (old new : Loaded) (stop : Option Stop) (setting : Setting) : Type 0 where
  pub files : (files : Files) × AreRead told old new stop files × ((name : List ℕ) → file_for old files name ≡ setting.source name)
  pub looked : (name : List ℕ) → is_known new name ≡ true → setting.looked name ≡ true
  pub named : (number : ℕ) → number < length new.names → setting.named number ≡ name_of new number
  pub include : setting.include ≡ unit.include
  pub main_is : setting.main ≡ main

-- the files of the call stay
abbrev pub StaysServed : Option Files → Loaded → Loaded → Type 0
StaysServed told old new = (files : Files) → told ≡ Some files → (name : List ℕ) → file_for new files name ≡ file_for old files name

-- the stop of an answer
abbrev pub stop_of : {A : Type 0} → Result A Stop → Option Stop
stop_of (Ok answer) = None
stop_of (Err stop) = Some stop

-- the file that is named by it
abbrev pub named_by : Option Stop → Option ℕ
named_by None = None
named_by (Some stop) = file_of stop

-- What a call leaves of the folder and the loader: the folder's files and rooms stay, and its faults don't fall. A fault is
-- one of a file of which nothing was known, and then they rose. What the loader knows stays known.
pub record Leaves (told told_now : Option Files) (room room_now : List ℕ → ℕ) (faults faults_now : ℕ) (old new : Loaded) (stop : Option Stop) : Type 0 where
  pub files_stay : told_now ≡ told
  pub rooms_stay : (other : List ℕ) → room_now other ≡ room other
  pub later : faults ≤ faults_now
  pub failed : (file : ℕ) → stop ≡ Some (ReadFault file) → Rose faults faults_now
  pub unknown : (file : ℕ) → stop ≡ Some (ReadFault file) → WasUnknown old new file
  pub grows : stop ≢ Some Memory → Grows (named_by stop) old new
  pub knows : stop ≢ Some Memory → KeepsKnown old new
  pub served : StaysServed told old new

-- what a loading of the main file finds
abbrev pub loaded_as : ℕ → Result Bool Stop → Result (Option ℕ) Stop
loaded_as file (Ok there) = Ok (if there then Some file else None)
loaded_as file (Err stop) = Err stop

-- the file of a number can be read
pub record IsHeld (loaded : Loaded) (file : ℕ) : Type 0 where
  pub inside : file < length loaded.names
  pub held : is_held loaded file ≡ true
  pub named : number_of loaded (name_of loaded file) ≡ file

-- each file that is found can be read
abbrev pub FindsHeld : Result (Option ℕ) Stop → Loaded → Type 0
FindsHeld (Ok None) loaded = Unit {0}
FindsHeld (Ok (Some file)) loaded = IsHeld loaded file
FindsHeld (Err stop) loaded = Unit {0}

-- no reading of a file failed
abbrev pub IsFaultless : Stop → Type 0
IsFaultless Memory = Unit {0}
IsFaultless (Refused refusal) = Unit {0}
IsFaultless (Limit limit) = Unit {0}
IsFaultless (ReadFault file) = ⊥

-- tokens that stand in a file
abbrev pub AreIn : ℕ → List PpToken → Type 0
AreIn file [] = Unit {0}
AreIn file (token ∷ others) = (token.place.file ≡ file) × AreIn file others

-- a stop names the main file
abbrev pub NamesMain : {A : Type 0} → ℕ → Result A Stop → Type 0
NamesMain main (Ok answer) = Unit {0}
NamesMain main (Err stop) = stop ≢ Memory → IsOf (file_of stop) main

-- the main file is held, or a stop names it
abbrev pub HoldsMain : {A : Type 0} → ℕ → Result A Stop → Loaded → Type 0
HoldsMain main (Ok answer) loaded = is_held loaded main ≡ true
HoldsMain main (Err stop) loaded = stop ≢ Memory → (is_held loaded main ≡ true) ⊎ IsOf (file_of stop) main

-- the part that tokens make
abbrev pub part_of : List PpToken → Part
part_of [] = text []
part_of (token ∷ others) = if is_hash token then directive token others else text (token ∷ others)

-- the tokens of a file that is held
abbrev pub held_tokens : Loaded → ℕ → List PpToken
held_tokens loaded file = result_unwrap_or (reading_of file (unwrap_or (held_at loaded file) [])) []

-- the bytes of a file that is held are those of the setting
abbrev pub IsBytesOf : Setting → Loaded → ℕ → Type 0
IsBytesOf setting loaded file = held_at loaded file ≡ Some (bytes_in setting (shown loaded) file)

-- a text group, or nothing in a skipped group
abbrev pub text_or_none : ℕ → List PpToken → State → Outcome
text_or_none main group state = if is_read state.sections then after_text main group state else Ok state

-- a directive that neither includes nor belongs to conditional inclusion
abbrev pub IsOther : Directive → Type 0
IsOther Include = ⊥
IsOther If = ⊥
IsOther Ifdef = ⊥
IsOther Ifndef = ⊥
IsOther Elif = ⊥
IsOther Else = ⊥
IsOther Endif = ⊥
IsOther other = Unit {0}

-- One reader follows another, over at most one inclusion.
pub record FollowsPart (old new : Reader) : Type 0 where
  pub main : new.main ≡ old.main
  pub rises : old.inclusions ≤ new.inclusions
  pub few : new.inclusions ≤ most_inclusions
  pub counted : IsCounted new

-- what a part of a file does: it ends, or enters a file, or stops
abbrev pub PartLeads : Setting → ℕ → Part → State → Result (Option ℕ) Stop → State → Type 0
PartLeads setting file part before (Ok None) after = (more : ℕ) → ReadsPart setting (Enters setting more) file part before (Ok after)
PartLeads setting file part before (Ok (Some inner)) after =
    (more : ℕ) (outcome : Outcome) → Enters setting more inner after outcome → ReadsPart setting (Enters setting more) file part before outcome
PartLeads setting file part before (Err stop) after =
    Stops (λ (outcome : Outcome). (more : ℕ) → ReadsPart setting (Enters setting more) file part before outcome) stop

-- the item that begins with a token, as the code has it
abbrev pub item_value : PpToken → Option Operand → Measured
item_value first None = measured (plain first) 0
item_value first (Some operand) = measured (defined first operand.name.now operand.last.now) operand.more

-- an item more of a condition
pub record TakesItem (table : Table) (first : PpToken) (others tokens more_tokens : List PpToken) (uses more_uses : List Use) (more : ℕ) : Type 0 where
  pub tokens_are : more_tokens ≡ tokens ++ token_for table (first_item first others).item ∷ []
  pub uses_are : more_uses ≡ uses ++ option_to_list (use_for table (first_item first others).item)
  pub more_is : more ≡ (first_item first others).more
  pub inside : more ≤ length others

-- the test of the directive that opens a section
abbrev pub TestsBy : Directive → ℕ → PpToken → List PpToken → State → Result Tested Stop → Type 0
TestsBy Ifdef main start operands state result = result ≡ defined_test true start operands state
TestsBy Ifndef main start operands state result = result ≡ defined_test false start operands state
TestsBy other main start operands state result = Evaluates main start operands state result

-- the innermost section, which has no `else` yet
abbrev pub IsBeforeElse : List Section → Section → Type 0
IsBeforeElse [] found = ⊥
IsBeforeElse (section ∷ outer) found = (found ≡ section) × (section.has_else ≡ false)

-- there is none
abbrev pub LacksSection : PpToken → List Section → Stop → Type 0
LacksSection start [] stop = stop ≡ refusal refusals.conditionals start.place
LacksSection start (section ∷ outer) stop = (section.has_else ≡ true) × (stop ≡ refusal refusals.conditionals start.place)

-- one inclusion more
abbrev pub IncludesOne : Reader → Reader → Type 0
IncludesOne old new = (old.inclusions < most_inclusions) × (new ≡ record old { inclusions = old.inclusions + 1 })

-- a search, and the files that it knows then
abbrev pub SearchLeads : Setting → Option ℕ → List (List ℕ) → Catalogue → Result (Option ℕ) Stop → Catalogue → Type 0
SearchLeads setting header names before (Ok number) after = Searches setting header names before (Ok (sought number after))
SearchLeads setting header names before (Err stop) after = Stops (Searches setting header names before) stop

-- the search for a header
abbrev pub SearchesHeader : Setting → ℕ → Header → Catalogue → Result Sought Stop → Type 0
SearchesHeader setting file header files result =
    Searches setting (header_number header.name) (candidates header.name (places (slice_index_or files.names file []) header.quoted setting.include)) files result

-- the stop behind a search: no file was found, or there are too many inclusions
abbrev pub IncludesStop : ℕ → Place → ℕ → Option ℕ → Outcome → Type 0
IncludesStop main start inclusions None outcome = outcome ≡ Err (refusal refusals.not_found start)
IncludesStop main start inclusions (Some number) outcome = (most_inclusions ≤ inclusions) × (outcome ≡ Err (limit limits.inclusions main))

-- a search with what follows it, up to the file that is entered
abbrev pub FindsIncluded : Setting → ℕ → Header → Catalogue → Reader → Result ℕ Stop → Catalogue → Type 0
FindsIncluded setting file header before reader (Ok number) after = SearchesHeader setting file header before (Ok (sought (Some number) after))
FindsIncluded setting file header before reader (Err stop) after =
    Stops (λ (outcome : Outcome).
    Then (SearchesHeader setting file header before)
    (λ found result. IncludesStop setting.main header.start reader.inclusions found.number result) outcome) stop
