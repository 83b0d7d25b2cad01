-- The preprocessing of a unit (6.10).
--     DoesDirective      what a directive does
--     ReadsParts      the parts of a file, one after another
--     ReadsFile, Enters      a file, and an included file
--     ReadsUnit      a unit
use Rattle.std.specs.Prelude.{◌≡◌, ℕ, zero, suc, Bool, true, false, ◌+◌, ◌&&◌, ◌||◌, ◌==◌, nat_lt, List, [], ◌∷◌, ◌++◌, length, drop, Option, Some, None, Result, Ok, Err, codes, MatchBool, if◌then◌else◌}
use Rattle.std.specs.List.{list_any}
use Rattle.dm_token.specs.Limits as greatest
use Rattle.dm_token.specs.LimitNumbers as limits
use Rattle.dm_token.specs.Refusals as refusals
use Rattle.dm_token.specs.Limits.{header_count, most_tokens, most_inclusions}
use Rattle.dm_token.specs.declared.place.Place.{Place}
use Rattle.dm_token.specs.declared.stop.Stop.{Stop}
use Rattle.dm_token.specs.declared.token.PpToken.{PpToken}
use Rattle.dm_macro.specs.Signs.{is_word}
use Rattle.dm_expand.specs.Expansion.{Answer}
use Rattle.dm_unit.specs.declared.directive.Directive.{Directive}
use Rattle.dm_unit.specs.declared.directive.Directive.TheVariants.{If, Ifdef, Ifndef, Elif, Else, Endif, Include, Define, Undef, Line, Error, Pragma, Null, Unknown}
use Rattle.dm_unit.specs.declared.section.Stage.{Stage}
use Rattle.dm_unit.specs.declared.section.Stage.TheVariants.{Read, Waiting, Over}
use Rattle.dm_unit.specs.declared.section.Section.{Section}
use Rattle.dm_unit.specs.Lines.{Part, directive, text, parts_of}
use Rattle.dm_unit.specs.Directives.{directive_of}
use Rattle.dm_unit.specs.Sections.{is_read, stage_by, after_else, after_skipped_elif, after_elif}
use Rattle.dm_unit.specs.States.{Setting, Catalogue, State, Outcome, refusal, limit, expansion_in, Then}
use Rattle.dm_unit.specs.Sources.{bytes_in, tokens_in}
use Rattle.dm_unit.specs.Definitions.{DoesDefine, after_undef, DoesManifest}
use Rattle.dm_unit.specs.Includes.{Searches, SearchesFor, is_header_kind}
use Rattle.dm_unit.specs.Conditions.{Tested, Evaluates, defined_test}

-- TEXT GROUPS

-- the state behind what a text group expands to
abbrev pub with_text : Answer → State → State
with_text answer state =
    record state {
      tokens = state.tokens ++ answer.tokens;
      expansions = state.expansions ++ answer.expansions;
      instance = state.instance + length answer.expansions;
      spent = answer.spent;
    }

-- there are no more tokens than a unit may have
abbrev pub if_few : ℕ → State → Outcome
if_few main state = if nat_lt most_tokens (length state.tokens) then Err (limit limits.unit_tokens main) else Ok state

-- a text group is expanded, unless that stops
abbrev pub after_expansion : ℕ → State → Result Answer Stop → Outcome
after_expansion main state (Ok answer) = if_few main (with_text answer state)
after_expansion main state (Err stop) = Err stop

-- a text group (6.10.3)
abbrev pub after_text : ℕ → List PpToken → State → Outcome
after_text main tokens state = after_expansion main state (expansion_in main state tokens)

-- CONDITIONAL INCLUSION (6.10.1)

-- the open sections of the present file
abbrev pub within : List Section → State → State
within sections state = record state { sections = sections }

-- a section more, in this stage
abbrev pub pushed : Place → Stage → State → Outcome
pushed hash stage state = Ok (within (record { hash = hash; stage = stage; has_else = false } ∷ state.sections) state)

-- a section is opened whose condition had this truth
abbrev pub opens : PpToken → Tested → Outcome
opens start tested = pushed start.place (stage_by tested.truth) tested.state

-- `if`, `ifdef` and `ifndef`: in a skipped group only the nesting is followed
abbrev pub Opens : PpToken → State → (Result Tested Stop → Type 0) → Outcome → Type 0
Opens start state Tests outcome =
    MatchBool (is_read state.sections) (Then Tests (λ tested result. result ≡ opens start tested) outcome)
    (outcome ≡ pushed start.place Over state)

-- a directive that has no section to which it belongs
abbrev pub lost : PpToken → Outcome
lost start = Err (refusal refusals.conditionals start.place)

-- `elif` by the stage of its section: its condition is evaluated only where no group was read yet
abbrev pub DoesElifAt : Stage → Section → List Section → (Result Tested Stop → Type 0) → State → Outcome → Type 0
DoesElifAt Waiting section outer Tests state outcome =
    Then Tests (λ tested result. result ≡ Ok (within (after_elif tested.truth section ∷ outer) tested.state)) outcome
DoesElifAt Read section outer Tests state outcome = outcome ≡ Ok (within (after_skipped_elif section ∷ outer) state)
DoesElifAt Over section outer Tests state outcome = outcome ≡ Ok (within (after_skipped_elif section ∷ outer) state)

-- `elif`, which stands in a section and before its `else`
abbrev pub DoesElif : PpToken → List Section → (Result Tested Stop → Type 0) → State → Outcome → Type 0
DoesElif start [] Tests state outcome = outcome ≡ lost start
DoesElif start (section ∷ outer) Tests state outcome =
    MatchBool section.has_else (outcome ≡ lost start) (DoesElifAt section.stage section outer Tests state outcome)

-- `else`, which comes once
abbrev pub else_in : PpToken → List Section → State → Outcome
else_in start [] state = lost start
else_in start (section ∷ outer) state = if section.has_else then lost start else Ok (within (after_else section ∷ outer) state)

-- `endif`
abbrev pub endif_in : PpToken → List Section → State → Outcome
endif_in start [] state = lost start
endif_in start (section ∷ outer) state = Ok (within outer state)

-- the end of a file, where no section may be open
abbrev pub end_in : List Section → State → Outcome
end_in [] state = Ok state
end_in (section ∷ outer) state = Err (refusal refusals.conditionals section.hash)

-- OTHER DIRECTIVES

-- whether a number is among others
abbrev pub is_among : ℕ → List ℕ → Bool
is_among number numbers = list_any (λ other. number == other) numbers

-- numbers with one that goes last where it is new
abbrev pub with_number : List ℕ → ℕ → List ℕ
with_number numbers number = if is_among number numbers then numbers else numbers ++ number ∷ []

-- `pragma`: `once` alone is known (6.10.6)
abbrev pub is_once : List PpToken → Bool
is_once [] = false
is_once (word ∷ []) = is_word (codes "once") word
is_once (word ∷ second ∷ others) = false

abbrev pub after_pragma : ℕ → PpToken → List PpToken → State → Outcome
after_pragma file start operands state =
    if is_once operands then Ok (record state { once = with_number state.once file }) else Err (refusal refusals.out_of_subset start.place)

-- the state in which an inclusion begins
abbrev pub counted : Catalogue → State → State
counted files state = record state { files = files; inclusions = state.inclusions + 1 }

-- a file was found, or none: it is entered, unless there are too many inclusions
abbrev pub Includes : Setting → (ℕ → State → Outcome → Type 0) → PpToken → Option ℕ → Catalogue → State → Outcome → Type 0
Includes setting Enters start None files state outcome = outcome ≡ Err (refusal refusals.not_found start.place)
Includes setting Enters start (Some number) files state outcome =
    MatchBool (nat_lt state.inclusions most_inclusions) (Enters number (counted files state) outcome)
    (outcome ≡ Err (limit limits.inclusions setting.main))

-- `include` (6.10.2)
abbrev pub DoesInclude : Setting → (ℕ → State → Outcome → Type 0) → ℕ → PpToken → List PpToken → State → Outcome → Type 0
DoesInclude setting Enters file start [] state outcome = outcome ≡ Err (refusal refusals.directive start.place)
DoesInclude setting Enters file start (header ∷ others) state outcome =
    MatchBool (is_header_kind header.kind)
    (Then (SearchesFor setting file header.spelling state.files) (λ sought. Includes setting Enters start sought.number sought.files state) outcome)
    (outcome ≡ Err (refusal refusals.out_of_subset start.place))

-- A directive in a group that is read, apart from those of conditional inclusion. The tokens behind its `#` are the name
-- and its operands.
abbrev pub DoesRead : Setting → (ℕ → State → Outcome → Type 0) → ℕ → Directive → PpToken → List PpToken → State → Outcome → Type 0
DoesRead setting Enters file Include start behind state outcome = DoesInclude setting Enters file start (drop 1 behind) state outcome
DoesRead setting Enters file Define start behind state outcome =
    DoesDefine setting.main file (bytes_in setting state.files file) start behind state outcome
DoesRead setting Enters file Undef start behind state outcome = outcome ≡ after_undef start (drop 1 behind) state
DoesRead setting Enters file Line start behind state outcome = outcome ≡ Err (refusal refusals.out_of_subset start.place)
DoesRead setting Enters file Error start behind state outcome = outcome ≡ Err (refusal refusals.error_directive start.place)
DoesRead setting Enters file Pragma start behind state outcome = outcome ≡ after_pragma file start (drop 1 behind) state
DoesRead setting Enters file Null start behind state outcome = outcome ≡ Ok state
DoesRead setting Enters file Unknown start behind state outcome = outcome ≡ Err (refusal refusals.directive start.place)
DoesRead setting Enters file other start behind state outcome = ⊥

-- Those of conditional inclusion are done in any group, all others only where the group is read.
abbrev pub DoesDirective : Setting → (ℕ → State → Outcome → Type 0) → ℕ → Directive → PpToken → List PpToken → State → Outcome → Type 0
DoesDirective setting Enters file If start behind state outcome = Opens start state (Evaluates setting.main start (drop 1 behind) state) outcome
DoesDirective setting Enters file Ifdef start behind state outcome =
    Opens start state (λ result. result ≡ defined_test true start (drop 1 behind) state) outcome
DoesDirective setting Enters file Ifndef start behind state outcome =
    Opens start state (λ result. result ≡ defined_test false start (drop 1 behind) state) outcome
DoesDirective setting Enters file Elif start behind state outcome =
    DoesElif start state.sections (Evaluates setting.main start (drop 1 behind) state) state outcome
DoesDirective setting Enters file Else start behind state outcome = outcome ≡ else_in start state.sections state
DoesDirective setting Enters file Endif start behind state outcome = outcome ≡ endif_in start state.sections state
DoesDirective setting Enters file other start behind state outcome =
    MatchBool (is_read state.sections) (DoesRead setting Enters file other start behind state outcome) (outcome ≡ Ok state)

-- THE PARTS OF A FILE

-- a part of the file of this number; a text group in a skipped group is passed over
abbrev pub ReadsPart : Setting → (ℕ → State → Outcome → Type 0) → ℕ → Part → State → Outcome → Type 0
ReadsPart setting Enters file (directive start behind) state outcome =
    DoesDirective setting Enters file (directive_of behind) start behind state outcome
ReadsPart setting Enters file (text tokens) state outcome = outcome ≡ (if is_read state.sections then after_text setting.main tokens state else Ok state)

-- its parts, one after another, up to its end
unfoldable pub ReadsParts : Setting → (ℕ → State → Outcome → Type 0) → ℕ → List Part → State → Outcome → Type 0
ReadsParts setting Enters file [] state outcome = outcome ≡ end_in state.sections state
ReadsParts setting Enters file (part ∷ parts) state outcome =
    Then (ReadsPart setting Enters file part state) (ReadsParts setting Enters file parts) outcome

-- the state at the beginning of a file
abbrev pub begun : ℕ → State → State
begun file state =
    record state { files_read = with_number state.files_read file; sections = [] }

-- a file, from its beginning to its end
abbrev pub ReadsFile : Setting → (ℕ → State → Outcome → Type 0) → ℕ → State → Outcome → Type 0
ReadsFile setting Enters file state outcome =
    Then (ReadsParts setting Enters file (parts_of (tokens_in setting state.files file)) (begun file state))
    (λ read result. result ≡ Ok (within state.sections read)) outcome

-- whether a later inclusion of a file is empty: it has `#pragma once`, or is a built-in header that was read
abbrev pub is_passed : ℕ → State → Bool
is_passed file state = is_among file state.once || (nat_lt file header_count && is_among file state.files_read)

-- An included file, where so many more may be open within each other.
unfoldable pub Enters : Setting → ℕ → ℕ → State → Outcome → Type 0
Enters setting zero file state outcome = outcome ≡ Err (limit limits.nested_files setting.main)
Enters setting (suc more) file state outcome =
    MatchBool (is_passed file state) (outcome ≡ Ok state) (ReadsFile setting (Enters setting more) file state outcome)

-- the greatest number of files that are open within each other, the main file not counted
unfoldable pub most_nested : ℕ
most_nested = greatest.most_nested

-- THE UNIT

-- the defines of the manifest, in order
unfoldable pub DoesManifests : Setting → List (List ℕ) → State → Outcome → Type 0
DoesManifests setting [] state outcome = outcome ≡ Ok state
DoesManifests setting (define ∷ defines) state outcome =
    Then (DoesManifest setting.main define state) (DoesManifests setting defines) outcome

-- the place at which an absent main file is refused
abbrev pub absent_place : ℕ → Place
absent_place main = record { file = main; byte = 0; line = 1; column = 1 }

-- the main file, if there is one
abbrev pub ReadsFound : Setting → Option ℕ → Catalogue → State → Outcome → Type 0
ReadsFound setting None files state outcome = outcome ≡ Err (refusal refusals.not_found (absent_place setting.main))
ReadsFound setting (Some number) files state outcome = ReadsFile setting (Enters setting most_nested) number (record state { files = files }) outcome

abbrev pub ReadsMain : Setting → List ℕ → State → Outcome → Type 0
ReadsMain setting name state outcome =
    Then (Searches setting None (name ∷ []) state.files) (λ sought. ReadsFound setting sought.number sought.files state) outcome

-- A unit: the defines of the manifest, and then the main file of this name.
unfoldable pub ReadsUnit : Setting → List ℕ → List (List ℕ) → State → Outcome → Type 0
ReadsUnit setting name defines state outcome =
    Then (DoesManifests setting defines state) (ReadsMain setting name) outcome
