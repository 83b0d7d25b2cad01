-- How far the reading of a unit has come, and how one step of it follows another.
--     Setting      what the reading is given
--     State      what was read so far
--     Then First Second      one step, and then another
use Rattle.std.specs.Prelude.{◌≡◌, ◌⊎◌, ℕ, Bool, List, Option, Result, Ok, Err}
use Rattle.dm_token.specs.LimitNumbers as limits
use Rattle.dm_token.specs.declared.place.Place.{Place}
use Rattle.dm_token.specs.declared.stop.Stop.{Stop}
use Rattle.dm_token.specs.declared.stop.Stop.TheVariants.{Memory, Refused, Limit, ReadFault}
use Rattle.dm_token.specs.declared.token.Token.{Token}
use Rattle.dm_token.specs.declared.expansion.Expansion.{Expansion}
use Rattle.dm_token.specs.declared.unit.Use.{Use}
use Rattle.dm_token.specs.declared.token.PpToken.{PpToken}
use Rattle.dm_macro.specs.Tables.{Table}
use Rattle.dm_expand.specs.Expansion.{Answer, expansion_of}
use Rattle.dm_expand.specs.AnswerViews.{looked_up}
use Rattle.dm_unit.specs.declared.section.Section.{Section}

-- what the reading of a unit is given: the bytes of each file by its name, if there is one (a built-in header has a name
-- such as `<stdio.h>`), the names that may be looked for in the folder, the name of each number, the include folders in order,
-- and the number of the main file
pub record Setting : Type 0 where
  pub source : List ℕ → Option (List ℕ)
  pub looked : List ℕ → Bool
  pub named : ℕ → List ℕ
  pub include : List (List ℕ)
  pub main : ℕ

-- the files by number: their names, and whether each was found in the call
pub record Catalogue : Type 0 where
  pub names : List (List ℕ)
  pub found : List Bool

pub record State : Type 0 where
  pub files : Catalogue
  -- the definitions
  pub table : Table
  -- how many tokens were put out before each of them
  pub before : List ℕ
  pub tokens : List Token
  -- the expansions outside directives
  pub expansions : List Expansion
  -- the names in conditions
  pub uses : List Use
  -- the names in `#undef`
  pub undefined : List Use
  -- how many definitions were read before each of them
  pub read_before : List ℕ
  -- the numbers of the files read, in the order of first reading
  pub files_read : List ℕ
  -- the numbers of the files with `#pragma once`
  pub once : List ℕ
  -- how many inclusions there were
  pub inclusions : ℕ
  -- the number of the next expansion
  pub instance : ℕ
  -- the work that is counted
  pub spent : ℕ
  -- the if-sections of the present file that are open, the innermost first
  pub sections : List Section

-- what a step gives: how far the reading has come then, or why it stops
abbrev pub Outcome : Type 0
Outcome = Result State Stop

-- the refusal of this number, at a place
abbrev pub refusal : ℕ → Place → Stop
refusal number place = Refused (record { number = number; detail = 0; place = place })

-- a limit that is passed, with the file that is named beside it
abbrev pub limit : ℕ → ℕ → Stop
limit number file = Limit (record { number = number; file = file })

-- the stop of an expansion in a unit: beside refusals an expansion knows the limit of work alone, and no file is read
abbrev pub in_unit : ℕ → Stop → Stop
in_unit main Memory = Memory
in_unit main (Refused refusal) = Refused refusal
in_unit main (Limit passed) = limit limits.work main
in_unit main (ReadFault file) = limit limits.work main

-- an expansion in a unit, whose limit is named beside the main file
abbrev pub for_unit : {A : Type 0} → ℕ → Result A Stop → Result A Stop
for_unit main (Ok answer) = Ok answer
for_unit main (Err stop) = Err (in_unit main stop)

-- the expansion of tokens in a unit (6.10.3)
abbrev pub expansion_in : ℕ → State → List PpToken → Result Answer Stop
expansion_in main state tokens =
    for_unit main (expansion_of (looked_up state.table state.files.names) tokens state.instance state.spent)

-- One step and then another, which begins where the first ends, unless that stops.
abbrev pub Then : {A B : Type 0} → (Result A Stop → Type 0) → (A → Result B Stop → Type 0) → Result B Stop → Type 0
Then {A} {B} First Second outcome =
    ((stop : Stop) × First (Err stop) × (outcome ≡ Err stop)) ⊎ ((middle : A) × First (Ok middle) × Second middle outcome)
