-- The conditions of conditional inclusion (6.10.1).
--     items skip operands      the operands, with each `defined` and its name as one
--     Evaluates main start operands state result      what a condition's truth is, and what its evaluation leaves
--     defined_test wanted start operands state      what `ifdef` and `ifndef` test
use Rattle.std.specs.Prelude.{◌≡◌, ◌⊎◌, ℕ, zero, suc, Bool, ◌+◌, ◌*◌, ◌&&◌, ◌||◌, not, List, [], ◌∷◌, ◌++◌, map, length, Option, Some, None, Result, Ok, Err, is_some, codes, slice_get, IsPermutation, MatchBool, if◌then◌else◌}
use Rattle.std.specs.List.{list_any, filter_map}
use Rattle.std.specs.Option.{option_map_or}
use Rattle.std.specs.List.Sorted.{IsNonDecreasingBy}
use Rattle.dm_token.specs.Refusals as refusals
use Rattle.dm_token.specs.declared.place.Place.{Place}
use Rattle.dm_token.specs.declared.stop.Stop.{Stop}
use Rattle.dm_token.specs.declared.token.PpToken.{PpToken}
use Rattle.dm_token.specs.declared.token.PpKind.TheVariants.{Number}
use Rattle.dm_token.specs.declared.token.Token.{Token}
use Rattle.dm_token.specs.declared.expansion.Definition.{Definition}
use Rattle.dm_token.specs.declared.expansion.Expansion.{Expansion}
use Rattle.dm_token.specs.declared.unit.Use.{Use}
use Rattle.dm_spell.specs.Punctuators.{left_parenthesis, right_parenthesis}
use Rattle.dm_macro.specs.Signs.{is_punctuator, is_identifier, is_word, is_predefined}
use Rattle.dm_macro.specs.Tables.{Table, number_of}
use Rattle.dm_expand.specs.Expansion.{Answer}
use Rattle.dm_cond.specs.Readings.{HasTruth}
use Rattle.dm_unit.specs.Definitions.{use_of}
use Rattle.dm_unit.specs.States.{State, refusal, expansion_in}

-- THE OPERATOR `defined`

-- what stands in a condition: a token, or `defined` with the name behind it and its last token, which is the name or `)`
pub data Item : Type 0 where
  plain : PpToken → Item
  defined : PpToken → PpToken → PpToken → Item

-- whether a token is the operator `defined` (6.10.1p1)
abbrev pub is_defined_word : PpToken → Bool
is_defined_word token = is_word (codes "defined") token

-- an item, and how many tokens more belong to it
pub record Measured : Type 0 where
  pub item : Item
  pub more : ℕ

abbrev pub measured : Item → ℕ → Measured
measured item more = record { item = item; more = more }

-- what begins with `defined` and a token that is no name: `defined ( NAME )`, or a mere token
abbrev pub parenthesized_item : PpToken → PpToken → List PpToken → Measured
parenthesized_item word first (name ∷ last ∷ others) =
    if is_punctuator left_parenthesis first && is_identifier name && is_punctuator right_parenthesis last then measured (defined word name last) 3
    else measured (plain word) 0
parenthesized_item word first others = measured (plain word) 0

-- what begins with `defined`: `defined NAME`, `defined ( NAME )`, or a mere token
abbrev pub defined_item : PpToken → List PpToken → Measured
defined_item word [] = measured (plain word) 0
defined_item word (first ∷ others) = if is_identifier first then measured (defined word first first) 1 else parenthesized_item word first others

-- what begins with a token
abbrev pub first_item : PpToken → List PpToken → Measured
first_item token others = if is_defined_word token then defined_item token others else measured (plain token) 0

-- the items of the tokens behind so many
unfoldable pub items : ℕ → List PpToken → List Item
items skip [] = []
items (suc skip) (token ∷ others) = items skip others
items zero (token ∷ others) = (first_item token others).item ∷ items (first_item token others).more others

-- whether a name is defined; the predefined names are (6.10.8)
abbrev pub is_defined : Table → PpToken → Bool
is_defined table name = is_some (number_of table name.spelling) || is_predefined name.spelling

-- the token that a `defined` becomes, 1 or 0 (6.10.1p1)
abbrev pub truth_token : Bool → PpToken → PpToken → PpToken
truth_token truth word last =
    record {
      kind = Number;
      spelling = if truth then codes "1" else codes "0";
      place = word.place;
      end = last.end;
      blank_before = word.blank_before;
      line_first = word.line_first;
    }

abbrev pub token_for : Table → Item → PpToken
token_for table (plain token) = token
token_for table (defined word name last) = truth_token (is_defined table name) word last

-- the name that an item asks for
abbrev pub use_for : Table → Item → Option Use
use_for table (plain token) = None
use_for table (defined word name last) = Some (use_of table name)

-- the operands with each `defined` replaced
abbrev pub replaced : Table → List PpToken → List PpToken
replaced table operands = map (token_for table) (items 0 operands)

-- the names that they ask for
abbrev pub names_asked : Table → List PpToken → List Use
names_asked table operands = filter_map (use_for table) (items 0 operands)

-- THE VALUE

-- the name of a definition
abbrev pub name_of : Table → ℕ → List ℕ
name_of table number = option_map_or (λ (definition : Definition). definition.name) (slice_get table.read number) []

-- the use of a macro that is expanded
abbrev pub use_by : Table → Expansion → Use
use_by table made = record { name = name_of table made.definition; definition = Some made.definition; place = made.name }

-- the number of a place in the order of files and then of bytes
abbrev pub place_number : Place → ℕ
place_number place = place.file * 4294967296 + place.byte

-- that of a use
abbrev pub number_of_use : Use → ℕ
number_of_use named = place_number named.place

-- Uses in the order of their places.
abbrev pub AreInOrder : List Use → List Use → Type 0
AreInOrder made ordered = IsPermutation made ordered × IsNonDecreasingBy number_of_use ordered

-- the truth of a condition, and how far the reading has come behind it
pub record Tested : Type 0 where
  pub truth : Bool
  pub state : State

abbrev pub tested : Bool → State → Tested
tested truth state = record { truth = truth; state = state }

-- names were used, and so much was expanded
abbrev pub with_uses : List Use → Answer → State → State
with_uses uses answer state =
    record state { uses = state.uses ++ uses; instance = state.instance + length answer.expansions; spent = answer.spent }

-- the condition is refused
abbrev pub no_condition : PpToken → Result Tested Stop
no_condition start = Err (refusal refusals.condition start.place)

-- The condition has a value, which is its truth, or none, and then it is refused.
abbrev pub Judged : PpToken → List Use → Answer → State → Result Tested Stop → Type 0
Judged start asked answer state result =
    ((truth : Bool) × HasTruth answer.tokens truth × (uses : List Use) × AreInOrder (asked ++ map (use_by state.table) answer.expansions) uses
    × (result ≡ Ok (tested truth (with_uses uses answer state))))
    ⊎ (((truth : Bool) → ¬ HasTruth answer.tokens truth) × (result ≡ no_condition start))

-- Once macros are expanded, no `defined` is left, and what there is has a value (6.10.1p4).
abbrev pub Judges : PpToken → List Use → Answer → State → Result Tested Stop → Type 0
Judges start asked answer state result =
    MatchBool (list_any (λ (token : Token). is_defined_word token.pp) answer.tokens)
    (result ≡ no_condition start)
    (Judged start asked answer state result)

-- macros are expanded, unless that stops
abbrev pub JudgesExpanded : PpToken → List Use → Result Answer Stop → State → Result Tested Stop → Type 0
JudgesExpanded start asked (Ok answer) state result = Judges start asked answer state result
JudgesExpanded start asked (Err stop) state result = result ≡ Err stop

-- The condition of `if` or `elif`: each `defined` is replaced, then macros are expanded, and then its value decides.
abbrev pub Evaluates : ℕ → PpToken → List PpToken → State → Result Tested Stop → Type 0
Evaluates main start operands state result =
    JudgesExpanded start (names_asked state.table operands) (expansion_in main state (replaced state.table operands)) state result

-- `ifdef` and `ifndef` ask whether a name is defined, or isn't (6.10.1p5)
abbrev pub defined_test : Bool → PpToken → List PpToken → State → Result Tested Stop
defined_test wanted start [] state = Err (refusal refusals.directive start.place)
defined_test wanted start (name ∷ others) state =
    if is_identifier name
    then Ok (tested (if wanted then is_defined state.table name else not (is_defined state.table name)) (record state { uses = state.uses ++ use_of state.table name ∷ [] }))
    else Err (refusal refusals.directive start.place)
