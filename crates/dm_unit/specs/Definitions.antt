-- Macro definitions: `#define`, `#undef` (6.10.3, 6.10.3.5) and the defines of a manifest.
use Rattle.std.specs.Prelude.{◌≡◌, ◌⊎◌, ℕ, suc, Bool, true, false, ◌+◌, ◌&&◌, ◌==◌, not, nat_lt, List, [], ◌∷◌, ◌++◌, map, length, take, drop, Result, Ok, Err, codes, slice_range, MatchBool, if◌then◌else◌}
use Rattle.std.specs.List.{list_any, position_or_len, before_first, after_first}
use Rattle.dm_token.specs.LimitNumbers as limits
use Rattle.dm_token.specs.Refusals as refusals
use Rattle.dm_token.specs.Limits.{header_count, most_work}
use Rattle.dm_token.specs.declared.place.Place.{Place}
use Rattle.dm_token.specs.declared.stop.Refusal.{Refusal}
use Rattle.dm_token.specs.declared.stop.Stop.{Stop}
use Rattle.dm_token.specs.declared.stop.Stop.TheVariants.{Refused}
use Rattle.dm_token.specs.declared.token.PpToken.{PpToken}
use Rattle.dm_token.specs.declared.token.PpKind.TheVariants.{Identifier, Number, Punctuator}
use Rattle.dm_token.specs.declared.expansion.Origin.{Origin}
use Rattle.dm_token.specs.declared.expansion.Origin.TheVariants.{File, Header, Manifest}
use Rattle.dm_token.specs.declared.unit.Use.{Use}
use Rattle.dm_token.specs.Bytes.{newline, slash}
use Rattle.dm_spell.specs.Punctuators.{hash}
use Rattle.dm_macro.specs.Signs.{is_identifier, is_macro_name, is_right_parenthesis}
use Rattle.dm_macro.specs.Forms.{is_function_like}
use Rattle.dm_macro.specs.Tables.{Table, number_of, undefined, Defines, IsMisformed, HasBareHash, Redefines}
use Rattle.dm_unit.specs.Sources.{reading_of}
use Rattle.dm_unit.specs.States.{State, Outcome, refusal, limit}

-- A LINE

-- why a line can't define a macro: refusal 5, 11 or 12
abbrev pub CannotDefine : Table → List PpToken → Origin → Bool → Stop → Type 0
CannotDefine table line origin plain stop =
    IsMisformed line origin plain stop ⊎ (HasBareHash line origin plain stop ⊎ Redefines table line origin plain stop)

-- a definition more, and this is the table then
abbrev pub with_definition : Table → State → State
with_definition table state =
    record state { table = table; before = state.before ++ length state.tokens ∷ []; spent = state.spent + 1 }

-- A line defines a macro, or can't. It counts as work in any case.
abbrev pub DefinesLine : ℕ → List PpToken → Origin → Bool → State → Outcome → Type 0
DefinesLine main line origin plain state outcome =
    MatchBool (nat_lt state.spent most_work)
    (((table : Table) × Defines state.table line origin plain table × (outcome ≡ Ok (with_definition table state)))
    ⊎ ((stop : Stop) × CannotDefine state.table line origin plain stop × (outcome ≡ Err stop)))
    (outcome ≡ Err (limit limits.work main))

-- THE DIRECTIVES

-- the parameter list behind a name, through its `)`, where there is one
abbrev pub parameter_list : List PpToken → List PpToken
parameter_list behind = if is_function_like behind then take (suc (position_or_len is_right_parenthesis behind)) behind else []

-- the head of a definition: the tokens of its line from `#` through the name, or through the `)` of the parameter list
abbrev pub head_of : List PpToken → List PpToken
head_of (start ∷ directive ∷ name ∷ behind) = start ∷ (directive ∷ (name ∷ parameter_list behind))
head_of others = others

-- whether no newline is among bytes
abbrev pub is_one_line : List ℕ → Bool
is_one_line bytes = not (list_any (λ byte. byte == newline) bytes)

-- whether bytes between tokens have neither a newline nor a comment
abbrev pub is_plain_gap : List ℕ → Bool
is_plain_gap bytes = is_one_line bytes && not (list_any (λ byte. byte == slash) bytes)

-- whether a token has no splice in it, and neither splices nor comments stand before it, from an offset on
abbrev pub is_plain_token : List ℕ → ℕ → PpToken → Bool
is_plain_token bytes from token =
    is_plain_gap (slice_range bytes from token.place.byte) && is_one_line (slice_range bytes token.place.byte token.end)

-- Whether tokens have no splice in them and neither splices nor comments between them, from an offset on. A splice is a
-- newline in the file.
unfoldable pub are_plain : List ℕ → ℕ → List PpToken → Bool
are_plain bytes from [] = true
are_plain bytes from (token ∷ others) = is_plain_token bytes from token && are_plain bytes token.end others

-- whether neither a splice nor a comment stands in the head of a line
abbrev pub is_plain_head : List ℕ → PpToken → List PpToken → Bool
is_plain_head bytes start line = are_plain bytes start.place.byte (head_of line)

-- where a definition in the file of this number stands
abbrev pub origin_of : ℕ → Origin
origin_of file = if nat_lt file header_count then Header else File

-- whether a name stands first, as `define` needs it
abbrev pub begins_with_name : List PpToken → Bool
begins_with_name [] = false
begins_with_name (name ∷ others) = is_identifier name

-- `#define` in the file of this number with these bytes, where `behind` are the tokens behind the `#`
abbrev pub DoesDefine : ℕ → ℕ → List ℕ → PpToken → List PpToken → State → Outcome → Type 0
DoesDefine main file bytes start behind state outcome =
    MatchBool (begins_with_name (drop 1 behind))
    (DefinesLine main (start ∷ behind) (origin_of file) (is_plain_head bytes start (start ∷ behind)) state outcome)
    (outcome ≡ Err (refusal refusals.directive start.place))

-- a name that a directive uses
abbrev pub use_of : Table → PpToken → Use
use_of table name = record { name = name.spelling; definition = number_of table name.spelling; place = name.place }

-- a name is undefined, whether it was defined or not (6.10.3.5p2)
abbrev pub with_undefined : PpToken → State → State
with_undefined name state =
    record state {
      table = undefined state.table name.spelling;
      undefined = state.undefined ++ use_of state.table name ∷ [];
      read_before = state.read_before ++ length state.table.read ∷ [];
    }

-- `#undef` with these operands
abbrev pub after_undef : PpToken → List PpToken → State → Outcome
after_undef start [] state = Err (refusal refusals.directive start.place)
after_undef start (name ∷ others) state = if is_macro_name name then Ok (with_undefined name state) else Err (refusal refusals.directive start.place)

-- THE DEFINES OF A MANIFEST

-- the place of what the manifest writes: the start of the main file
abbrev pub first_place : ℕ → Place
first_place main = record { file = main; byte = 0; line = 1; column = 1 }

abbrev pub at_start : ℕ → PpToken → PpToken
at_start main token = record token { place = first_place main; end = 0 }

abbrev pub hash_token : ℕ → PpToken
hash_token main = record { kind = Punctuator hash; spelling = codes "#"; place = first_place main; end = 0; blank_before = true; line_first = true }

abbrev pub define_token : ℕ → PpToken
define_token main = record { kind = Identifier; spelling = codes "define"; place = first_place main; end = 0; blank_before = false; line_first = false }

abbrev pub one_token : ℕ → PpToken
one_token main = record { kind = Number; spelling = codes "1"; place = first_place main; end = 0; blank_before = true; line_first = false }

abbrev pub is_equals_sign : ℕ → Bool
is_equals_sign byte = byte == 61

-- the name and the body of a define, with a blank between them in place of the `=`
abbrev pub define_text : List ℕ → List ℕ
define_text define =
    if list_any is_equals_sign define then before_first is_equals_sign define ++ 32 ∷ after_first is_equals_sign define else define

-- the body of a define that is a name alone
abbrev pub implied_body : ℕ → List ℕ → List PpToken
implied_body main define = if list_any is_equals_sign define then [] else one_token main ∷ []

-- the tokens of the line `#define NAME BODY`
abbrev pub define_line : ℕ → List ℕ → List PpToken → List PpToken
define_line main define tokens = hash_token main ∷ (define_token main ∷ (map (at_start main) tokens ++ implied_body main define))

-- A define of the manifest, where this is its text as tokens: `NAME=BODY` stands for `#define NAME BODY`, and `NAME` for
-- `#define NAME 1`. No lawful define has a text that can't be read.
abbrev pub DefinesText : ℕ → List ℕ → Result (List PpToken) Refusal → State → Outcome → Type 0
DefinesText main define (Ok tokens) state outcome = DefinesLine main (define_line main define tokens) Manifest true state outcome
DefinesText main define (Err refused) state outcome = outcome ≡ Err (Refused refused)

abbrev pub DoesManifest : ℕ → List ℕ → State → Outcome → Type 0
DoesManifest main define state outcome = DefinesText main define (reading_of main (define_text define)) state outcome
