-- What the code's state means: lists whose expansion waits for that of an argument, innermost last.
use Rattle.std.specs.Prelude.{◌≡◌, ◌≤◌, ◌<◌, ◌-◌, ◌+◌, ℕ, suc, Bool, true, false, not, List, [], ◌∷◌, ◌++◌, map, length, take, drop, Option, None, Some, Result, Ok}
use Rattle.std.specs.List.{list_any}
use Rattle.dm_token.specs.declared.token.PpToken.{PpToken}
use Rattle.dm_token.specs.declared.token.Token.{Token}
use Rattle.dm_token.specs.declared.stop.Stop.{Stop}
use Rattle.dm_token.specs.declared.expansion.Definition.{Definition}
use Rattle.dm_expand.specs.HideSets.{HiddenNumbers}
use Rattle.dm_macro.specs.Signs.{is_hash_hash}
use Rattle.dm_macro.specs.declared.role.Role.{Role}
use Rattle.dm_macro.specs.declared.role.Role.TheVariants.{Whole as marked_whole}
use Rattle.dm_macro.specs.Roles.{part_with}
use Rattle.dm_expand.specs.declared.substitute.Content as code_content
use Rattle.dm_expand.specs.declared.substitute.Content.TheVariants.{One, Tokens, Whole}
use Rattle.dm_expand.specs.declared.substitute.Whole as code_whole
use Rattle.dm_expand.specs.declared.head.Invocation as code_invocation
use Rattle.dm_expand.specs.declared.machine.Level as code_level
use Rattle.dm_expand.specs.declared.machine.Filling as code_filling
use Rattle.dm_expand.specs.declared.machine.Waiting as code_waiting
use Rattle.dm_expand.specs.Items.{Item}
use Rattle.dm_expand.specs.Steps.{Progress, Output, ◌>>=◌}
use Rattle.dm_macro.specs.Bodies.{Part, whole, parameters_of, places_of, parts_behind, parts_of}
use Rattle.dm_expand.specs.Pastes.{Site, Piece, token, pasted, tokens_of}
use Rattle.dm_expand.specs.Substitution.{Expander, Filled, filled, filled_all, is_operator, placed, finished}
use Rattle.dm_expand.specs.Expansion.{Macros, expanded, replaced, token_of}
use Rattle.dm_expand.specs.Views.{piece_value, pieces_in}
use Rattle.dm_expand.specs.ListViews.{gives, fills, pieces_before, tokens_before, counted_if, invocation_value}

-- PARTS

-- the pieces that a part is filled with at once
abbrev pub content_value : code_content.Content → List Piece
content_value (One piece) = piece_value piece ∷ []
content_value (Tokens tokens) = map token tokens.items
content_value (Whole parameter occurrence last) = []

-- what a part is filled with at once, or that its argument is expanded first
abbrev pub IsContent : Site → PpToken → Role → Progress → Progress → code_content.Content → Type 0
IsContent site pp role before after (One piece) = (expander : Expander) → filled expander site (part_with pp role) before ≡ Ok (fills (piece_value piece ∷ []) after)
IsContent site pp role before after (Tokens tokens) = (expander : Expander) → filled expander site (part_with pp role) before ≡ Ok (fills (map token tokens.items) after)
IsContent site pp role before after (Whole parameter occurrence last) = (role ≡ marked_whole parameter occurrence last) × (after ≡ before)

-- the parts of a replacement list from a token on
abbrev pub parts_from : Definition → ℕ → List Part
parts_from definition index = parts_behind (parameters_of definition) (take index definition.body) (drop index definition.body)

-- the part that waits for an argument, and those behind it
abbrev pub whole_and_others : Definition → code_whole.Whole → List Part
whole_and_others definition waits = whole waits.token.now waits.parameter waits.occurrence ∷ parts_from definition waits.behind

-- the parts that are left behind a token, or with it where it waits for an argument
abbrev pub parts_left : Definition → ℕ → Option code_whole.Whole → List Part
parts_left definition next None = parts_from definition next
parts_left definition next (Some waits) = whole_and_others definition waits

-- the parts that are left where one waits for an argument
abbrev pub parts_waiting : Definition → Option code_whole.Whole → List Part
parts_waiting definition None = []
parts_waiting definition (Some waits) = whole_and_others definition waits

-- a part that waits is the one before this index
abbrev pub IsBefore : ℕ → Option code_whole.Whole → Type 0
IsBefore index None = Unit {0}
IsBefore index (Some waits) = waits.behind ≡ index + 1

-- a part that waits is one between these two indices
abbrev pub IsFrom : ℕ → ℕ → Option code_whole.Whole → Type 0
IsFrom from end None = Unit {0}
IsFrom from end (Some waits) = (from < waits.behind) × (waits.behind ≤ end)

-- No token behind the last place of a parameter names it.
abbrev pub IsLastPlace : Definition → code_whole.Whole → Type 0
IsLastPlace definition waits = waits.last ≡ true → places_of (parameters_of definition) waits.parameter (drop waits.behind definition.body) ≡ 0

-- the same of a part that waits
abbrev pub IsLastIn : Definition → Option code_whole.Whole → Type 0
IsLastIn definition None = Unit {0}
IsLastIn definition (Some waits) = IsLastPlace definition waits

-- the pieces of a parameter whose argument expands to these tokens
abbrev pub argument_pieces : Site → code_whole.Whole → List Item → List Piece
argument_pieces site waits items = map token (placed site waits.token.now waits.parameter waits.occurrence items)

-- REPLACEMENTS

-- the replacement when its parts are filled: each `##` is done, placemarkers go, and with `##` in the list the tokens
-- count as work now
unfoldable pub put_together : Site → HiddenNumbers → List Part → Filled → Result Output Stop
put_together site hidden parts pieces = do
  joined ← pasted site pieces.pieces
  counted ← counted_if (list_any is_operator parts) site.name.pp.place (length (tokens_of joined)) pieces.progress
  Ok (gives (finished site hidden (tokens_of joined)) counted)

-- the list that a replacement goes into is scanned again from there
abbrev pub goes_on : Macros → code_level.Level → Output → Result Output Stop
goes_on macros level replacement = expanded macros (replacement.tokens ++ level.rest) replacement.progress

-- what is put out of a list, when the pieces of a replacement in it are given
unfoldable pub completed : Macros → code_level.Level → Site → HiddenNumbers → Definition → Result Filled Stop → Result Output Stop
completed macros level site hidden definition given =
    tokens_before level.out.items (given >>= put_together site hidden (parts_of definition) >>= goes_on macros level)

-- the same where its parts from a token on are still to be filled
abbrev pub completed_from : Macros → code_level.Level → code_filling.Filling → ℕ → Progress → Result Output Stop
completed_from macros level filling from progress =
    completed macros level filling.site filling.hidden filling.body.definition.now
    (pieces_before (pieces_in filling.pieces)
    (filled_all (expanded macros) filling.site (not (list_any is_hash_hash filling.body.definition.now.body)) (parts_from filling.body.definition.now from) progress))

-- the same where a part that waits is the next one
abbrev pub completed_whole : Macros → code_level.Level → code_filling.Filling → code_whole.Whole → Progress → Result Output Stop
completed_whole macros level filling waits progress =
    completed macros level filling.site filling.hidden filling.body.definition.now
    (pieces_before (pieces_in filling.pieces)
    (filled_all (expanded macros) filling.site (not (list_any is_hash_hash filling.body.definition.now.body)) (whole_and_others filling.body.definition.now waits) progress))

-- a replacement that waits, with the list that it goes into
abbrev pub waits_in : code_level.Level → code_filling.Filling → code_whole.Whole → code_waiting.Waiting
waits_in level filling waits = record { level = level; filling = filling; whole = waits }

-- the other parts, behind the pieces of an argument
unfoldable pub filled_behind : Macros → Site → Bool → List Part → List Piece → Progress → Result Filled Stop
filled_behind macros site counts parts pieces progress = do
  counted ← counted_if counts site.name.pp.place (length pieces) progress
  pieces_before pieces (filled_all (expanded macros) site counts parts counted)

-- what is put out of a list, when the expansion is given that a replacement in it waits for
unfoldable pub taken_up : Macros → code_waiting.Waiting → Result Output Stop → Result Output Stop
taken_up macros waits argument =
    completed macros waits.level waits.filling.site waits.filling.hidden waits.filling.body.definition.now
    (pieces_before (pieces_in waits.filling.pieces)
    (argument >>= λ output. filled_behind macros waits.filling.site (not (list_any is_hash_hash waits.filling.body.definition.now.body))
    (parts_from waits.filling.body.definition.now waits.whole.behind) (argument_pieces waits.filling.site waits.whole output.tokens) output.progress))

-- LISTS

-- what is put out of the outermost list, when the expansion of the innermost one is given
unfoldable pub outward : Macros → List code_waiting.Waiting → Result Output Stop → Result Output Stop
outward macros [] inner = inner
outward macros (waits ∷ others) inner = taken_up macros waits (outward macros others inner)

-- what is put out of a list
abbrev pub scanned_on : Macros → code_level.Level → Progress → Result Output Stop
scanned_on macros level progress = tokens_before level.out.items (expanded macros level.rest progress)

-- what is put out of a list where a macro is replaced next
abbrev pub invoked_on : Macros → code_level.Level → code_invocation.Invocation → Progress → Result Output Stop
invoked_on macros level invocation progress =
    tokens_before level.out.items (replaced (expanded macros) (invocation_value invocation level.rest) progress)

-- the same where a macro may be replaced next, and else the list is done
abbrev pub found_on : Macros → code_level.Level → Option code_invocation.Invocation → Progress → Result Output Stop
found_on macros level None progress = Ok (gives level.out.items progress)
found_on macros level (Some invocation) progress = invoked_on macros level invocation progress

-- the same in the midst of a list
abbrev pub passed_on : Macros → code_level.Level → Option code_invocation.Invocation → Progress → Result Output Stop
passed_on macros level None progress = scanned_on macros level progress
passed_on macros level (Some invocation) progress = invoked_on macros level invocation progress

-- Tokens are put out as they are without their hide sets, and only those of the outermost list.
abbrev pub ArePut : Bool → List Token → List Item → List Token → Type 0
ArePut outermost before more after = (after ≡ before ++ map token_of more) × (outermost ≡ false → more ≡ [])

-- where no macro is replaced next, no list waits
abbrev pub IsEnd : List code_waiting.Waiting → Option code_invocation.Invocation → Type 0
IsEnd waiting None = waiting ≡ []
IsEnd waiting (Some invocation) = Unit {0}

-- how many tokens of replacement lists are still to be filled
unfoldable pub load : List code_waiting.Waiting → ℕ
load [] = 0
load (waits ∷ others) = suc (length waits.filling.body.definition.now.body - waits.whole.behind) + load others
