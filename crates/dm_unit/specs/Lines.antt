-- A file as the standard cuts it (6.10p1, p2): directives, each on a line of its own, and the text groups between them.
--     lines_of tokens      the lines
--     parts_of tokens      the directives and the text groups
use Rattle.std.specs.Prelude.{Bool, true, ◌&&◌, List, [], ◌∷◌, ◌++◌, if◌then◌else◌}
use Rattle.dm_token.specs.declared.token.PpToken.{PpToken}
use Rattle.dm_macro.specs.Signs.{is_hash}

-- whether a token is the first of its line
abbrev pub is_first : PpToken → Bool
is_first token = token.line_first

-- whether a directive begins with a token: it is `#`, by either spelling, and the first of its line (6.10p2)
abbrev pub begins_directive : PpToken → Bool
begins_directive token = token.line_first && is_hash token

-- whether a line begins at the front of tokens, or they are at their end
abbrev pub is_line_start : List PpToken → Bool
is_line_start [] = true
is_line_start (token ∷ others) = token.line_first

-- one token more at the front of the first line
abbrev pub in_first_line : PpToken → List (List PpToken) → List (List PpToken)
in_first_line token [] = (token ∷ []) ∷ []
in_first_line token (line ∷ lines) = (token ∷ line) ∷ lines

-- the lines that have tokens
unfoldable pub lines_of : List PpToken → List (List PpToken)
lines_of [] = []
lines_of (token ∷ others) = if is_line_start others then (token ∷ []) ∷ lines_of others else in_first_line token (lines_of others)

-- a part of a file: a directive, which is a `#` and the tokens behind it on its line, or a text group, which is as many
-- lines of text as stand together
pub data Part : Type 0 where
  directive : PpToken → List PpToken → Part
  text : List PpToken → Part

-- a line of text before parts: it joins the text group behind it, if there is one
abbrev pub with_text : List PpToken → List Part → List Part
with_text line [] = text line ∷ []
with_text line (text tokens ∷ parts) = text (line ++ tokens) ∷ parts
with_text line (directive hash behind ∷ parts) = text line ∷ (directive hash behind ∷ parts)

-- the parts that lines make: a directive begins with `#`, by either spelling (6.10p2)
unfoldable pub parts_in : List (List PpToken) → List Part
parts_in [] = []
parts_in ([] ∷ lines) = parts_in lines
parts_in ((token ∷ others) ∷ lines) = if is_hash token then directive token others ∷ parts_in lines else with_text (token ∷ others) (parts_in lines)

-- the parts of a file
unfoldable pub parts_of : List PpToken → List Part
parts_of tokens = parts_in (lines_of tokens)
