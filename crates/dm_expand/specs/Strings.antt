-- The string literal that `#` makes of an argument (6.10.3.2).
use Rattle.std.specs.Prelude.{ℕ, Bool, true, false, ◌||◌, ◌==◌, List, [], ◌∷◌, ◌++◌, if◌then◌else◌}
use Rattle.dm_lex.specs.Classes.{quotation_mark, backslash}
use Rattle.dm_token.specs.declared.token.PpKind.{PpKind}
use Rattle.dm_token.specs.declared.token.PpKind.TheVariants.{Identifier, Number, Character, Literal, Punctuator, Header, Stray}
use Rattle.dm_token.specs.declared.token.PpToken.{PpToken}
use Rattle.dm_expand.specs.Items.{Item}

-- a character constant or a string literal
unfoldable pub is_quoted : PpKind → Bool
is_quoted Identifier = false
is_quoted Number = false
is_quoted Character = true
is_quoted Literal = true
is_quoted (Punctuator row) = false
is_quoted Header = false
is_quoted Stray = false

-- a byte with a backslash before it where it is `"` or a backslash
unfoldable pub escaped_byte : ℕ → List ℕ
escaped_byte byte = if (byte == quotation_mark) || (byte == backslash) then backslash ∷ byte ∷ [] else byte ∷ []

unfoldable pub escaped : List ℕ → List ℕ
escaped [] = []
escaped (byte ∷ others) = escaped_byte byte ++ escaped others

-- a token's spelling inside a string literal: that of a character constant or a string literal is escaped
unfoldable pub spelled_inside : PpToken → List ℕ
spelled_inside token = if is_quoted token.kind then escaped token.spelling else token.spelling

-- the spelling of a token that follows another, with a space where a blank stands before it
unfoldable pub spelled_next : PpToken → List ℕ
spelled_next token = (if token.blank_before then 32 ∷ [] else []) ++ spelled_inside token

-- the spellings of tokens that follow another
unfoldable pub spelled_behind : List Item → List ℕ
spelled_behind [] = []
spelled_behind (item ∷ others) = spelled_next item.pp ++ spelled_behind others

-- the spellings of an argument's tokens; blanks before the first and behind the last are deleted
unfoldable pub spelled : List Item → List ℕ
spelled [] = []
spelled (item ∷ others) = spelled_inside item.pp ++ spelled_behind others

-- the string literal
unfoldable pub quoted : List Item → List ℕ
quoted argument = quotation_mark ∷ (spelled argument ++ quotation_mark ∷ [])
