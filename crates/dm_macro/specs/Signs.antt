-- The preprocessing tokens (6.4) that the form of a macro definition speaks of.
--     is_punctuator row token      whether the token is the punctuator of this row;  so is_hash and the like
--     is_identifier token      whether the token is an identifier
--     is_word word token      whether the token is this identifier
--     is_predefined name, is_fixed name      whether the name is predefined;  whether no directive defines or undefines it
--     is_macro_name token      whether the token is a name that may be defined
use Rattle.std.specs.Prelude.{ℕ, Bool, true, false, ◌==◌, ◌&&◌, ◌||◌, not, List, [], ◌∷◌, codes, bytes_eq}
use Rattle.std.specs.List.{list_any}
use Rattle.dm_token.specs.declared.token.PpKind.{PpKind}
use Rattle.dm_token.specs.declared.token.PpKind.TheVariants.{Identifier, Number, Character, Literal, Punctuator, Header, Stray}
use Rattle.dm_token.specs.declared.token.PpToken.{PpToken}
use Rattle.dm_spell.specs.Punctuators.{right_parenthesis, ellipsis, hash, hash_hash, hash_digraph, hash_hash_digraph}

-- whether this is the kind of the punctuators of this row
abbrev pub is_row : ℕ → PpKind → Bool
is_row row Identifier = false
is_row row Number = false
is_row row Character = false
is_row row Literal = false
is_row row (Punctuator other) = other == row
is_row row Header = false
is_row row Stray = false

-- whether a token is the punctuator of this row
abbrev pub is_punctuator : ℕ → PpToken → Bool
is_punctuator row token = is_row row token.kind

-- whether a token is a `)`
abbrev pub is_right_parenthesis : PpToken → Bool
is_right_parenthesis token = is_punctuator right_parenthesis token

-- whether a token is a `...`
abbrev pub is_ellipsis : PpToken → Bool
is_ellipsis token = is_punctuator ellipsis token

-- whether a token is a `#`, by either spelling (6.4.6p3)
abbrev pub is_hash : PpToken → Bool
is_hash token = is_punctuator hash token || is_punctuator hash_digraph token

-- whether a token is a `##`, by either spelling (6.4.6p3)
abbrev pub is_hash_hash : PpToken → Bool
is_hash_hash token = is_punctuator hash_hash token || is_punctuator hash_hash_digraph token

-- whether this is the kind of the identifiers
abbrev pub is_identifier_kind : PpKind → Bool
is_identifier_kind Identifier = true
is_identifier_kind Number = false
is_identifier_kind Character = false
is_identifier_kind Literal = false
is_identifier_kind (Punctuator row) = false
is_identifier_kind Header = false
is_identifier_kind Stray = false

-- whether a token is an identifier
abbrev pub is_identifier : PpToken → Bool
is_identifier token = is_identifier_kind token.kind

-- whether a token is this identifier
abbrev pub is_word : List ℕ → PpToken → Bool
is_word word token = is_identifier token && bytes_eq token.spelling word

-- `__VA_ARGS__`, which stands for the variable arguments (6.10.3p5)
abbrev pub variable_arguments : List ℕ
variable_arguments = codes "__VA_ARGS__"

-- the names that are predefined here (6.10.8.1)
abbrev pub predefined_names : List (List ℕ)
predefined_names =
    codes "__STDC__" ∷ codes "__STDC_HOSTED__" ∷ codes "__STDC_VERSION__" ∷ codes "__LINE__" ∷ codes "__FILE__" ∷ []

-- whether a name is predefined
abbrev pub is_predefined : List ℕ → Bool
is_predefined name = list_any (bytes_eq name) predefined_names

-- whether a name is one that no directive defines or undefines: a predefined name, `defined` (6.10.8p4) or `__VA_ARGS__`
-- (6.10.3p5)
abbrev pub is_fixed : List ℕ → Bool
is_fixed name = is_predefined name || bytes_eq name (codes "defined") || bytes_eq name variable_arguments

-- whether a token is a name that may be defined
abbrev pub is_macro_name : PpToken → Bool
is_macro_name name = is_identifier name && not (is_fixed name.spelling)
