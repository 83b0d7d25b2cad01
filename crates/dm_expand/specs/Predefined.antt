-- The predefined macro names (6.10.8). Replacing one of them is no expansion.
use Rattle.std.specs.Prelude.{Bool, ◌||◌, ℕ, ◌==◌, List, [], ◌∷◌, ◌++◌, codes, slice_index_or, if◌then◌else◌}
use Rattle.std.specs.Fmt.{decimal}
use Rattle.dm_lex.specs.Classes.{quotation_mark}
use Rattle.dm_token.specs.declared.place.Place.{Place}
use Rattle.dm_token.specs.declared.token.PpToken.{PpToken}
use Rattle.dm_token.specs.declared.token.PpKind.{PpKind}
use Rattle.dm_token.specs.declared.token.PpKind.TheVariants.{Number, Literal}
use Rattle.dm_token.specs.declared.expansion.Expansion as made_of
use Rattle.dm_token.specs.declared.expansion.Mark.{Mark}
use Rattle.dm_token.specs.declared.expansion.Mark.TheVariants.{Expansion, Argument}
use Rattle.dm_macro.specs.Signs.{is_word}
use Rattle.dm_expand.specs.Items.{Item}

-- the place of the name of the expansion with this number, and else another place
unfoldable pub name_of : ℕ → List made_of.Expansion → Place → Place
name_of instance [] other = other
name_of instance (made ∷ others) other = if made.instance == instance then made.name else name_of instance others other

-- the place of a token's root: the token itself where its trail is empty, and else the name of the first expansion on it
unfoldable pub root_of : List made_of.Expansion → List Mark → Place → Place
root_of expansions [] place = place
root_of expansions (Expansion definition instance ∷ marks) place = name_of instance expansions place
root_of expansions (Argument parameter occurrence ∷ marks) place = place

-- a token in place of another: it keeps all but the kind and the spelling
unfoldable pub in_place_of : Item → PpKind → List ℕ → Item
in_place_of item kind spelling = record item { pp = record item.pp { kind = kind; spelling = spelling } }

-- the string literal of a file's name
unfoldable pub file_literal : List (List ℕ) → Place → List ℕ
file_literal names place = quotation_mark ∷ (slice_index_or names place.file [] ++ quotation_mark ∷ [])

-- whether a token is a predefined name
abbrev pub is_predefined : PpToken → Bool
is_predefined pp =
    is_word (codes "__LINE__") pp || is_word (codes "__FILE__") pp || is_word (codes "__STDC__") pp || is_word (codes "__STDC_HOSTED__") pp || is_word (codes "__STDC_VERSION__") pp

-- A token with this root, where it is a predefined name, is replaced; any other one stays.
unfoldable pub predefined : List (List ℕ) → Place → Item → Item
predefined names root item =
    if is_word (codes "__LINE__") item.pp then in_place_of item Number (decimal root.line)
    else if is_word (codes "__FILE__") item.pp then in_place_of item Literal (file_literal names root)
    else if is_word (codes "__STDC__") item.pp then in_place_of item Number (codes "1")
    else if is_word (codes "__STDC_HOSTED__") item.pp then in_place_of item Number (codes "1")
    else if is_word (codes "__STDC_VERSION__") item.pp then in_place_of item Number (codes "201112L")
    else item
