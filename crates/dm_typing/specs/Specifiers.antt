-- What a list of specifiers says (6.7.1 to 6.7.4).
--     Said      what the specifiers so far say
--     type_said said      the type that they name, const apart
--     are_allowed where said      the storage words and `inline` may stand there
use Rattle.std.specs.Prelude.{ℕ, ◌+◌, Bool, true, false, ◌&&◌, ◌||◌, not, ◌==◌, if◌then◌else◌, List, [], ◌∷◌, ◌++◌, Option, Some, None}
use Rattle.dm_spell.specs.Keywords.{bool_word, char_word, const_word, extern_word, inline_word, int_word, long_word, short_word, signed_word, static_word, typedef_word, unsigned_word, void_word}
use Rattle.dm_int.specs.declared.Kind.TheVariants as k
use Rattle.dm_type.specs.CTypes.{CType, void, integer, function, with_const}

-- what the specifiers so far say: their type words, by their rows in the table of keywords (6.4.1); the types of typedef names, structs
-- and enums; and their storage words, whether `inline` and whether `const` stands among them
pub record Said : Type 0 where
  pub words : List ℕ
  pub types : List CType
  pub storage : List ℕ
  pub inline : Bool
  pub const : Bool

abbrev pub nothing_said : Said
nothing_said = record { words = []; types = []; storage = []; inline = false; const = false }

-- one keyword more
abbrev pub with_word : ℕ → Said → Said
with_word row said =
    if row == const_word then record said { const = true }
    else if row == inline_word then record said { inline = true }
    else if row == extern_word || row == static_word || row == typedef_word then record said { storage = said.storage ++ row ∷ [] }
    else record said { words = said.words ++ row ∷ [] }

-- one type more
abbrev pub with_type : CType → Said → Said
with_type type said = record said { types = said.types ++ type ∷ [] }

-- how often a row stands among words
abbrev pub count_of : ℕ → List ℕ → ℕ
count_of row [] = 0
count_of row (word ∷ words) = (if row == word then 1 else 0) + count_of row words

-- the same words, in any order
abbrev pub count_alike : List ℕ → List ℕ → List ℕ → Bool
count_alike [] words others = true
count_alike (row ∷ rows) words others = (count_of row words == count_of row others) && count_alike rows words others

abbrev type_rows : List ℕ
type_rows = char_word ∷ int_word ∷ long_word ∷ short_word ∷ signed_word ∷ unsigned_word ∷ void_word ∷ bool_word ∷ []

abbrev pub are_words : List ℕ → List ℕ → Bool
are_words words others = count_alike type_rows words others

-- type words that may stand together, and their type
pub record Row : Type 0 where
  pub words : List ℕ
  pub type : CType

abbrev row : List ℕ → CType → Row
row words type = record { words = words; type = type }

-- 6.7.2p2, as far as there are such types here
abbrev pub sets : List Row
sets =
    row (void_word ∷ []) void
    ∷ row (char_word ∷ []) (integer k.Char)
    ∷ row (signed_word ∷ char_word ∷ []) (integer k.SChar)
    ∷ row (unsigned_word ∷ char_word ∷ []) (integer k.UChar)
    ∷ row (short_word ∷ []) (integer k.Short)
    ∷ row (signed_word ∷ short_word ∷ []) (integer k.Short)
    ∷ row (short_word ∷ int_word ∷ []) (integer k.Short)
    ∷ row (signed_word ∷ short_word ∷ int_word ∷ []) (integer k.Short)
    ∷ row (unsigned_word ∷ short_word ∷ []) (integer k.UShort)
    ∷ row (unsigned_word ∷ short_word ∷ int_word ∷ []) (integer k.UShort)
    ∷ row (int_word ∷ []) (integer k.Int)
    ∷ row (signed_word ∷ []) (integer k.Int)
    ∷ row (signed_word ∷ int_word ∷ []) (integer k.Int)
    ∷ row (unsigned_word ∷ []) (integer k.UInt)
    ∷ row (unsigned_word ∷ int_word ∷ []) (integer k.UInt)
    ∷ row (long_word ∷ []) (integer k.Long)
    ∷ row (signed_word ∷ long_word ∷ []) (integer k.Long)
    ∷ row (long_word ∷ int_word ∷ []) (integer k.Long)
    ∷ row (signed_word ∷ long_word ∷ int_word ∷ []) (integer k.Long)
    ∷ row (unsigned_word ∷ long_word ∷ []) (integer k.ULong)
    ∷ row (unsigned_word ∷ long_word ∷ int_word ∷ []) (integer k.ULong)
    ∷ row (long_word ∷ long_word ∷ []) (integer k.LLong)
    ∷ row (signed_word ∷ long_word ∷ long_word ∷ []) (integer k.LLong)
    ∷ row (long_word ∷ long_word ∷ int_word ∷ []) (integer k.LLong)
    ∷ row (signed_word ∷ long_word ∷ long_word ∷ int_word ∷ []) (integer k.LLong)
    ∷ row (unsigned_word ∷ long_word ∷ long_word ∷ []) (integer k.ULLong)
    ∷ row (unsigned_word ∷ long_word ∷ long_word ∷ int_word ∷ []) (integer k.ULLong)
    ∷ row (bool_word ∷ []) (integer k.Bool)
    ∷ []

abbrev pub type_among : List ℕ → List Row → Option CType
type_among words [] = None
type_among words (first ∷ others) = if are_words words first.words then Some first.type else type_among words others

-- the type that specifiers name: the one type among them, or that of their words
abbrev pub one_type : List ℕ → List CType → Option CType
one_type words [] = type_among words sets
one_type [] (type ∷ []) = Some type
one_type words types = None

abbrev pub type_said : Said → Option CType
type_said said = one_type said.words said.types

-- where specifiers stand: in a declaration, in a function definition, or in a member, a parameter or a type name
pub data Where : Type 0 where
  of_declaration : Where
  of_definition : Where
  elsewhere : Where

-- `inline` stands only beside `static`
abbrev pub is_static_alone : List ℕ → Bool
is_static_alone (row ∷ []) = row == static_word
is_static_alone rows = false

abbrev pub is_one_at_most : List ℕ → Bool
is_one_at_most [] = true
is_one_at_most (row ∷ []) = true
is_one_at_most rows = false

abbrev pub is_typedef_alone : List ℕ → Bool
is_typedef_alone (row ∷ []) = row == typedef_word
is_typedef_alone rows = false

abbrev pub is_empty : List ℕ → Bool
is_empty [] = true
is_empty rows = false

-- C3: at most one storage word, `inline` only with `static`, no `typedef` in a definition, and neither in members, parameters and type
-- names
abbrev pub are_allowed : Where → Said → Bool
are_allowed of_declaration said = is_one_at_most said.storage && (not said.inline || is_static_alone said.storage)
are_allowed of_definition said =
    is_one_at_most said.storage && (not said.inline || is_static_alone said.storage) && not (is_typedef_alone said.storage)
are_allowed elsewhere said = is_empty said.storage && not said.inline

-- the type with the const that specifiers say. A function type has none (6.7.3p9)
abbrev pub with_said_const : Bool → CType → CType
with_said_const true (function result parameters) = function result parameters
with_said_const true type = with_const type
with_said_const false type = type
