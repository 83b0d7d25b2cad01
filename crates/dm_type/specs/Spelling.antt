-- How a type is spelled as a declaration of a name (6.7.6, 6.7.7).
--     spelling_of table type declarator      the type, written round a declarator, which may be empty
--     is_spellable table visible type      each struct in it is visible and has a tag
use Rattle.std.specs.Prelude.{ℕ, Bool, true, false, ◌&&◌, ◌==◌, if◌then◌else◌, List, [], ◌∷◌, ◌++◌, Option, Some, None, is_some, unwrap_or, codes}
use Rattle.std.specs.Fmt.{decimal}
use Rattle.std.specs.List.{list_any}
use Rattle.dm_int.specs.declared.Kind.{Kind}
use Rattle.dm_int.specs.declared.Kind.TheVariants as kind
use Rattle.dm_type.specs.CTypes.{CType, CTypes, void, integer, pointer, array, struct, function, const, no_types, more_types}
use Rattle.dm_type.specs.Tables.{Table, tag_of}

-- the words of an integer kind (6.7.2p2)
abbrev pub kind_words : Kind → List ℕ
kind_words kind.Bool = codes "_Bool"
kind_words kind.Char = codes "char"
kind_words kind.SChar = codes "signed char"
kind_words kind.UChar = codes "unsigned char"
kind_words kind.Short = codes "short"
kind_words kind.UShort = codes "unsigned short"
kind_words kind.Int = codes "int"
kind_words kind.UInt = codes "unsigned int"
kind_words kind.Long = codes "long"
kind_words kind.ULong = codes "unsigned long"
kind_words kind.LLong = codes "long long"
kind_words kind.ULLong = codes "unsigned long long"

-- words, and a declarator behind a space unless it is empty
abbrev pub before_declarator : List ℕ → List ℕ → List ℕ
before_declarator words [] = words
before_declarator words (byte ∷ bytes) = words ++ (codes " " ++ byte ∷ bytes)

-- the specifiers, and then the declarator
abbrev pub specified : Bool → List ℕ → List ℕ → List ℕ
specified true words declarator = codes "const " ++ before_declarator words declarator
specified false words declarator = before_declarator words declarator

-- the declarator of a pointer, const or not, round a declarator
abbrev pub starred : Bool → List ℕ → List ℕ
starred true declarator = before_declarator (codes "*const") declarator
starred false declarator = codes "*" ++ declarator

-- the first byte is a star
abbrev pub begins_with_star : List ℕ → Bool
begins_with_star [] = false
begins_with_star (byte ∷ bytes) = byte == 42

-- in parentheses where it begins with a star, since `*` binds less than what stands behind (6.7.6p6)
abbrev pub wrapped : List ℕ → List ℕ
wrapped declarator = if begins_with_star declarator then codes "(" ++ (declarator ++ codes ")") else declarator

-- a length in brackets
abbrev pub bracketed : Option ℕ → List ℕ
bracketed None = codes "[]"
bracketed (Some length) = codes "[" ++ (decimal length ++ codes "]")

-- the tag of a struct, or nothing where it has none
abbrev pub tag_text : Table → ℕ → List ℕ
tag_text table number = unwrap_or (tag_of table number) []

-- A type, const or not, round a declarator: from the outside inwards each part of the type adds to the declarator. The
-- const of an array is that of its elements.
abbrev mutual
  pub spelled : Table → CType → Bool → List ℕ → List ℕ
  spelled table void qualified declarator = specified qualified (codes "void") declarator
  spelled table (integer kind) qualified declarator = specified qualified (kind_words kind) declarator
  spelled table (pointer type) qualified declarator = spelled table type false (starred qualified declarator)
  spelled table (array type length) qualified declarator = spelled table type qualified (wrapped declarator ++ bracketed length)
  spelled table (struct number) qualified declarator = specified qualified (codes "struct " ++ tag_text table number) declarator
  spelled table (function result parameters) qualified declarator =
      spelled table result false (wrapped declarator ++ (codes "(" ++ (parameters_text table parameters ++ codes ")")))
  spelled table (const type) qualified declarator = spelled table type true declarator

  -- the parameters of a function, each round nothing
  pub parameters_text : Table → CTypes → List ℕ
  parameters_text table no_types = codes "void"
  parameters_text table (more_types type types) = spelled table type false [] ++ further_text table types

  -- those behind the first
  pub further_text : Table → CTypes → List ℕ
  further_text table no_types = []
  further_text table (more_types type types) = codes ", " ++ (spelled table type false [] ++ further_text table types)

abbrev pub spelling_of : Table → CType → List ℕ → List ℕ
spelling_of table type declarator = spelled table type false declarator

-- a struct can be named: it is visible and has a tag
abbrev pub can_be_named : Table → List ℕ → ℕ → Bool
can_be_named table visible number = list_any (λ other. other == number) visible && is_some (tag_of table number)

-- each struct in a type can be named
abbrev mutual
  pub is_spellable : Table → List ℕ → CType → Bool
  is_spellable table visible void = true
  is_spellable table visible (integer kind) = true
  is_spellable table visible (pointer type) = is_spellable table visible type
  is_spellable table visible (array type length) = is_spellable table visible type
  is_spellable table visible (struct number) = can_be_named table visible number
  is_spellable table visible (function result parameters) = is_spellable table visible result && are_spellable table visible parameters
  is_spellable table visible (const type) = is_spellable table visible type

  pub are_spellable : Table → List ℕ → CTypes → Bool
  are_spellable table visible no_types = true
  are_spellable table visible (more_types type types) = is_spellable table visible type && are_spellable table visible types

-- the spelling of a type, if it has one
abbrev pub spelling : Table → List ℕ → CType → List ℕ → Option (List ℕ)
spelling table visible type declarator =
    if is_spellable table visible type then Some (spelling_of table type declarator) else None
