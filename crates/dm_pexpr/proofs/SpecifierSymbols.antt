-- What symbols say of specifiers and declarators.
use Rattle.std.proofs.Common.{◌≡◌, ℕ, Bool, true, false, refl}
use Rattle.dm_syn.specs.declared.symbol.Symbol.{Symbol}
use Rattle.dm_syn.specs.declared.symbol.Symbol.TheVariants as symbol
use Rattle.std.proofs.Common.{List, arith}
use Rattle.dm_pexpr.proofs.SymbolLemmas.{Stops}
use Rattle.dm_syn.specs.declared.declared.Declared.{Declared}
use Rattle.dm_syn.specs.Sources.{Source, symbol_at, symbol_in, seen_as, names_type, spelling_at}
use Rattle.dm_syn.specs.Symbols.{is, is_identifier, begins_specifiers}
use Rattle.dm_syn.specs.Grammar.{is_specifier_word, Types, no_type, type_words, one_name, EndsBefore, TakesWord, TakesType}
use Rattle.dm_pexpr.specs.Parsing.{plain_word, type_word, struct_word, enum_word, word_kind, is_one_more, suffix_kind}

-- what may stand behind specifiers
abbrev pub follows_specifiers : Symbol → Bool
follows_specifiers symbol.Identifier = true
follows_specifiers symbol.TypedefName = true
follows_specifiers symbol.Star = true
follows_specifiers symbol.LeftParen = true
follows_specifiers symbol.LeftBracket = true
follows_specifiers symbol.RightParen = true
follows_specifiers symbol.Comma = true
follows_specifiers symbol.Semicolon = true
follows_specifiers symbol.Equals = true
follows_specifiers symbol.End = true
follows_specifiers _ = false

-- what may stand behind a declarator
abbrev pub follows_declarator : Symbol → Bool
follows_declarator symbol.RightParen = true
follows_declarator symbol.Comma = true
follows_declarator symbol.Semicolon = true
follows_declarator symbol.Equals = true
follows_declarator symbol.End = true
follows_declarator _ = false

pub declarator-specifiers : (it : Symbol) → follows_declarator it ≡ true → follows_specifiers it ≡ true
declarator-specifiers symbol.RightParen h = refl
declarator-specifiers symbol.Semicolon h = refl
declarator-specifiers symbol.Comma h = refl
declarator-specifiers symbol.Equals h = refl
declarator-specifiers symbol.End h = refl
declarator-specifiers _ h = cc

pub declarator-no-star : (it : Symbol) → follows_declarator it ≡ true → is it symbol.Star ≡ false
declarator-no-star symbol.RightParen h = refl
declarator-no-star symbol.Semicolon h = refl
declarator-no-star symbol.Comma h = refl
declarator-no-star symbol.Equals h = refl
declarator-no-star symbol.End h = refl
declarator-no-star _ h = cc

pub declarator-no-const : (it : Symbol) → follows_declarator it ≡ true → is it symbol.Const ≡ false
declarator-no-const symbol.RightParen h = refl
declarator-no-const symbol.Semicolon h = refl
declarator-no-const symbol.Comma h = refl
declarator-no-const symbol.Equals h = refl
declarator-no-const symbol.End h = refl
declarator-no-const _ h = cc

pub declarator-no-bracket : (it : Symbol) → follows_declarator it ≡ true → is it symbol.LeftBracket ≡ false
declarator-no-bracket symbol.RightParen h = refl
declarator-no-bracket symbol.Semicolon h = refl
declarator-no-bracket symbol.Comma h = refl
declarator-no-bracket symbol.Equals h = refl
declarator-no-bracket symbol.End h = refl
declarator-no-bracket _ h = cc

pub declarator-no-paren : (it : Symbol) → follows_declarator it ≡ true → is it symbol.LeftParen ≡ false
declarator-no-paren symbol.RightParen h = refl
declarator-no-paren symbol.Semicolon h = refl
declarator-no-paren symbol.Comma h = refl
declarator-no-paren symbol.Equals h = refl
declarator-no-paren symbol.End h = refl
declarator-no-paren _ h = cc

pub declarator-no-name : (it : Symbol) → follows_declarator it ≡ true → is_identifier it ≡ false
declarator-no-name symbol.RightParen h = refl
declarator-no-name symbol.Semicolon h = refl
declarator-no-name symbol.Comma h = refl
declarator-no-name symbol.Equals h = refl
declarator-no-name symbol.End h = refl
declarator-no-name _ h = cc

pub specifiers-no-brace : (it : Symbol) → follows_specifiers it ≡ true → is it symbol.LeftBrace ≡ false
specifiers-no-brace symbol.Identifier h = refl
specifiers-no-brace symbol.TypedefName h = refl
specifiers-no-brace symbol.LeftBracket h = refl
specifiers-no-brace symbol.LeftParen h = refl
specifiers-no-brace symbol.RightParen h = refl
specifiers-no-brace symbol.Star h = refl
specifiers-no-brace symbol.Semicolon h = refl
specifiers-no-brace symbol.Comma h = refl
specifiers-no-brace symbol.Equals h = refl
specifiers-no-brace symbol.End h = refl
specifiers-no-brace _ h = cc

pub word-no-brace : (it : Symbol) → is_specifier_word it ≡ true → is it symbol.LeftBrace ≡ false
word-no-brace symbol.Const h = refl
word-no-brace symbol.Typedef h = refl
word-no-brace symbol.Storage h = refl
word-no-brace symbol.TypeWord h = refl
word-no-brace _ h = cc

pub identifier-follows : (it : Symbol) → is_identifier it ≡ true → follows_specifiers it ≡ true
identifier-follows symbol.Identifier h = refl
identifier-follows symbol.TypedefName h = refl
identifier-follows _ h = cc

pub identifier-no-star : (it : Symbol) → is_identifier it ≡ true → is it symbol.Star ≡ false
identifier-no-star symbol.Identifier h = refl
identifier-no-star symbol.TypedefName h = refl
identifier-no-star _ h = cc

pub identifier-no-const : (it : Symbol) → is_identifier it ≡ true → is it symbol.Const ≡ false
identifier-no-const symbol.Identifier h = refl
identifier-no-const symbol.TypedefName h = refl
identifier-no-const _ h = cc

pub identifier-no-paren : (it : Symbol) → is_identifier it ≡ true → is it symbol.RightParen ≡ false
identifier-no-paren symbol.Identifier h = refl
identifier-no-paren symbol.TypedefName h = refl
identifier-no-paren _ h = cc

pub identifier-no-right-brace : (it : Symbol) → is_identifier it ≡ true → is it symbol.RightBrace ≡ false
identifier-no-right-brace symbol.Identifier h = refl
identifier-no-right-brace symbol.TypedefName h = refl
identifier-no-right-brace _ h = cc

pub specifier-no-right-paren : (it : Symbol) → begins_specifiers it ≡ true → is it symbol.RightParen ≡ false
specifier-no-right-paren symbol.TypedefName h = refl
specifier-no-right-paren symbol.Const h = refl
specifier-no-right-paren symbol.Typedef h = refl
specifier-no-right-paren symbol.Storage h = refl
specifier-no-right-paren symbol.TypeWord h = refl
specifier-no-right-paren symbol.Struct h = refl
specifier-no-right-paren symbol.Enum h = refl
specifier-no-right-paren _ h = cc

pub specifier-no-right-brace : (it : Symbol) → begins_specifiers it ≡ true → is it symbol.RightBrace ≡ false
specifier-no-right-brace symbol.TypedefName h = refl
specifier-no-right-brace symbol.Const h = refl
specifier-no-right-brace symbol.Typedef h = refl
specifier-no-right-brace symbol.Storage h = refl
specifier-no-right-brace symbol.TypeWord h = refl
specifier-no-right-brace symbol.Struct h = refl
specifier-no-right-brace symbol.Enum h = refl
specifier-no-right-brace _ h = cc

pub word-begins : (it : Symbol) → is_specifier_word it ≡ true → begins_specifiers it ≡ true
word-begins symbol.Const h = refl
word-begins symbol.Typedef h = refl
word-begins symbol.Storage h = refl
word-begins symbol.TypeWord h = refl
word-begins _ h = cc

pub identifier-begins : (it : Symbol) → is_identifier it ≡ true → (it ≡ symbol.TypedefName → ⊥) → begins_specifiers it ≡ false
identifier-begins symbol.Identifier h n = refl
identifier-begins symbol.TypedefName h n = absurd (n refl)
identifier-begins _ h n = cc

-- specifiers end where no more of them stands
pub words-end : (types : Types) (it : Symbol) → EndsBefore types it → follows_specifiers it ≡ true → is_one_more types (word_kind it) ≡ false
words-end no_type symbol.Identifier e h = refl
words-end no_type symbol.TypedefName e h = absurd (e refl)
words-end no_type symbol.LeftBracket e h = refl
words-end no_type symbol.LeftParen e h = refl
words-end no_type symbol.RightParen e h = refl
words-end no_type symbol.Star e h = refl
words-end no_type symbol.Semicolon e h = refl
words-end no_type symbol.Comma e h = refl
words-end no_type symbol.Equals e h = refl
words-end no_type symbol.End e h = refl
words-end no_type _ e h = cc
words-end type_words symbol.Identifier e h = refl
words-end type_words symbol.TypedefName e h = refl
words-end type_words symbol.LeftBracket e h = refl
words-end type_words symbol.LeftParen e h = refl
words-end type_words symbol.RightParen e h = refl
words-end type_words symbol.Star e h = refl
words-end type_words symbol.Semicolon e h = refl
words-end type_words symbol.Comma e h = refl
words-end type_words symbol.Equals e h = refl
words-end type_words symbol.End e h = refl
words-end type_words _ e h = cc
words-end one_name symbol.Identifier e h = refl
words-end one_name symbol.TypedefName e h = refl
words-end one_name symbol.LeftBracket e h = refl
words-end one_name symbol.LeftParen e h = refl
words-end one_name symbol.RightParen e h = refl
words-end one_name symbol.Star e h = refl
words-end one_name symbol.Semicolon e h = refl
words-end one_name symbol.Comma e h = refl
words-end one_name symbol.Equals e h = refl
words-end one_name symbol.End e h = refl
words-end one_name _ e h = cc

-- a keyword is one more specifier
pub data IsWord (it : Symbol) (types : Types) : Type 0 where
  is_plain : word_kind it ≡ plain_word → IsWord it types
  is_type : word_kind it ≡ type_word → is_one_more types type_word ≡ true → IsWord it types

takes-type : (types : Types) → TakesType types → is_one_more types type_word ≡ true
takes-type no_type t = refl
takes-type type_words t = refl
takes-type one_name t = absurd t

pub takes-struct : (types : Types) → TakesType types → is_one_more types struct_word ≡ true
takes-struct no_type t = refl
takes-struct type_words t = refl
takes-struct one_name t = absurd t

pub takes-enum : (types : Types) → TakesType types → is_one_more types enum_word ≡ true
takes-enum no_type t = refl
takes-enum type_words t = refl
takes-enum one_name t = absurd t

pub word-is : (it : Symbol) (types : Types) → is_specifier_word it ≡ true → TakesWord it types → IsWord it types
word-is symbol.Const types h t = is_plain refl
word-is symbol.Typedef types h t = is_plain refl
word-is symbol.Storage types h t = is_plain refl
word-is symbol.TypeWord types h t = is_type refl (takes-type types t)
word-is _ types h t = absurd (cc)

-- what may stand behind a declarator is no identifier, so names don't matter
follows-seen : (it : Symbol) (one other : Bool) → follows_declarator (seen_as it one) ≡ true → follows_declarator (seen_as it other) ≡ true
follows-seen symbol.Identifier true other h = cc
follows-seen symbol.Identifier false other h = cc
follows-seen _ one other h = h

pub follows-alike : (source : Source) (one other : List Declared) (at : ℕ) → follows_declarator (symbol_in source one at) ≡ true → follows_declarator (symbol_in source other at) ≡ true
unfolding symbol_in
follows-alike source one other at h =
    follows-seen (symbol_at source at) (names_type source one (spelling_at source at)) (names_type source other (spelling_at source at)) h

-- what stands behind an enumerator
abbrev pub ends_item : Symbol → Bool
ends_item symbol.Comma = true
ends_item symbol.RightBrace = true
ends_item _ = false

ends-seen : (it : Symbol) (one other : Bool) → ends_item (seen_as it one) ≡ true → ends_item (seen_as it other) ≡ true
ends-seen symbol.Identifier true other h = cc
ends-seen symbol.Identifier false other h = cc
ends-seen _ one other h = h

pub ends-alike : (source : Source) (one other : List Declared) (at : ℕ) → ends_item (symbol_in source one at) ≡ true → ends_item (symbol_in source other at) ≡ true
unfolding symbol_in
ends-alike source one other at h = ends-seen (symbol_at source at) (names_type source one (spelling_at source at)) (names_type source other (spelling_at source at)) h

pub ends-stops : (it : Symbol) → ends_item it ≡ true → Stops 2 (suffix_kind it)
ends-stops symbol.RightBrace h = tt
ends-stops symbol.Comma h = omega arith
ends-stops _ h = absurd (cc)

pub ends-no-equals : (it : Symbol) → ends_item it ≡ true → is it symbol.Equals ≡ false
ends-no-equals symbol.RightBrace h = refl
ends-no-equals symbol.Comma h = refl
ends-no-equals _ h = cc

pub plain-more : (types : Types) → is_one_more types plain_word ≡ true
plain-more no_type = refl
plain-more type_words = refl
plain-more one_name = refl
