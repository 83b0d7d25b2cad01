-- What the tests on symbols tell.
use Rattle.std.proofs.Common.{◌≡◌, ℕ, Bool, true, false, ◌==◌, Some, List, refl, sym, ap, ◌∙◌, if◌then◌else◌}
use Rattle.std.proofs.lemmas.Bool.{eqb-true}
use Rattle.dm_syn.specs.declared.declared.Declared.{Declared}
use Rattle.dm_syn.specs.declared.symbol.Symbol.{Symbol}
use Rattle.dm_syn.specs.declared.symbol.Symbol.TheVariants as symbol
use Rattle.dm_syn.specs.Symbols.{is, number_of, infix_level}
use Rattle.dm_syn.specs.Sources.{Source, symbol_at, symbol_in, seen_as, names_type, spelling_at}
use Rattle.dm_syn.specs.Grammar.{prefix_level, is_assignment, is_specifier_word, Types, no_type, type_words, one_name, EndsBefore, TakesWord, TakesType}
use Rattle.dm_pexpr.specs.Parsing.{Front, a_name, a_constant, a_literal, enclosing, measuring, prefixing, no_front, front_kind, Suffix, indexing, calling, selecting, following, counting, operating, choosing, assigning, separating, no_suffix, suffix_kind, Word, plain_word, type_word, name_word, struct_word, enum_word, no_word, word_kind, is_one_more}

-- the symbol with a number
symbol_numbered : ℕ → Symbol
symbol_numbered n = if n == 0 then symbol.Identifier else if n == 1 then symbol.TypedefName else if n == 2 then symbol.Constant else if n == 3 then symbol.Literal else if n == 4 then symbol.LeftBracket else if n == 5 then symbol.RightBracket else if n == 6 then symbol.LeftParen else if n == 7 then symbol.RightParen else if n == 8 then symbol.LeftBrace else if n == 9 then symbol.RightBrace else if n == 10 then symbol.Dot else if n == 11 then symbol.Arrow else if n == 12 then symbol.Increment else if n == 13 then symbol.Ampersand else if n == 14 then symbol.Star else if n == 15 then symbol.Additive else if n == 16 then symbol.Complement else if n == 17 then symbol.Multiplicative else if n == 18 then symbol.Shift else if n == 19 then symbol.Relational else if n == 20 then symbol.Equality else if n == 21 then symbol.Caret else if n == 22 then symbol.Bar else if n == 23 then symbol.And else if n == 24 then symbol.Or else if n == 25 then symbol.Question else if n == 26 then symbol.Colon else if n == 27 then symbol.Semicolon else if n == 28 then symbol.Comma else if n == 29 then symbol.Equals else if n == 30 then symbol.Compound else if n == 31 then symbol.Sizeof else if n == 32 then symbol.Const else if n == 33 then symbol.Typedef else if n == 34 then symbol.Storage else if n == 35 then symbol.TypeWord else if n == 36 then symbol.Struct else if n == 37 then symbol.Enum else if n == 38 then symbol.Break else if n == 39 then symbol.Case else if n == 40 then symbol.Continue else if n == 41 then symbol.Default else if n == 42 then symbol.Do else if n == 43 then symbol.Else else if n == 44 then symbol.For else if n == 45 then symbol.If else if n == 46 then symbol.Return else if n == 47 then symbol.Switch else if n == 48 then symbol.While else if n == 49 then symbol.Other else symbol.End

numbered : (it : Symbol) → symbol_numbered (number_of it) ≡ it
unfolding symbol_numbered
numbered symbol.Identifier = refl
numbered _ = refl

-- a symbol that is another by its number is the other
pub is-it : (it other : Symbol) → is it other ≡ true → it ≡ other
is-it it other h = sym (numbered it) ∙ ap symbol_numbered (eqb-true (number_of it) (number_of other) h) ∙ numbered other

-- what stands in the front of an expression
abbrev pub FrontIs : Symbol → Front → Type 0
FrontIs it a_name = it ≡ symbol.Identifier
FrontIs it a_constant = it ≡ symbol.Constant
FrontIs it a_literal = it ≡ symbol.Literal
FrontIs it enclosing = it ≡ symbol.LeftParen
FrontIs it measuring = it ≡ symbol.Sizeof
FrontIs it (prefixing least) = prefix_level it ≡ Some least
FrontIs it no_front = Unit {0}

pub front-is : (it : Symbol) → FrontIs it (front_kind it)
front-is symbol.Identifier = refl
front-is symbol.Constant = refl
front-is symbol.Literal = refl
front-is symbol.LeftParen = refl
front-is symbol.Increment = refl
front-is symbol.Ampersand = refl
front-is symbol.Star = refl
front-is symbol.Additive = refl
front-is symbol.Complement = refl
front-is symbol.Sizeof = refl
front-is _ = tt

-- what goes on behind an expression
abbrev pub SuffixIs : Symbol → Suffix → Type 0
SuffixIs it indexing = it ≡ symbol.LeftBracket
SuffixIs it calling = it ≡ symbol.LeftParen
SuffixIs it selecting = it ≡ symbol.Dot
SuffixIs it following = it ≡ symbol.Arrow
SuffixIs it counting = it ≡ symbol.Increment
SuffixIs it (operating level) = infix_level it ≡ Some level
SuffixIs it choosing = it ≡ symbol.Question
SuffixIs it assigning = is_assignment it ≡ true
SuffixIs it separating = it ≡ symbol.Comma
SuffixIs it no_suffix = Unit {0}

pub suffix-is : (it : Symbol) → SuffixIs it (suffix_kind it)
suffix-is symbol.LeftBracket = refl
suffix-is symbol.LeftParen = refl
suffix-is symbol.Dot = refl
suffix-is symbol.Arrow = refl
suffix-is symbol.Increment = refl
suffix-is symbol.Ampersand = refl
suffix-is symbol.Star = refl
suffix-is symbol.Additive = refl
suffix-is symbol.Multiplicative = refl
suffix-is symbol.Shift = refl
suffix-is symbol.Relational = refl
suffix-is symbol.Equality = refl
suffix-is symbol.Caret = refl
suffix-is symbol.Bar = refl
suffix-is symbol.And = refl
suffix-is symbol.Or = refl
suffix-is symbol.Question = refl
suffix-is symbol.Comma = refl
suffix-is symbol.Equals = refl
suffix-is symbol.Compound = refl
suffix-is _ = tt

infix-seen : (it : Symbol) (names : Bool) (level : ℕ) → infix_level (seen_as it names) ≡ Some level → infix_level it ≡ Some level
infix-seen symbol.Identifier true level h = cc
infix-seen symbol.Identifier false level h = cc
infix-seen _ names level h = h

assignment-seen : (it : Symbol) (names : Bool) → is_assignment (seen_as it names) ≡ true → is_assignment it ≡ true
assignment-seen symbol.Identifier true h = cc
assignment-seen symbol.Identifier false h = cc
assignment-seen _ names h = h

pub infix-at : (source : Source) (names : List Declared) (at level : ℕ) → infix_level (symbol_in source names at) ≡ Some level → infix_level (symbol_at source at) ≡ Some level
unfolding symbol_in
infix-at source names at level h = infix-seen (symbol_at source at) (names_type source names (spelling_at source at)) level h

pub assignment-at : (source : Source) (names : List Declared) (at : ℕ) → is_assignment (symbol_in source names at) ≡ true → is_assignment (symbol_at source at) ≡ true
unfolding symbol_in
assignment-at source names at h = assignment-seen (symbol_at source at) (names_type source names (spelling_at source at)) h

-- one more specifier
abbrev pub WordIs : Symbol → Word → Type 0
WordIs it plain_word = (is_specifier_word it ≡ true) × ((types : Types) → TakesWord it types)
WordIs it type_word = (is_specifier_word it ≡ true) × (it ≡ symbol.TypeWord)
WordIs it name_word = it ≡ symbol.TypedefName
WordIs it struct_word = it ≡ symbol.Struct
WordIs it enum_word = it ≡ symbol.Enum
WordIs it no_word = Unit {0}

pub word-kind-is : (it : Symbol) → WordIs it (word_kind it)
word-kind-is symbol.TypedefName = refl
word-kind-is symbol.Const = (refl, λ types. tt)
word-kind-is symbol.Typedef = (refl, λ types. tt)
word-kind-is symbol.Storage = (refl, λ types. tt)
word-kind-is symbol.TypeWord = (refl, refl)
word-kind-is symbol.Struct = refl
word-kind-is symbol.Enum = refl
word-kind-is _ = tt

word-seen-back : (it : Symbol) (names : Bool) → is_specifier_word (seen_as it names) ≡ true → seen_as it names ≡ it
word-seen-back symbol.Identifier true h = cc
word-seen-back symbol.Identifier false h = cc
word-seen-back _ names h = refl

pub word-at : (source : Source) (names : List Declared) (at : ℕ) → is_specifier_word (symbol_in source names at) ≡ true → symbol_in source names at ≡ symbol_at source at
unfolding symbol_in
word-at source names at h = word-seen-back (symbol_at source at) (names_type source names (spelling_at source at)) h

-- specifiers that go on no more
pub no-more-words : (types : Types) (it : Symbol) → is_one_more types (word_kind it) ≡ false → EndsBefore types it
no-more-words no_type it h =
    λ (e : it ≡ symbol.TypedefName). let differs : true ≡ false = sym (ap (λ (this : Symbol). is_one_more no_type (word_kind this)) e) ∙ h in cc
no-more-words type_words it h = tt
no-more-words one_name it h = tt

pub takes-more-type : (types : Types) → is_one_more types type_word ≡ true → TakesType types
takes-more-type no_type h = tt
takes-more-type type_words h = tt
takes-more-type one_name h = absurd (cc)

pub takes-more-struct : (types : Types) → is_one_more types struct_word ≡ true → TakesType types
takes-more-struct no_type h = tt
takes-more-struct type_words h = tt
takes-more-struct one_name h = absurd (cc)

pub takes-more-enum : (types : Types) → is_one_more types enum_word ≡ true → TakesType types
takes-more-enum no_type h = tt
takes-more-enum type_words h = tt
takes-more-enum one_name h = absurd (cc)

pub takes-more-name : (types : Types) → is_one_more types name_word ≡ true → types ≡ no_type
takes-more-name no_type h = refl
takes-more-name type_words h = absurd (cc)
takes-more-name one_name h = absurd (cc)
