-- Small expressions without names, and what their typing comes to: the examples of `src/examples.rt`.
--     type_of tokens expr      the type of an expression of these tokens
--     value_of tokens expr      its value, if it is an integer constant expression
--     rule_of tokens expr      the rule that it breaks, and the token at which it does
use Rattle.std.specs.Prelude.{ℕ, ◌+◌, ℤ, pos, false, true, List, [], ◌∷◌, Option, Some, None}
use Rattle.std.specs.FinMap as map
use Rattle.dm_spell.specs.Keywords.{char_word, sizeof_word}
use Rattle.dm_spell.specs.Punctuators.{ampersand, colon, left_parenthesis, less as less_sign, minus, plus, question, right_parenthesis, star}
use Rattle.dm_token.specs.declared.place.Span.{Span}
use Rattle.dm_token.specs.declared.token.Class.{Class}
use Rattle.dm_token.specs.declared.token.Class.TheVariants.{Keyword, Punctuator, Integer}
use Rattle.dm_token.specs.declared.token.CToken.{CToken}
use Rattle.dm_type.specs.CTypes.{CType}
use Rattle.dm_type.specs.Tables.{no_type}
use Rattle.dm_syn.specs.Sources.{Source}
use Rattle.dm_syn.specs.Trees.{Expr}
use Rattle.dm_syn.specs.Trees as tree
use Rattle.dm_tree.specs.Trees.{Tree, kind_of}
use Rattle.dm_typing.specs.Known.{Known, Outcome, given, broken}
use Rattle.dm_typing.specs.Conversions.{constant_of}
use Rattle.dm_typing.specs.Typing.{typed}

-- a token of a class with a value of a kind
abbrev token : Class → ℤ → ℕ → CToken
token class value kind =
    record { class = class; spelling = []; value = value; kind = kind; place = record { file = 0; byte = 0; line = 1; column = 1 }; trail = [] }

-- a punctuator by its row, and an int and an unsigned int
abbrev punctuator : ℕ → CToken
punctuator row = token (Punctuator row) (pos 0) 0

abbrev int : ℕ → CToken
int value = token Integer (pos value) 6

abbrev unsigned : ℕ → CToken
unsigned value = token Integer (pos value) 7

abbrev span : ℕ → ℕ → Span
span first behind = record { first = first; after = behind }

abbrev constant : ℕ → Expr
constant at = tree.constant (span at (at + 1))

-- nothing is declared
abbrev nothing : Known
nothing = record { types = no_type; scopes = map.empty ∷ []; declared = []; begun = []; constants = [] }

-- no name names a type
abbrev pub source_of : List CToken → Source
source_of tokens = record { tokens = tokens; outer = λ name. false }

abbrev typing : List CToken → Expr → Outcome Tree
typing tokens expr = typed (record { source = source_of tokens; lacks = λ name. false }) true nothing expr

abbrev type_in : Outcome Tree → Option CType
type_in (given known made) = Some (kind_of made)
type_in (broken rule at) = None

abbrev value_in : Outcome Tree → Option ℤ
value_in (given known made) = constant_of known made
value_in (broken rule at) = None

abbrev rule_in : Outcome Tree → Option (ℕ × ℕ)
rule_in (given known made) = None
rule_in (broken rule at) = Some (rule, at)

abbrev pub type_of : List CToken → Expr → Option CType
type_of tokens expr = type_in (typing tokens expr)

abbrev pub value_of : List CToken → Expr → Option ℤ
value_of tokens expr = value_in (typing tokens expr)

abbrev pub rule_of : List CToken → Expr → Option (ℕ × ℕ)
rule_of tokens expr = rule_in (typing tokens expr)

-- 'a' + 1u
abbrev pub sum_tokens : List CToken
sum_tokens = int 97 ∷ punctuator plus ∷ unsigned 1 ∷ []

abbrev pub sum : Expr
sum = tree.binary (span 0 3) (constant 0) 1 (constant 2)

-- -1 < 1u
abbrev pub less_tokens : List CToken
less_tokens = punctuator minus ∷ int 1 ∷ punctuator less_sign ∷ unsigned 1 ∷ []

abbrev pub less : Expr
less = tree.binary (span 0 4) (tree.prefix (span 0 2) 0 (constant 1)) 2 (constant 3)

-- &5
abbrev pub address_tokens : List CToken
address_tokens = punctuator ampersand ∷ int 5 ∷ []

abbrev pub address : Expr
address = tree.prefix (span 0 2) 0 (constant 1)

-- sizeof (char)
abbrev pub size_tokens : List CToken
size_tokens = token (Keyword sizeof_word) (pos 0) 0 ∷ punctuator left_parenthesis ∷ token (Keyword char_word) (pos 0) 0 ∷ punctuator right_parenthesis ∷ []

abbrev pub size : Expr
size = tree.sizeof_name (span 0 4) (tree.type_name (span 2 3) (tree.listed (span 2 3) (tree.more_words (tree.keyword 2) tree.no_words)) (tree.shaped (span 3 3) [] tree.absent))

-- 1 ? 2 : *3, in which `*` has an integer
abbrev pub follow_tokens : List CToken
follow_tokens = int 1 ∷ punctuator question ∷ int 2 ∷ punctuator colon ∷ punctuator star ∷ int 3 ∷ []

abbrev pub follow : Expr
follow = tree.conditional (span 0 6) (constant 0) (constant 2) (tree.prefix (span 4 6) 4 (constant 5))
