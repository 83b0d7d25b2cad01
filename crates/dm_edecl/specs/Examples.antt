-- Small units, and what their typing comes to: the examples of `src/examples.rt`.
--     rule_of tokens externals      the rule that a unit of these tokens breaks, and the token at which it does
--     kinds_of tokens externals      the types of its entries
use Rattle.std.specs.Prelude.{ℕ, ◌+◌, pos, ℤ, false, List, [], ◌∷◌, Option, Some, None, map, codes}
use Rattle.dm_spell.specs.Keywords.{break_word, extern_word, int_word, long_word, void_word}
use Rattle.dm_spell.specs.Punctuators.{comma, equals, left_brace, left_bracket, left_parenthesis, right_brace, right_bracket, right_parenthesis, semicolon}
use Rattle.dm_token.specs.declared.place.Span.{Span}
use Rattle.dm_token.specs.declared.token.Class.{Class}
use Rattle.dm_token.specs.declared.token.Class.TheVariants.{Keyword, Identifier, Punctuator, Integer}
use Rattle.dm_token.specs.declared.token.CToken.{CToken}
use Rattle.dm_type.specs.CTypes.{CType}
use Rattle.dm_syn.specs.Trees.{Expr, Specifiers, Declarator, Direct, Initialiser, Stmt, External}
use Rattle.dm_syn.specs.Trees as tree
use Rattle.dm_tree.specs.Units as unit
use Rattle.dm_typing.specs.Known.{Outcome, given, broken}
use Rattle.dm_edecl.specs.Units.{typed_unit}

-- ---- tokens

abbrev token : Class → List ℕ → ℤ → ℕ → CToken
token class spelling value kind =
    record { class = class; spelling = spelling; value = value; kind = kind; place = record { file = 0; byte = 0; line = 1; column = 1 }; trail = [] }

-- a keyword and a punctuator by their rows, an identifier by its spelling, and an int
abbrev keyword : ℕ → CToken
keyword row = token (Keyword row) [] (pos 0) 0

abbrev punctuator : ℕ → CToken
punctuator row = token (Punctuator row) [] (pos 0) 0

abbrev identifier : List ℕ → CToken
identifier spelling = token Identifier spelling (pos 0) 0

abbrev int : ℕ → CToken
int value = token Integer [] (pos value) 6

-- ---- trees

abbrev span : ℕ → ℕ → Span
span first behind = record { first = first; after = behind }

abbrev word : ℕ → Specifiers
word at = tree.listed (span at (at + 1)) (tree.more_words (tree.keyword at) tree.no_words)

abbrev words : ℕ → Specifiers
words at = tree.listed (span at (at + 2)) (tree.more_words (tree.keyword at) (tree.more_words (tree.keyword (at + 1)) tree.no_words))

abbrev constant : ℕ → Expr
constant at = tree.constant (span at (at + 1))

abbrev declarator : ℕ → ℕ → Direct → Declarator
declarator at behind direct = tree.shaped (span at behind) [] direct

abbrev declared : ℕ → ℕ → Specifiers → ℕ → ℕ → Direct → External
declared first behind specifiers from to direct =
    tree.external (span first behind) (tree.declaring (span first behind) specifiers (tree.plain (span from to) (declarator from to direct) ∷ []))

-- `name(void)`, from the name on
abbrev without_parameters : ℕ → Direct
without_parameters at =
    tree.function (tree.declared at)
    (tree.more_parameters (tree.parameter (span (at + 2) (at + 3)) (word (at + 2)) (declarator (at + 3) (at + 3) tree.absent)) tree.no_parameters)

-- `int name(void) { .. }` of one statement
abbrev function : ℕ → ℕ → Stmt → External
function first behind stmt =
    tree.definition (span first behind) (word first) (declarator (first + 1) (first + 5) (without_parameters (first + 1)))
    (tree.block (span (first + 5) behind) (tree.more_items (tree.stated_item stmt) tree.no_items))

-- ---- answers

abbrev rule_in : {A : Type 0} → Outcome A → Option (ℕ × ℕ)
rule_in (given known it) = None
rule_in (broken rule at) = Some (rule, at)

abbrev kinds_in : Outcome unit.TypedUnit → Option (List CType)
kinds_in (given known it) = Some (map (λ (entry : unit.Declaration). entry.kind) it.declared)
kinds_in (broken rule at) = None

abbrev pub rule_of : List CToken → List External → Option (ℕ × ℕ)
rule_of tokens externals = rule_in (typed_unit [] tokens externals)

abbrev pub kinds_of : List CToken → List External → Option (List CType)
kinds_of tokens externals = kinds_in (typed_unit [] tokens externals)

-- ---- units

-- int a; long a;
abbrev pub twice_tokens : List CToken
twice_tokens =
    keyword int_word ∷ identifier (codes "a") ∷ punctuator semicolon ∷ keyword long_word ∷ identifier (codes "a") ∷ punctuator semicolon ∷ []

abbrev pub twice : List External
twice = declared 0 3 (word 0) 1 2 (tree.declared 1) ∷ declared 3 6 (word 3) 4 5 (tree.declared 4) ∷ []

-- int f(void) { break; }
abbrev pub loose_tokens : List CToken
loose_tokens =
    keyword int_word ∷ identifier (codes "f") ∷ punctuator left_parenthesis ∷ keyword void_word ∷ punctuator right_parenthesis ∷ punctuator left_brace ∷ keyword break_word ∷ punctuator semicolon ∷ punctuator right_brace ∷ []

abbrev pub loose : List External
loose = function 0 9 (tree.break (span 6 8)) ∷ []

-- int a[1] = {1, 2};
abbrev pub surplus_tokens : List CToken
surplus_tokens =
    keyword int_word ∷ identifier (codes "a") ∷ punctuator left_bracket ∷ int 1 ∷ punctuator right_bracket ∷ punctuator equals ∷ punctuator left_brace ∷ int 1 ∷ punctuator comma ∷ int 2
    ∷ punctuator right_brace ∷ punctuator semicolon ∷ []

abbrev item : ℕ → Initialiser
item at = tree.value (span at (at + 1)) (constant at)

abbrev pub surplus : List External
surplus =
    tree.external (span 0 12)
    (tree.declaring (span 0 12) (word 0)
    (tree.initialised (span 1 11) (declarator 1 5 (tree.sized (tree.declared 1) (constant 3)))
    (tree.braces (span 6 11) (tree.more_initialisers (item 7) (tree.more_initialisers (item 9) tree.no_initialisers)) false) ∷ []))
    ∷ []

-- extern int a[]; int a[2];
abbrev pub completed_tokens : List CToken
completed_tokens =
    keyword extern_word ∷ keyword int_word ∷ identifier (codes "a") ∷ punctuator left_bracket ∷ punctuator right_bracket ∷ punctuator semicolon
    ∷ keyword int_word ∷ identifier (codes "a") ∷ punctuator left_bracket ∷ int 2 ∷ punctuator right_bracket ∷ punctuator semicolon ∷ []

abbrev pub completed : List External
completed =
    declared 0 6 (words 0) 2 5 (tree.array (tree.declared 2))
    ∷ declared 6 12 (word 6) 7 11 (tree.sized (tree.declared 7) (constant 9))
    ∷ []
