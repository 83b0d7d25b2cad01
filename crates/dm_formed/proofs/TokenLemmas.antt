-- The constants among the tokens of phase 7 are sound: each has a promoted kind, and a value of it (6.4.4.1p5, 6.4.4.4p10).
use Rattle.std.specs.Prelude.{◌≡◌, ℕ, zero, suc, Bool, true, false, ◌&&◌, ◌==◌, nat_lt, ℤ, pos, List, [], ◌∷◌, Option, Some, None, IfSome, option_map, option_and_then, unwrap_or, Result, Ok, Err, IfOk, refl}
use Rattle.std.specs.List.{AllByRecursion}
use Rattle.std.proofs.Common.{sym, ap, ◌∙◌, subst, arith}
use Rattle.std.proofs.lemmas.Bool.{cond_both, false≢true}
use Rattle.std.proofs.lemmas.Int.{ints}
use Rattle.dm_int.specs.declared.Kind.{Kind}
use Rattle.dm_int.specs.declared.Kind.TheVariants.{Char, Int}
use Rattle.dm_int.specs.Kinds.{number_of, is_in_range, InRange, convert}
use Rattle.dm_int.specs.Ranges.{kinds-number_of, in_range-convert}
use Rattle.dm_token.specs.declared.stop.Refusal.{Refusal}
use Rattle.dm_token.specs.declared.token.PpKind.{PpKind}
use Rattle.dm_token.specs.declared.token.PpKind.TheVariants.{Identifier, Number, Character, Literal, Punctuator, Header, Stray}
use Rattle.dm_token.specs.declared.token.Token.{Token}
use Rattle.dm_token.specs.declared.token.CToken.{CToken}
use Rattle.dm_token.specs.declared.token.Class.TheVariants as class
use Rattle.dm_ctok.specs.declared.integer.Suffix.{Suffix}
use Rattle.dm_ctok.specs.declared.integer.Suffix.TheVariants as suffix
use Rattle.dm_ctok.specs.declared.integer.Constant.{Constant}
use Rattle.dm_ctok.specs.Escapes.{elements, between_quotes, single, character_of}
use Rattle.dm_ctok.specs.Integers.{kinds_for, first_fit, kind_of, constant_of, integer_of}
use Rattle.dm_ctok.specs.Joins.{is_literal_class, joined, onto, joins}
use Rattle.dm_ctok.specs.Tokens.{plain, refused, first_left_out, behaving, word, valued, number, is_prefixed, character, of_values, literal, of_kind, token_of, behind_first, each, joined_unless_refused, ctokens_of}
use Rattle.dm_syn.specs.declared.symbol.Symbol.{Symbol}
use Rattle.dm_syn.specs.declared.symbol.Symbol.TheVariants as symbol
use Rattle.dm_syn.specs.Symbols as symbols
use Rattle.dm_type.specs.CTypes.{integer}
use Rattle.dm_tree.specs.Operands.{IsPromoted, IsNumber}
use Rattle.dm_typing.specs.Typing.{kind_numbered}
use Rattle.dm_typing.specs.Sound.{IsSoundToken, AreSoundTokens}

-- ---- values and their kinds

-- the kind of a constant is promoted, and has its value
abbrev Suits : ℤ → Kind → Type 0
Suits value kind = IsPromoted kind × InRange kind value

in-range : (kind : Kind) (value : ℤ) → is_in_range kind value ≡ true → InRange kind value
in-range kind value h = grind (arith, ints)

-- so is the first in which it fits
first-suits : (value : ℕ) (kinds : List Kind) → AllByRecursion IsPromoted kinds → IfSome (first_fit value kinds) (Suits (pos value))
first-suits value [] promoted = tt
first-suits value (kind ∷ kinds) promoted =
    cond_both (is_in_range kind (pos value)) (Some kind) (first_fit value kinds) (λ found. IfSome found (Suits (pos value))) (λ fits. (promoted.0, in-range kind (pos value) fits))
    (λ _. first-suits value kinds promoted.1)

-- each kind of the lists of 6.4.4.1p5 is promoted
kinds-promoted : (is_decimal : Bool) (suffix : Suffix) → AllByRecursion IsPromoted (kinds_for is_decimal suffix)
kinds-promoted true suffix.Plain = (refl, (refl, (refl, tt)))
kinds-promoted false suffix.Plain = (refl, (refl, (refl, (refl, (refl, (refl, tt))))))
kinds-promoted true suffix.Unsigned = (refl, (refl, (refl, tt)))
kinds-promoted false suffix.Unsigned = (refl, (refl, (refl, tt)))
kinds-promoted true suffix.Long = (refl, (refl, tt))
kinds-promoted false suffix.Long = (refl, (refl, (refl, (refl, tt))))
kinds-promoted true suffix.UnsignedLong = (refl, (refl, tt))
kinds-promoted false suffix.UnsignedLong = (refl, (refl, tt))
kinds-promoted true suffix.LongLong = (refl, tt)
kinds-promoted false suffix.LongLong = (refl, (refl, tt))
kinds-promoted true suffix.UnsignedLongLong = (refl, tt)
kinds-promoted false suffix.UnsignedLongLong = (refl, tt)

-- an integer constant (6.4.4.1)
integer-suits : (spelling : List ℕ) → IfSome (integer_of spelling) (λ (it : ℕ × Kind). Suits (pos it.0) it.1)
unfolding integer_of kind_of
integer-suits spelling = of-constant (constant_of spelling)
  where
    with-kind : (value : ℕ) (found : Option Kind) → IfSome found (Suits (pos value))
        → IfSome (option_map {T = Kind} {U = ℕ × Kind} (λ kind. (value, kind)) found) (λ (it : ℕ × Kind). Suits (pos it.0) it.1)
    with-kind value None h = tt
    with-kind value (Some kind) h = h

    of-constant : (constant : Option Constant)
        → IfSome (option_and_then {T = Constant} {U = ℕ × Kind} (λ one. option_map (λ kind. (one.value, kind)) (kind_of one)) constant) (λ (it : ℕ × Kind). Suits (pos it.0) it.1)
    of-constant None = tt
    of-constant (Some one) = with-kind one.value (kind_of one) (first-suits one.value (kinds_for one.is_decimal one.suffix) (kinds-promoted one.is_decimal one.suffix))

-- what a char has, an int has too
as-int : (value : ℤ) → InRange Char value → InRange Int value
as-int value h = grind (arith, ints)

-- a character constant (6.4.4.4p10)
character-suits : (spelling : List ℕ) → IfSome (character_of spelling) (λ value. Suits value Int)
unfolding character_of
character-suits spelling = of-element (option_and_then single (elements (between_quotes spelling)))
  where
    of-element : (found : Option ℕ) → IfSome (option_map (λ value. convert Char (pos value)) found) (λ value. Suits value Int)
    of-element None = tt
    of-element (Some value) = (refl, as-int (convert Char (pos value)) (in_range-convert Char (pos value)))

-- ---- the symbols of words and punctuators

abbrev is_constant : Symbol → Bool
is_constant it = symbols.number_of it == 2

no-constant : (it : Symbol) → is_constant it ≡ false → it ≡ symbol.Constant → ⊥
no-constant it h is = false≢true (sym h ∙ ap is_constant is)

keyword-other : (row : ℕ) → is_constant (symbols.keyword_symbol row) ≡ false
keyword-other row = grind arith

punctuator-other : (row : ℕ) → is_constant (symbols.punctuator_symbol row) ≡ false
punctuator-other row = grind arith

-- ---- one token

-- if it is a constant, it is sound
abbrev IsFine : CToken → Type 0
IsFine token = symbols.symbol_of token.class ≡ symbol.Constant → IsSoundToken token

abbrev MakesFine : Result CToken Refusal → Type 0
MakesFine made = IfOk made IsFine

kind-stands : (kind : Kind) → kind_numbered (number_of kind) ≡ kind
kind-stands kind = ap (λ found. unwrap_or found Int) (kinds-number_of kind)

word-fine : (token : Token) (row : Option ℕ) → MakesFine (word token row)
unfolding word symbols.symbol_of
word-fine token None = λ is. absurd (cc)
word-fine token (Some row) =
    cond_both (nat_lt row first_left_out) (Ok (plain token (class.Keyword row))) (Err (refused token 18)) MakesFine
    (λ _ is. absurd (no-constant (symbols.keyword_symbol row) (keyword-other row) is)) (λ _. tt)

valued-fine : (token : Token) (constant : Option (ℤ × Kind)) → IfSome constant (λ (it : ℤ × Kind). Suits it.0 it.1) → MakesFine (valued token constant)
unfolding valued
valued-fine token None h = tt
valued-fine token (Some constant) h = λ is. subst (λ kind. IsNumber constant.0 (integer kind)) (sym (kind-stands constant.1)) h

number-fine : (token : Token) → MakesFine (number token)
unfolding number
number-fine token = valued-fine token _ (given (integer_of token.pp.spelling) (integer-suits token.pp.spelling))
  where
    given : (found : Option (ℕ × Kind)) → IfSome found (λ (it : ℕ × Kind). Suits (pos it.0) it.1)
        → IfSome (option_map {T = ℕ × Kind} {U = ℤ × Kind} (λ it. (pos it.0, it.1)) found) (λ (it : ℤ × Kind). Suits it.0 it.1)
    given None h = tt
    given (Some it) h = h

character-fine : (token : Token) → MakesFine (character token)
unfolding character
character-fine token =
    let constant : Option (ℤ × Kind) = option_map (λ value. (value, Int)) (character_of token.pp.spelling) in
    cond_both (is_prefixed token.pp.spelling) (Err (refused token 18)) (valued token constant) MakesFine (λ _. tt)
    (λ _. valued-fine token constant (given (character_of token.pp.spelling) (character-suits token.pp.spelling)))
  where
    given : (found : Option ℤ) → IfSome found (λ value. Suits value Int) → IfSome (option_map {T = ℤ} {U = ℤ × Kind} (λ value. (value, Int)) found) (λ (it : ℤ × Kind). Suits it.0 it.1)
    given None h = tt
    given (Some value) h = h

values-fine : (token : Token) (values : Option (List ℕ)) → MakesFine (of_values token values)
unfolding of_values symbols.symbol_of
values-fine token None = tt
values-fine token (Some bytes) = λ is. absurd (cc)

literal-fine : (token : Token) → MakesFine (literal token)
unfolding literal
literal-fine token =
    let values : Option (List ℕ) = elements (between_quotes token.pp.spelling) in
    cond_both (is_prefixed token.pp.spelling) (Err (refused token 18)) (of_values token values) MakesFine (λ _. tt) (λ _. values-fine token values)

kind-fine : (token : Token) (kind : PpKind) → MakesFine (of_kind token kind)
unfolding of_kind symbols.symbol_of
kind-fine token Identifier = word-fine token _
kind-fine token Number = number-fine token
kind-fine token Character = character-fine token
kind-fine token Literal = literal-fine token
kind-fine token (Punctuator row) = λ is. absurd (no-constant (symbols.punctuator_symbol (behaving row)) (punctuator-other (behaving row)) is)
kind-fine token Header = tt
kind-fine token Stray = tt

token-fine : (token : Token) → MakesFine (token_of token)
unfolding token_of
token-fine token = kind-fine token token.pp.kind

-- ---- all tokens

abbrev MakesAllFine : Result (List CToken) Refusal → Type 0
MakesAllFine made = IfOk made (AllByRecursion IsFine)

each-fine : (tokens : List Token) → MakesAllFine (each tokens)
unfolding each
each-fine [] = tt
each-fine (token ∷ tokens) = behind (token_of token) (each tokens) (token-fine token) (each-fine tokens)
  where
    behind : (first : Result CToken Refusal) (others : Result (List CToken) Refusal) → MakesFine first → MakesAllFine others → MakesAllFine (behind_first first others)
    behind (Ok first) (Ok others) h all = (h, all)
    behind (Ok first) (Err refusal) h all = tt
    behind (Err refusal) others h all = tt

-- a literal that another is joined to is none the less a literal
onto-fine : (first : CToken) (tokens : List CToken) → IsFine first → AllByRecursion IsFine tokens → AllByRecursion IsFine (onto first tokens)
unfolding onto joined
onto-fine first [] h all = (h, tt)
onto-fine first (second ∷ tokens) h all =
    cond_both (is_literal_class first.class && is_literal_class second.class) (joined first second ∷ tokens) (first ∷ second ∷ tokens) (AllByRecursion IsFine)
    (λ _. (h, all.1)) (λ _. (h, all))

joins-fine : (tokens : List CToken) → AllByRecursion IsFine tokens → AllByRecursion IsFine (joins tokens)
unfolding joins
joins-fine [] all = tt
joins-fine (first ∷ tokens) all = onto-fine first (joins tokens) all.0 (joins-fine tokens all.1)

all-fine : (tokens : List Token) → MakesAllFine (ctokens_of tokens)
unfolding ctokens_of
all-fine tokens = joining (each tokens) (each-fine tokens)
  where
    joining : (made : Result (List CToken) Refusal) → MakesAllFine made → MakesAllFine (joined_unless_refused made)
    joining (Ok made) all = joins-fine made all
    joining (Err refusal) all = tt

fine-there : (tokens : List CToken) → AllByRecursion IsFine tokens → AreSoundTokens tokens
fine-there [] all at token there = absurd (cc)
fine-there (first ∷ tokens) all zero token there = subst IsFine (same first token there) all.0
  where
    same : (one other : CToken) → Some one ≡ Some other → one ≡ other
    same one other is = ap (λ found. unwrap_or found one) is
fine-there (first ∷ tokens) all (suc at) token there = fine-there tokens all.1 at token there

-- what preprocessing tokens become has sound constants
pub ctokens-sound : (tokens : List Token) (made : List CToken) → ctokens_of tokens ≡ Ok made → AreSoundTokens made
ctokens-sound tokens made is = fine-there made (subst MakesAllFine is (all-fine tokens))
