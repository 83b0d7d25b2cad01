-- No identifier that is seen begins with `#`, where no token that is an identifier does.
use Rattle.std.specs.Prelude.{◌≡◌, ℕ, zero, suc, ◌==◌, ◌||◌, Bool, true, false, if◌then◌else◌, List, [], ◌∷◌, ◌++◌, Option, Some, None, slice_get, refl}
use Rattle.std.specs.List.{AllByRecursion}
use Rattle.std.specs.FinMap as map
use Rattle.std.proofs.Common.{sym, subst}
use Rattle.dm_token.specs.declared.token.Class.{Class}
use Rattle.dm_token.specs.declared.token.Class.TheVariants as class
use Rattle.dm_token.specs.declared.token.CToken.{CToken}
use Rattle.dm_spell.specs.Keywords as keyword
use Rattle.dm_spell.specs.Punctuators as punctuator
use Rattle.dm_syn.specs.declared.symbol.Symbol.{Symbol}
use Rattle.dm_syn.specs.declared.symbol.Symbol.TheVariants as symbol
use Rattle.dm_syn.specs.Sources.{symbol_at, symbol_of_token, spelling_of_token}
use Rattle.dm_syn.specs.Spans.{external_span}
use Rattle.dm_syn.specs.Symbols.{is_identifier, symbol_of, keyword_symbol, punctuator_symbol}
use Rattle.dm_syn.specs.Trees.{External}
use Rattle.dm_pexpr.specs.Answers.{source_with}
use Rattle.dm_pexpr.specs.NameMaps.{NameMap}
use Rattle.dm_reading.specs.Syntax.{names_behind, Stand, IsSyntax}
use Rattle.dm_names.specs.declared.identifier.Identifier.{Identifier}
use Rattle.dm_names.specs.declared.seen.Seen.{Seen}
use Rattle.dm_names.specs.Meanings.{nothing_seen, next_external, shown_from, identifiers_in, identifiers_of}
use Rattle.dm_names.specs.Seen.{Source, external}
use Rattle.dm_numbered.specs.Numbered.{is_hash, ArePlain, ArePlainTokens}
use Rattle.dm_numbered.proofs.WordLemmas.{IsWord, external-words}

abbrev IsWordIn : List CToken → Identifier → Type 0
IsWordIn tokens one = one.tag ≡ false → is_identifier (symbol_of_token (slice_get tokens one.at)) ≡ true

all-join : {A : Type 0} (Q : A → Type 0) (xs ys : List A) → AllByRecursion Q xs → AllByRecursion Q ys → AllByRecursion Q (xs ++ ys)
all-join Q [] ys h k = k
all-join Q (x ∷ xs) ys h k = (h.0, all-join Q xs ys h.1 k)

all-at : {A : Type 0} (Q : A → Type 0) (xs : List A) (n : ℕ) (x : A) → AllByRecursion Q xs → slice_get xs n ≡ Some x → Q x
all-at Q [] n x h e = absurd (cc)
all-at Q (y ∷ xs) zero x h e = let same : y ≡ x = cc in subst Q same h.0
all-at Q (y ∷ xs) (suc n) x h e = all-at Q xs n x h.1 e

same-words : (tokens : List CToken) (names : NameMap) (all : List Identifier) → AllByRecursion (IsWord (source_with tokens names)) all → AllByRecursion (IsWordIn tokens) all
unfolding symbol_at
same-words tokens names [] h = tt
same-words tokens names (one ∷ others) h = (h.0, same-words tokens names others h.1)

shown-words : (source : Source) (tokens : List CToken) (names : NameMap) (at to : ℕ) (known : NameMap) (all : List External) (seen : Seen) → seen.identifiers ≡ [] → Stand tokens names at all to known
    → AllByRecursion (IsWordIn tokens) (identifiers_in (shown_from source seen all))
unfolding Stand
shown-words source tokens names at to known [] seen none is = tt
shown-words source tokens names at to known (first ∷ others) seen none is =
    let mid = external source seen first in
    all-join (IsWordIn tokens) mid.identifiers _
    (same-words tokens names mid.identifiers
    (external-words source (source_with tokens names) [] first seen is.0.formed.0 (subst (AllByRecursion (IsWord (source_with tokens names))) (sym none) tt)))
    (shown-words source tokens (names_behind tokens names first) (external_span first).after to known others (next_external mid) refl is.1)

-- ---- classes

IsOther : Symbol → Type 0
IsOther it = is_identifier it ≡ false

other : (it : Symbol) → is_identifier it ≡ false → IsOther it
unfolding IsOther
other it e = e

told-other : (it : Symbol) → IsOther it → is_identifier it ≡ false
unfolding IsOther
told-other it e = e

pick : (test : Bool) (one rest : Symbol) → IsOther one → IsOther rest → IsOther (if test then one else rest)
pick true one rest h k = h
pick false one rest h k = k

keyword-other : (row : ℕ) → IsOther (keyword_symbol row)
keyword-other row =
    pick (row == keyword.break_word) symbol.Break _ (other symbol.Break refl) (
    pick (row == keyword.case_word) symbol.Case _ (other symbol.Case refl) (
    pick (row == keyword.const_word) symbol.Const _ (other symbol.Const refl) (
    pick (row == keyword.continue_word) symbol.Continue _ (other symbol.Continue refl) (
    pick (row == keyword.default_word) symbol.Default _ (other symbol.Default refl) (
    pick (row == keyword.do_word) symbol.Do _ (other symbol.Do refl) (
    pick (row == keyword.else_word) symbol.Else _ (other symbol.Else refl) (
    pick (row == keyword.enum_word) symbol.Enum _ (other symbol.Enum refl) (
    pick (row == keyword.for_word) symbol.For _ (other symbol.For refl) (
    pick (row == keyword.if_word) symbol.If _ (other symbol.If refl) (
    pick (row == keyword.return_word) symbol.Return _ (other symbol.Return refl) (
    pick (row == keyword.sizeof_word) symbol.Sizeof _ (other symbol.Sizeof refl) (
    pick (row == keyword.struct_word) symbol.Struct _ (other symbol.Struct refl) (
    pick (row == keyword.switch_word) symbol.Switch _ (other symbol.Switch refl) (
    pick (row == keyword.typedef_word) symbol.Typedef _ (other symbol.Typedef refl) (
    pick (row == keyword.while_word) symbol.While _ (other symbol.While refl) (
    pick (row == keyword.extern_word || row == keyword.static_word || row == keyword.inline_word) symbol.Storage _ (other symbol.Storage refl) (
    pick (row == keyword.void_word || row == keyword.bool_word || row == keyword.char_word || row == keyword.int_word) symbol.TypeWord _ (other symbol.TypeWord refl) (
    pick (row == keyword.short_word || row == keyword.long_word || row == keyword.signed_word || row == keyword.unsigned_word) symbol.TypeWord _ (other symbol.TypeWord refl) (
    other symbol.Other refl)))))))))))))))))))

punctuator-other : (row : ℕ) → IsOther (punctuator_symbol row)
punctuator-other row =
    pick (row == punctuator.left_bracket) symbol.LeftBracket _ (other symbol.LeftBracket refl) (
    pick (row == punctuator.right_bracket) symbol.RightBracket _ (other symbol.RightBracket refl) (
    pick (row == punctuator.left_parenthesis) symbol.LeftParen _ (other symbol.LeftParen refl) (
    pick (row == punctuator.right_parenthesis) symbol.RightParen _ (other symbol.RightParen refl) (
    pick (row == punctuator.left_brace) symbol.LeftBrace _ (other symbol.LeftBrace refl) (
    pick (row == punctuator.right_brace) symbol.RightBrace _ (other symbol.RightBrace refl) (
    pick (row == punctuator.dot) symbol.Dot _ (other symbol.Dot refl) (
    pick (row == punctuator.arrow) symbol.Arrow _ (other symbol.Arrow refl) (
    pick (row == punctuator.increment || row == punctuator.decrement) symbol.Increment _ (other symbol.Increment refl) (
    pick (row == punctuator.ampersand) symbol.Ampersand _ (other symbol.Ampersand refl) (
    pick (row == punctuator.star) symbol.Star _ (other symbol.Star refl) (
    pick (row == punctuator.plus || row == punctuator.minus) symbol.Additive _ (other symbol.Additive refl) (
    pick (row == punctuator.tilde || row == punctuator.exclamation) symbol.Complement _ (other symbol.Complement refl) (
    pick (row == punctuator.slash || row == punctuator.percent) symbol.Multiplicative _ (other symbol.Multiplicative refl) (
    pick (row == punctuator.left_shift || row == punctuator.right_shift) symbol.Shift _ (other symbol.Shift refl) (
    pick (row == punctuator.less || row == punctuator.greater || row == punctuator.less_equal || row == punctuator.greater_equal) symbol.Relational _ (other symbol.Relational refl) (
    pick (row == punctuator.equal_equal || row == punctuator.not_equal) symbol.Equality _ (other symbol.Equality refl) (
    pick (row == punctuator.caret) symbol.Caret _ (other symbol.Caret refl) (
    pick (row == punctuator.bar) symbol.Bar _ (other symbol.Bar refl) (
    pick (row == punctuator.and_and) symbol.And _ (other symbol.And refl) (
    pick (row == punctuator.or_or) symbol.Or _ (other symbol.Or refl) (
    pick (row == punctuator.question) symbol.Question _ (other symbol.Question refl) (
    pick (row == punctuator.colon) symbol.Colon _ (other symbol.Colon refl) (
    pick (row == punctuator.semicolon) symbol.Semicolon _ (other symbol.Semicolon refl) (
    pick (row == punctuator.comma) symbol.Comma _ (other symbol.Comma refl) (
    pick (row == punctuator.equals) symbol.Equals _ (other symbol.Equals refl) (
    pick (row == punctuator.star_equals || row == punctuator.slash_equals || row == punctuator.percent_equals) symbol.Compound _ (other symbol.Compound refl) (
    pick (row == punctuator.plus_equals || row == punctuator.minus_equals) symbol.Compound _ (other symbol.Compound refl) (
    pick (row == punctuator.left_shift_equals || row == punctuator.right_shift_equals) symbol.Compound _ (other symbol.Compound refl) (
    pick (row == punctuator.ampersand_equals || row == punctuator.caret_equals || row == punctuator.bar_equals) symbol.Compound _ (other symbol.Compound refl) (
    other symbol.Other refl))))))))))))))))))))))))))))))

class-is : (one : Class) → is_identifier (symbol_of one) ≡ true → one ≡ class.Identifier
unfolding symbol_of
class-is (class.Keyword row) e = let no = told-other _ (keyword-other row) in absurd (cc)
class-is (class.Punctuator row) e = let no = told-other _ (punctuator-other row) in absurd (cc)
class-is class.Identifier e = refl
class-is class.Integer e = absurd (cc)
class-is class.Literal e = absurd (cc)

pub plain-tokens : (source : Source) (tokens : List CToken) (externals : List External) → IsSyntax tokens externals → ArePlainTokens tokens → ArePlain tokens (identifiers_of source externals)
plain-tokens source tokens externals syntax plain k one e tag =
    by (slice_get tokens one.at) refl (all-at (IsWordIn tokens) (identifiers_of source externals) k one (shown-words source tokens map.empty 0 _ syntax.0 externals nothing_seen refl syntax.1) e tag)
  where
    by : (found : Option CToken) → slice_get tokens one.at ≡ found → is_identifier (symbol_of_token found) ≡ true → is_hash (spelling_of_token found) ≡ false
    by None s h = refl
    by (Some token) s h = plain one.at token s (class-is token.class h)
