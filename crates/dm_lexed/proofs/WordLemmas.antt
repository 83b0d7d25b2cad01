-- What the lexer cuts, what `##` makes, and what tokens of phase 7 are: identifiers are words.
use Rattle.std.proofs.Common.{◌≡◌, ℕ, zero, suc, Bool, true, false, cond, ◌&&◌, ◌⊎◌, inl, inr, List, [], ◌∷◌, ◌++◌, Option, None, Some, Result, Ok, Err, IfSome, IfOk, slice_get, position, bytes_eq, nat_lt, refl, subst}
use Rattle.std.specs.Prelude.{◌==◌, length, ℤ}
use Rattle.std.specs.List.{AllByRecursion}
use Rattle.std.specs.Result.{result_unwrap_or}
use Rattle.std.proofs.lemmas.Bool.{eqb-true, false≢true}
use Rattle.dm_token.specs.Refusals as refusals
use Rattle.dm_token.specs.declared.stop.Refusal.{Refusal}
use Rattle.dm_token.specs.declared.token.PpKind.{PpKind}
use Rattle.dm_token.specs.declared.token.PpKind.TheVariants.{Identifier, Number, Character, Literal, Punctuator, Header, Stray}
use Rattle.dm_token.specs.declared.token.PpToken.{PpToken}
use Rattle.dm_token.specs.declared.token.Token.{Token}
use Rattle.dm_token.specs.declared.token.Class.{Class}
use Rattle.dm_token.specs.declared.token.Class.TheVariants as class
use Rattle.dm_token.specs.declared.token.CToken.{CToken}
use Rattle.dm_spell.specs.Tables.{keyword_rows}
use Rattle.dm_int.specs.declared.Kind.{Kind}
use Rattle.dm_phase.specs.Answer.{flat_of}
use Rattle.dm_phase.specs.declared.Character as characters
use Rattle.dm_lex.specs.declared.state.State.{State}
use Rattle.dm_lex.specs.Classes.{is_identifier, is_number, is_character, is_literal, is_header, is_nondigit, behind, punctuator_of, punctuator_or, class_of, kind_of}
use Rattle.dm_lex.specs.Cuts.{Piece, token, blank, comment, bytes_of, allows_header, first_state, state_behind, CutsTo, Cuts, OpensAt}
use Rattle.dm_lex.specs.Tokens.{tokens_of}
use Rattle.dm_lex.proofs.ExistLemmas.{cut_exists}
use Rattle.dm_ctok.specs.Joins.{is_literal_class, joined, onto, joins}
use Rattle.dm_ctok.specs.Tokens.{word, valued, number, is_prefixed, character, of_values, literal, of_kind, token_of, behind_first, each, ctokens_of, joined_unless_refused, plain, first_left_out, refused}
use Rattle.dm_numbered.specs.Numbered.{is_hash, ArePlainTokens}
use Rattle.dm_unit.specs.Sources.{reading_of, tokens_of_flat, tokens_or_open}
use Rattle.dm_lexed.specs.Words.{FitsKind, FitsClass, ArePpWords, AreWords}

-- tokens without trails
abbrev pub TokensFit : List PpToken → Type 0
TokensFit tokens = AllByRecursion (λ (one : PpToken). FitsKind one.kind one.spelling) tokens

-- ---- classes (6.4)

pub class-fits : (spelling : List ℕ) → IfSome (class_of spelling) (λ (kind : PpKind). FitsKind kind spelling)
unfolding class_of
class-fits spelling = by (is_identifier spelling) refl (is_number spelling) (is_character spelling) (is_literal spelling) (punctuator_of spelling)
  where
    by : (a : Bool) → is_identifier spelling ≡ a → (b c d : Bool) (o : Option ℕ)
        → IfSome (cond a (Some Identifier) (cond b (Some Number) (cond c (Some Character) (cond d (Some Literal) (punctuator_or o None))))) (λ (kind : PpKind). FitsKind kind spelling)
    by true is b c d o = is
    by false is true c d o = tt
    by false is false true d o = tt
    by false is false false true o = tt
    by false is false false false None = tt
    by false is false false false (Some row) = tt

kind-fits : (header : Bool) (spelling : List ℕ) → IfSome (kind_of header spelling) (λ (kind : PpKind). FitsKind kind spelling)
unfolding kind_of
kind-fits header spelling = by (header && is_header spelling) (is_identifier spelling) refl (is_number spelling) (is_character spelling) (is_literal spelling) (punctuator_of spelling) (length spelling == 1)
  where
    by : (h a : Bool) → is_identifier spelling ≡ a → (b c d : Bool) (o : Option ℕ) (s : Bool)
        → IfSome (cond h (Some Header) (cond a (Some Identifier) (cond b (Some Number) (cond c (Some Character) (cond d (Some Literal) (punctuator_or o (cond s (Some Stray) None))))))) (λ (kind : PpKind). FitsKind kind spelling)
    by true a is b c d o s = tt
    by false true is b c d o s = is
    by false false is true c d o s = tt
    by false false is false true d o s = tt
    by false false is false false true o s = tt
    by false false is false false false (Some row) s = tt
    by false false is false false false None true = tt
    by false false is false false false None false = tt

-- ---- the tokens of a file (5.1.1.2p1 phase 3)

tokens-fit : (file : ℕ) (bytes : List ℕ) (state : State) (pieces : List Piece) (text left : List characters.Character) → CutsTo state pieces text left → TokensFit (tokens_of file bytes state pieces)
unfolding tokens_of CutsTo
tokens-fit file bytes state [] text left cuts = tt
tokens-fit file bytes state (token kind spelling ∷ pieces) text left cuts = (
  subst (λ (o : Option PpKind). IfSome o (λ (kind : PpKind). FitsKind kind (bytes_of spelling))) cuts.2.kind_is (kind-fits (allows_header state) (bytes_of spelling)),
  tokens-fit file bytes (state_behind state (token kind spelling)) pieces cuts.0 left cuts.3,
)
tokens-fit file bytes state (blank character ∷ pieces) text left cuts = tokens-fit file bytes (state_behind state (blank character)) pieces cuts.0 left cuts.3
tokens-fit file bytes state (comment text ∷ pieces) whole left cuts = tokens-fit file bytes (state_behind state (comment text)) pieces cuts.0 left cuts.3

pub reading-fits : (file : ℕ) (bytes : List ℕ) → IfOk (reading_of file bytes) TokensFit
unfolding reading_of
reading-fits file bytes = by (flat_of file bytes)
  where
    cut : (text : List characters.Character) (found : ((pieces : List Piece) × Cuts first_state pieces text) ⊎ ((pieces : List Piece) × (left : List characters.Character) × OpensAt first_state pieces text left))
        → IfOk (tokens_or_open file bytes text found) TokensFit
    cut text (inl pieces) = tokens-fit file bytes first_state pieces.0 text [] pieces.1
    cut text (inr opening) = tt

    by : (flat : Result (List characters.Character) Refusal) → IfOk (tokens_of_flat file bytes flat) TokensFit
    by (Ok text) = cut text (cut_exists first_state text)
    by (Err refusal) = tt

pub file-fits : (file : ℕ) (bytes : List ℕ) → TokensFit (result_unwrap_or (reading_of file bytes) [])
file-fits file bytes = by (reading_of file bytes) (reading-fits file bytes)
  where
    by : (r : Result (List PpToken) Refusal) → IfOk r TokensFit → TokensFit (result_unwrap_or r [])
    by (Ok tokens) fit = fit
    by (Err refusal) fit = tt

-- ---- phase 7

abbrev CFits : CToken → Type 0
CFits one = FitsClass one.class one.spelling

word-fits : (one : Token) (row : Option ℕ) → FitsKind Identifier one.pp.spelling → IfOk (word one row) CFits
unfolding word
word-fits one None fits = fits
word-fits one (Some row) fits = by (nat_lt row first_left_out)
  where
    by : (b : Bool) → IfOk (cond b (Ok (plain one (class.Keyword row))) (Err (refused one refusals.out_of_subset))) CFits
    by true = tt
    by false = tt

valued-fits : (one : Token) (o : Option (ℤ × Kind)) → IfOk (valued one o) CFits
unfolding valued
valued-fits one None = tt
valued-fits one (Some constant) = tt

of_values-fits : (one : Token) (o : Option (List ℕ)) → IfOk (of_values one o) CFits
unfolding of_values
of_values-fits one None = tt
of_values-fits one (Some bytes) = tt

unless-fits : (b : Bool) (refusal : Refusal) (r : Result CToken Refusal) → IfOk r CFits → IfOk (cond b (Err refusal) r) CFits
unless-fits true refusal r fits = tt
unless-fits false refusal r fits = fits

kind-becomes : (one : Token) (kind : PpKind) → FitsKind kind one.pp.spelling → IfOk (of_kind one kind) CFits
unfolding of_kind number character literal
kind-becomes one Identifier fits = word-fits one (position (bytes_eq one.pp.spelling) keyword_rows) fits
kind-becomes one Number fits = valued-fits one _
kind-becomes one Character fits = unless-fits (is_prefixed one.pp.spelling) _ _ (valued-fits one _)
kind-becomes one Literal fits = unless-fits (is_prefixed one.pp.spelling) _ _ (of_values-fits one _)
kind-becomes one (Punctuator row) fits = tt
kind-becomes one Header fits = tt
kind-becomes one Stray fits = tt

each-fits : (tokens : List Token) → ArePpWords tokens → IfOk (each tokens) AreWords
unfolding each token_of
each-fits [] all = tt
each-fits (one ∷ tokens) all = by (of_kind one one.pp.kind) (kind-becomes one one.pp.kind all.0) (each tokens) (each-fits tokens all.1)
  where
    by : (r : Result CToken Refusal) → IfOk r CFits → (s : Result (List CToken) Refusal) → IfOk s AreWords → IfOk (behind_first r s) AreWords
    by (Ok first) fits (Ok others) rest = (fits, rest)
    by (Ok first) fits (Err refusal) rest = tt
    by (Err refusal) fits s rest = tt

literal-fits : (one : Class) (bytes : List ℕ) → is_literal_class one ≡ true → FitsClass one bytes
literal-fits (class.Keyword row) bytes is = tt
literal-fits (class.Punctuator row) bytes is = tt
literal-fits class.Identifier bytes is = absurd (false≢true is)
literal-fits class.Integer bytes is = tt
literal-fits class.Literal bytes is = tt

onto-fits : (a : CToken) (tokens : List CToken) → FitsClass a.class a.spelling → AreWords tokens → AreWords (onto a tokens)
unfolding onto joined
onto-fits a [] first all = (first, tt)
onto-fits a (b ∷ tokens) first all = by (is_literal_class a.class) refl (is_literal_class b.class)
  where
    by : (x : Bool) → is_literal_class a.class ≡ x → (y : Bool) → AreWords (cond (x && y) (joined a b ∷ tokens) (a ∷ b ∷ tokens))
    by true is true = (literal-fits a.class (a.spelling ++ b.spelling) is, all.1)
    by true is false = (first, all)
    by false is y = (first, all)

joins-fit : (tokens : List CToken) → AreWords tokens → AreWords (joins tokens)
unfolding joins
joins-fit [] all = tt
joins-fit (one ∷ tokens) all = onto-fits one (joins tokens) all.0 (joins-fit tokens all.1)

pub become-words : (tokens : List Token) (made : List CToken) → ArePpWords tokens → ctokens_of tokens ≡ Ok made → AreWords made
unfolding ctokens_of
become-words tokens made all is =
    subst (λ (r : Result (List CToken) Refusal). IfOk r AreWords) is (by (each tokens) (each-fits tokens all))
  where
    by : (r : Result (List CToken) Refusal) → IfOk r AreWords → IfOk (joined_unless_refused r) AreWords
    by (Ok given) fit = joins-fit given fit
    by (Err refusal) fit = tt

-- ---- no word begins with `#`

word-plain : (spelling : List ℕ) → is_identifier spelling ≡ true → is_hash spelling ≡ false
unfolding is_identifier behind is_nondigit
word-plain [] is = refl
word-plain (byte ∷ bytes) is = by (byte == 35) refl
  where
    by : (b : Bool) → (byte == 35) ≡ b → b ≡ false
    by true e = let same : byte ≡ 35 = eqb-true byte 35 e in absurd (false≢true (subst (λ (n : ℕ). is_identifier (n ∷ bytes) ≡ true) same is))
    by false e = refl

pub words-plain : (tokens : List CToken) → AreWords tokens → ArePlainTokens tokens
words-plain tokens all at one is a = word-plain one.spelling (subst (λ (c : Class). FitsClass c one.spelling) a (at-fits tokens at all is))
  where
    at-fits : (ts : List CToken) (n : ℕ) → AreWords ts → slice_get ts n ≡ Some one → FitsClass one.class one.spelling
    at-fits [] n all e = absurd (cc)
    at-fits (t ∷ ts) zero all e = let same : t ≡ one = cc in subst (λ (t : CToken). FitsClass t.class t.spelling) same all.0
    at-fits (t ∷ ts) (suc n) all e = at-fits ts n all.1 e
