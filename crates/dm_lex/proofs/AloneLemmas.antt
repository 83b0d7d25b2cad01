-- A spelling that is a token of C is the one token of its text.
use Rattle.std.proofs.Common.{◌≡◌, ◌≢◌, ℕ, ◌<◌, ◌≤◌, Bool, true, false, ◌&&◌, ◌||◌, not, eqb, List, [], ◌∷◌, ◌++◌, length, refl, ap, sym, inl, inr, ◌∙◌, subst, arith, Option, Some, None}
use Rattle.std.specs.Prelude.{is_some}
use Rattle.std.specs.List.{list_all}
use Rattle.std.proofs.lemmas.List.{append-nil}
use Rattle.std.proofs.lemmas.Bool.{false≢true, and_parts, or_cases, eqb-true}
use Rattle.std.proofs.lemmas.Bool.Decides.{nat_tests}
use Rattle.dm_spell.specs.Rows.{row_at}
use Rattle.dm_spell.specs.Tables.{punctuator_rows}
use Rattle.dm_token.specs.declared.token.PpKind.{PpKind}
use Rattle.dm_token.specs.declared.token.PpKind.TheVariants.{Identifier, Number, Character, Literal, Punctuator, Header, Stray}
use Rattle.dm_phase.specs.declared.Character.{Character as Spelled}
use Rattle.dm_lex.specs.Classes.{is_word, is_nondigit, is_digit, is_prefix, is_identifier, is_number, is_character, is_literal, is_plain_character, is_plain_literal, continues_number, punctuator_of, kind_of, class_of, without_stray, behind}
use Rattle.dm_lex.specs.Cuts.{bytes_of, is_blank, opens_blank, opens_block, opens_line, CutsTo}
use Rattle.dm_lex.specs.Tokens.{IsOneToken}
use Rattle.dm_lex.proofs.KindLemmas.{class_of-without, punctuator_of-some, list_all-at, kind_if_cases, punctuator_or_cases, some_is}

-- a byte with which a token that is no punctuator begins
starts : ℕ → Bool
starts byte = is_word byte || eqb byte 46 || eqb byte 39 || eqb byte 34

-- whether a text begins with such a byte
abbrev begins : List ℕ → Bool
begins [] = false
begins (byte ∷ others) = starts byte

-- neither a blank nor a comment begins a text
abbrev is_apart : List ℕ → Bool
is_apart text = not (opens_blank text) && (not (opens_block text) && not (opens_line text))

-- such a byte begins neither
starts-apart : (byte : ℕ) (others : List ℕ) → starts byte ≡ true → is_apart (byte ∷ others) ≡ true
unfolding starts is_word is_nondigit is_digit opens_blank opens_block opens_line behind is_blank
starts-apart byte others start = grind (arith, nat_tests)

begins-apart : (text : List ℕ) → begins text ≡ true → is_apart text ≡ true
begins-apart [] begin = absurd (false≢true begin)
begins-apart (byte ∷ others) begin = starts-apart byte others begin

-- what begins with a byte that starts a token begins a token
begins-behind : (first : ℕ → Bool) (test : List ℕ → Bool) (text : List ℕ) → ((byte : ℕ) → first byte ≡ true → starts byte ≡ true) → behind first test text ≡ true → begins text ≡ true
unfolding behind
begins-behind first test [] start is = absurd (false≢true is)
begins-behind first test (byte ∷ others) start is = start byte (and_parts (first byte) (test others) is).0

nondigit_starts : (byte : ℕ) → is_nondigit byte ≡ true → starts byte ≡ true
unfolding starts is_word
nondigit_starts byte is = rw is refl

digit_starts : (byte : ℕ) → is_digit byte ≡ true → starts byte ≡ true
unfolding starts is_word is_nondigit is_digit
digit_starts byte is = grind (arith, nat_tests)

prefix_starts : (byte : ℕ) → is_prefix byte ≡ true → starts byte ≡ true
unfolding starts is_word is_nondigit is_digit is_prefix
prefix_starts byte is = grind (arith, nat_tests)

byte_starts : (wanted byte : ℕ) → starts wanted ≡ true → eqb byte wanted ≡ true → starts byte ≡ true
byte_starts wanted byte start is = ap starts (eqb-true byte wanted is) ∙ start

begins-identifier : (text : List ℕ) → is_identifier text ≡ true → begins text ≡ true
unfolding is_identifier
begins-identifier text is = begins-behind _ _ text nondigit_starts is

begins-number : (text : List ℕ) → is_number text ≡ true → begins text ≡ true
unfolding is_number starts is_word is_nondigit is_digit
begins-number text is =
    let digits : List ℕ → Bool = behind is_digit (continues_number false) in
    elim (or_cases (digits text) (behind (λ byte. eqb byte 46) digits text) is) [
      | inl plain ↦ begins-behind is_digit (continues_number false) text digit_starts plain
      | inr fraction ↦ begins-behind (λ byte. eqb byte 46) digits text (λ byte e. byte_starts 46 byte refl e) fraction
    ]

begins-plain_character : (text : List ℕ) → is_plain_character text ≡ true → begins text ≡ true
unfolding is_plain_character starts is_word is_nondigit is_digit
begins-plain_character text is = begins-behind _ _ text (λ byte e. byte_starts 39 byte refl e) is

begins-character : (text : List ℕ) → is_character text ≡ true → begins text ≡ true
unfolding is_character
begins-character text is =
    elim (or_cases _ _ is) [
      | inl plain ↦ begins-plain_character text plain
      | inr prefixed ↦ begins-behind _ _ text prefix_starts prefixed
    ]

begins-plain_literal : (text : List ℕ) → is_plain_literal text ≡ true → begins text ≡ true
unfolding is_plain_literal starts is_word is_nondigit is_digit
begins-plain_literal text is = begins-behind _ _ text (λ byte e. byte_starts 34 byte refl e) is

begins-literal : (text : List ℕ) → is_literal text ≡ true → begins text ≡ true
unfolding is_literal starts is_word is_nondigit is_digit
begins-literal text is =
    let utf8 : List ℕ → Bool = behind (λ byte. eqb byte 56) is_plain_literal in
    elim (or_cases (is_plain_literal text || behind is_prefix is_plain_literal text) (behind (λ byte. eqb byte 117) utf8 text) is) [
      | inl plain ↦ elim (or_cases (is_plain_literal text) (behind is_prefix is_plain_literal text) plain) [
        | inl bare ↦ begins-plain_literal text bare
        | inr prefixed ↦ begins-behind is_prefix is_plain_literal text prefix_starts prefixed
      ]
      | inr long ↦ begins-behind (λ byte. eqb byte 117) utf8 text (λ byte e. byte_starts 117 byte refl e) long
    ]

-- no punctuator begins with a blank or a comment
rows_apart : list_all is_apart punctuator_rows ≡ true
unfolding punctuator_rows opens_blank opens_block opens_line behind is_blank
rows_apart = refl

punctuator-apart : (text : List ℕ) (row : ℕ) → punctuator_of text ≡ Some row → is_apart text ≡ true
punctuator-apart text row is =
    let hit : (row < length punctuator_rows) × (text ≡ row_at punctuator_rows row) = punctuator_of-some text row is in
    ap is_apart hit.1 ∙ list_all-at is_apart punctuator_rows row rows_apart hit.0

-- a token of C begins with neither
class_of-apart : (text : List ℕ) → is_some (class_of text) ≡ true → is_apart text ≡ true
unfolding class_of
class_of-apart text some =
    elim (kind_if_cases (is_identifier text) Identifier _ some) [
      | inl identifier ↦ begins-apart text (begins-identifier text identifier)
      | inr others ↦ elim (kind_if_cases (is_number text) Number _ others) [
        | inl number ↦ begins-apart text (begins-number text number)
        | inr others ↦ elim (kind_if_cases (is_character text) Character _ others) [
          | inl character ↦ begins-apart text (begins-character text character)
          | inr others ↦ elim (kind_if_cases (is_literal text) Literal _ others) [
            | inl literal ↦ begins-apart text (begins-literal text literal)
            | inr others ↦ elim (punctuator_or_cases (punctuator_of text) None others) [
              | inl row ↦ let found = some_is _ row in punctuator-apart text found.0 found.1
              | inr none ↦ absurd (false≢true none)
            ]
          ]
        ]
      ]
    ]

-- what is a kind without strays is that kind, and no stray
kept : (found : Option PpKind) (kind : PpKind) → without_stray found ≡ Some kind → (found ≡ Some kind) × (kind ≢ Stray)
unfolding without_stray
kept None kind is = absurd (cc)
kept (Some Identifier) kind is = (is, λ e. cc)
kept (Some Number) kind is = (is, λ e. cc)
kept (Some Character) kind is = (is, λ e. cc)
kept (Some Literal) kind is = (is, λ e. cc)
kept (Some (Punctuator row)) kind is = (is, λ e. cc)
kept (Some Header) kind is = (is, λ e. cc)
kept (Some Stray) kind is = absurd (cc)

keeps : (kind : PpKind) → kind ≢ Stray → without_stray (Some kind) ≡ Some kind
unfolding without_stray
keeps Identifier other = refl
keeps Number other = refl
keeps Character other = refl
keeps Literal other = refl
keeps (Punctuator row) other = refl
keeps Header other = refl
keeps Stray other = absurd (other refl)

negated : (b : Bool) → not b ≡ true → b ≡ false
negated true is = absurd (false≢true is)
negated false is = refl

-- a spelling of a kind is cut into the one token
pub one_token-from_class : (text : List Spelled) (kind : PpKind) → class_of (bytes_of text) ≡ Some kind → IsOneToken text kind
unfolding CutsTo
one_token-from_class text kind is =
    let found = kept (kind_of false (bytes_of text)) kind (sym (class_of-without (bytes_of text)) ∙ is) in
    let apart = and_parts _ _ (class_of-apart (bytes_of text) (ap is_some is)) in
    let comments = and_parts _ _ apart.1 in
    let whole : bytes_of text ++ [] ≡ bytes_of text = append-nil (bytes_of text) in (
      (
        [],
        sym (append-nil text),
        record {
          kind_is = found.0;
          longest = λ n inside some. subst (λ s. n ≤ length s) whole inside;
          no_blank = ap opens_blank whole ∙ negated _ apart.0;
          no_block = ap opens_block whole ∙ negated _ comments.0;
          no_line = ap opens_line whole ∙ negated _ comments.1;
        },
        refl,
      ),
      found.1,
    )

-- and what is cut into one token, which is no stray, is of its kind
pub class_of-one_token : (text : List Spelled) (kind : PpKind) → IsOneToken text kind → class_of (bytes_of text) ≡ Some kind
unfolding CutsTo
class_of-one_token text kind one =
    class_of-without (bytes_of text) ∙ ap without_stray one.0.2.kind_is ∙ keeps kind one.1
