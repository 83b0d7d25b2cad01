-- The defines of a lawful unit are tokens.
use Rattle.std.proofs.Common.{◌≡◌, ℕ, suc, ◌+◌, ◌-◌, ◌<◌, Bool, true, false, cond, ◌&&◌, ◌||◌, not, ◌⊎◌, inl, inr, List, [], ◌∷◌, ◌++◌, length, take, drop, None, Some, Result, Ok, IfErr, is_some, eqb, refl, sym, ap, ◌∙◌, subst, arith, true≢false, codes}
use Rattle.std.specs.Prelude.{nat_le, nat_eq}
use Rattle.std.specs.Cmp.Lexicographic.{pointwise}
use Rattle.std.specs.List.{AllByRecursion, list_all, list_any, ends_with, position_or_len, before_first, after_first}
use Rattle.std.proofs.lemmas.Bool.{eqb-true, lt-ltb}
use Rattle.std.proofs.lemmas.List.{take_all}
use Rattle.dm_token.specs.Bytes.{newline, question_mark, backslash}
use Rattle.dm_token.specs.Limits.{source_length_limit}
use Rattle.dm_phase.specs.declared.Character.{Character}
use Rattle.dm_phase.specs.Phases.{characters_at, flat_text, replacement}
use Rattle.dm_phase.specs.Answer.{flat_of, unless_refused}
use Rattle.dm_lex.specs.Classes.{is_nondigit, is_digit, is_word, behind, is_identifier}
use Rattle.dm_lex.specs.Cuts.{Piece, bytes_of, first_state, Cuts, OpensAt}
use Rattle.dm_lex.proofs.ExistLemmas.{cut_exists}
use Rattle.dm_manifest.specs.Defines.{is_equals_sign, name_length, name_of, body_of, somewhere, opens_trigraph, opens_forbidden, is_plain, line_of, line_may_stand, is_body, may_follow, is_define}
use Rattle.dm_manifest.specs.Units.{is_definable}
use Rattle.dm_manifest.proofs.Lines.{line_has_good_cut}
use Rattle.dm_unit.specs.Sources.{reading_of, tokens_of_flat, tokens_or_open}
use Rattle.dm_unit.proofs.ListLemmas.{position-here, position-later}
use Rattle.dm_defines.specs.Readable.{IsText}
use Rattle.dm_defines.proofs.CutLemmas.{bytes-at, closed-with-body, closed-alone}
use Rattle.dm_defines.proofs.PhaseLemmas.{printable, NoTrigraph, Plain, flat-plain}
use Rattle.dm_defines.proofs.WordLemmas.{both-true, apart}

-- PLAIN BYTES

-- a byte that no trigraph has, and that splices nothing
abbrev Good : ℕ → Type 0
Good byte = (printable byte ≡ true) × (eqb byte question_mark ≡ false) × (eqb byte backslash ≡ false)

no-trigraph : (a b : ℕ) (others : List ℕ) → eqb a question_mark ≡ false → NoTrigraph a b others
no-trigraph a b [] e = tt
no-trigraph a b (c ∷ others) e = ap (λ t. (t && eqb b question_mark) && is_some (replacement c)) e

plain-before : (xs ys : List ℕ) → AllByRecursion Good xs → Plain ys → Plain (xs ++ ys)
plain-before [] ys good plain = plain
plain-before (a ∷ []) [] good plain = absurd plain
plain-before (a ∷ []) (b ∷ ys) good plain = (good.0.0, no-trigraph a b ys good.0.1, plain)
plain-before (a ∷ b ∷ xs) ys good plain = (good.0.0, no-trigraph a b (xs ++ ys) good.0.1, plain-before (b ∷ xs) ys good.1 plain)

plain-good : (a : ℕ) (xs : List ℕ) → AllByRecursion Good (a ∷ xs) → Plain (a ∷ xs)
plain-good a [] good = (good.0.0, good.0.2)
plain-good a (b ∷ xs) good = (good.0.0, no-trigraph a b xs good.0.1, plain-good b xs good.1)

word-printable : (byte : ℕ) → is_word byte ≡ true → printable byte ≡ true
unfolding is_word is_nondigit is_digit
word-printable byte w = grind (arith, w)

word-good : (byte : ℕ) → is_word byte ≡ true → Good byte
unfolding is_word is_nondigit is_digit
word-good byte w = (word-printable byte w, apart is_word byte question_mark w refl, apart is_word byte backslash w refl)

all-good : (xs : List ℕ) → list_all is_word xs ≡ true → AllByRecursion Good xs
all-good [] all = tt
all-good (x ∷ xs) all = let parts = both-true (is_word x) (list_all is_word xs) all in (word-good x parts.0, all-good xs parts.1)

nondigit-word : (a : ℕ) → is_nondigit a ≡ true → is_word a ≡ true
unfolding is_word
nondigit-word a n = rw n refl

name-good : (name : List ℕ) → is_identifier name ≡ true → AllByRecursion Good name
unfolding is_identifier behind
name-good [] is = absurd (true≢false (sym is))
name-good (a ∷ more) is = let parts = both-true (is_nondigit a) (list_all is_word more) is in (word-good a (nondigit-word a parts.0), all-good more parts.1)

name-plain : (name : List ℕ) → is_identifier name ≡ true → Plain name
unfolding is_identifier behind
name-plain [] is = absurd (true≢false (sym is))
name-plain (a ∷ more) is = plain-good a more (name-good (a ∷ more) is)

or-left : (a b : Bool) → (a || b) ≡ false → a ≡ false
or-left true b e = e
or-left false b e = refl

or-right : (a b : Bool) → (a || b) ≡ false → b ≡ false
or-right true b e = absurd (true≢false e)
or-right false b e = e

not-false : (a : Bool) → not a ≡ true → a ≡ false
not-false true e = absurd (true≢false (sym e))
not-false false e = refl

triple : (a b : ℕ) (others : List ℕ) → opens_trigraph (a ∷ b ∷ others) ≡ false → NoTrigraph a b others
triple a b [] e = tt
triple a b (c ∷ others) e = e

-- a body that is plain as the manifest says
body-plain : (a : ℕ) (others : List ℕ) → list_all printable (a ∷ others) ≡ true → somewhere opens_forbidden (a ∷ others) ≡ false → ends_with nat_eq (a ∷ others) (codes "\\") ≡ false → Plain (a ∷ others)
unfolding somewhere opens_forbidden
body-plain a [] all none ends = ((both-true (printable a) true all).0, by (eqb a backslash) refl)
  where
    by : (t : Bool) → eqb a backslash ≡ t → t ≡ false
    by true e = absurd (true≢false (sym (ap (λ b. ends_with nat_eq (b ∷ []) (codes "\\")) (eqb-true a backslash e)) ∙ ends))
    by false e = refl
body-plain a (b ∷ others) all none ends =
    let parts = both-true (printable a) (list_all printable (b ∷ others)) all in
    let shorter : suc (length (b ∷ others) - 1) ≡ length (a ∷ b ∷ others) - 1 = omega arith in (
      parts.0,
      triple a b others (or-right _ _ (or-left _ _ none)),
      body-plain b others parts.1 (or-right _ _ none) (ap (λ k. pointwise nat_eq (codes "\\") (drop k (a ∷ b ∷ others))) shorter ∙ ends),
    )

is-plain : (a : ℕ) (others : List ℕ) → is_plain (a ∷ others) ≡ true → Plain (a ∷ others)
unfolding is_plain
is-plain a others is =
    let last = both-true (list_all printable (a ∷ others) && not (somewhere opens_forbidden (a ∷ others))) (not (ends_with nat_eq (a ∷ others) (codes "\\"))) is in
    let first = both-true (list_all printable (a ∷ others)) (not (somewhere opens_forbidden (a ∷ others))) last.0 in
    body-plain a others first.0 (not-false _ first.1) (not-false _ last.1)

spaced-plain : (body : List ℕ) → is_plain body ≡ true → Plain (32 ∷ body)
spaced-plain [] is = (refl, refl)
spaced-plain (a ∷ others) is = (refl, no-trigraph 32 a others refl, is-plain a others is)

-- READING

reads : (main : ℕ) (bytes : List ℕ) (text : List Character) → flat_text bytes ≡ Ok text → ((pieces : List Piece) (left : List Character) → OpensAt first_state pieces text left → ⊥) → IfErr (reading_of main bytes) (λ refusal. ⊥)
unfolding reading_of flat_of
reads main bytes text is closed = subst (λ flat. IfErr (tokens_of_flat main bytes (unless_refused main bytes flat)) (λ refusal. ⊥)) (sym is) (by (cut_exists first_state text))
  where
    by : (found : ((pieces : List Piece) × Cuts first_state pieces text) ⊎ ((pieces : List Piece) × (left : List Character) × OpensAt first_state pieces text left)) → IfErr (tokens_or_open main bytes text found) (λ refusal. ⊥)
    by (inl cut) = tt
    by (inr opening) = closed opening.0 opening.1 opening.2

alone-reads : (main : ℕ) (name : List ℕ) → is_identifier name ≡ true → IfErr (reading_of main name) (λ refusal. ⊥)
alone-reads main name is =
    let flat = flat-plain name (name-plain name is) in
    reads main name (characters_at 0 name ++ flat.0 ∷ []) flat.2 (λ pieces left. closed-alone name (characters_at 0 name ++ flat.0 ∷ []) pieces left is (bytes-at 0 name flat.0 flat.1))

define-good : AllByRecursion Good (codes "#define N")
define-good = ((refl, refl, refl), ((refl, refl, refl), ((refl, refl, refl), ((refl, refl, refl), ((refl, refl, refl), ((refl, refl, refl), ((refl, refl, refl), ((refl, refl, refl), ((refl, refl, refl), tt)))))))))

ok-is : (one other : List Character) → ◌≡◌ {A = Result (List Character) Character} (Ok one) (Ok other) → one ≡ other
ok-is one other e = cc

same-end : (name rest : List ℕ) → (name ++ 32 ∷ rest) ++ newline ∷ [] ≡ name ++ 32 ∷ (rest ++ newline ∷ [])
same-end [] rest = refl
same-end (a ∷ name) rest = ap (λ bytes. a ∷ bytes) (same-end name rest)

body-reads : (main : ℕ) (name body : List ℕ) → is_identifier name ≡ true → is_body body ≡ true → IfErr (reading_of main (name ++ 32 ∷ body)) (λ refusal. ⊥)
unfolding is_body
body-reads main name body is is_one =
    let last = both-true (is_plain body && nat_le (length (line_of body)) source_length_limit) (line_may_stand (line_of body)) is_one in
    let first = both-true (is_plain body) (nat_le (length (line_of body)) source_length_limit) last.0 in
    let spaced = spaced-plain body first.0 in
    let flat = flat-plain (name ++ 32 ∷ body) (plain-before name (32 ∷ body) (name-good name is) spaced) in
    let line = flat-plain (codes "#define N" ++ 32 ∷ body) (plain-before (codes "#define N") (32 ∷ body) define-good spaced) in
    let good = line_has_good_cut (line_of body) last.1 in
    let whole = characters_at 0 (name ++ 32 ∷ body) ++ flat.0 ∷ [] in
    let same : good.0 ≡ characters_at 0 (codes "#define N" ++ 32 ∷ body) ++ line.0 ∷ [] = ok-is good.0 _ (sym good.2 ∙ line.2) in
    reads main (name ++ 32 ∷ body) whole flat.2 (λ pieces left.
    closed-with-body name body whole good.0 pieces good.1 left is (bytes-at 0 (name ++ 32 ∷ body) flat.0 flat.1 ∙ same-end name body)
    (ap bytes_of same ∙ bytes-at 0 (codes "#define N" ++ 32 ∷ body) line.0 line.1) good.3)

-- A DEFINE

eq-inside : (xs : List ℕ) → list_any is_equals_sign xs ≡ true → position_or_len is_equals_sign xs < length xs
eq-inside [] e = absurd (true≢false (sym e))
eq-inside (x ∷ xs) e = by (is_equals_sign x) refl e (eq-inside xs)
  where
    by : (t : Bool) → is_equals_sign x ≡ t → (t || list_any is_equals_sign xs) ≡ true → (list_any is_equals_sign xs ≡ true → position_or_len is_equals_sign xs < length xs)
        → position_or_len is_equals_sign (x ∷ xs) < length (x ∷ xs)
    by true h e next = let here = position-here is_equals_sign x xs h in omega (arith, here)
    by false h e next = let later = position-later is_equals_sign x xs h in let more = next e in omega (arith, later, more)

eq-outside : (xs : List ℕ) → list_any is_equals_sign xs ≡ false → position_or_len is_equals_sign xs ≡ length xs
eq-outside [] e = refl
eq-outside (x ∷ xs) e =
    let none = or-left (is_equals_sign x) (list_any is_equals_sign xs) e in
    let more = eq-outside xs (or-right (is_equals_sign x) (list_any is_equals_sign xs) e) in
    let later = position-later is_equals_sign x xs none in omega (arith, later, more)

define-reads : (define : List ℕ) → is_define define ≡ true → IsText define
unfolding is_define
define-reads define is main = by (list_any is_equals_sign define) refl
  where
    last : (nat_le (length define) source_length_limit && is_identifier (name_of define) ≡ true) × (may_follow (body_of define) ≡ true)
    last = both-true (nat_le (length define) source_length_limit && is_identifier (name_of define)) (may_follow (body_of define)) is

    named : is_identifier (name_of define) ≡ true
    named = (both-true (nat_le (length define) source_length_limit) (is_identifier (name_of define)) last.0).1

    by : (t : Bool) → list_any is_equals_sign define ≡ t
        → IfErr (reading_of main (cond t (before_first is_equals_sign define ++ 32 ∷ after_first is_equals_sign define) define)) (λ refusal. ⊥)
    by true e =
        body-reads main (name_of define) (after_first is_equals_sign define) named
        (ap (λ t. may_follow (cond t (Some (drop (name_length define + 1) define)) None)) (sym (lt-ltb (name_length define) (length define) (eq-inside define e))) ∙ last.1)
    by false e = alone-reads main define (subst (λ name. is_identifier name ≡ true) (ap (λ n. take n define) (eq-outside define e) ∙ take_all (length define) define (omega arith)) named)

pub all-texts : (defines : List (List ℕ)) → list_all is_definable defines ≡ true → AllByRecursion IsText defines
all-texts [] all = tt
all-texts (define ∷ defines) all =
    let parts = both-true (is_definable define) (list_all is_definable defines) all in
    (define-reads define (both-true (is_define define) _ parts.0).0, all-texts defines parts.1)
