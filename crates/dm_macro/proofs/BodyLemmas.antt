-- The parameters of a macro, and what stands at the ends of a list.
use Rattle.std.proofs.Common.{◌≡◌, ℕ, suc, ◌+◌, ◌-◌, ◌<◌, Bool, true, false, cond, ◌&&◌, List, [], ◌∷◌, ◌++◌, length, drop, get_or, refl, sym, ap, ◌∙◌, Some, None, arith, add-zero}
use Rattle.std.specs.Prelude.{bytes_eq}
use Rattle.std.specs.List.{position_from}
use Rattle.std.proofs.lemmas.Bool.{cond-true, cond-false}
use Rattle.std.proofs.lemmas.List.{at_drop_more}
use Rattle.dm_token.specs.declared.token.PpToken.{PpToken}
use Rattle.dm_macro.specs.Signs.{is_identifier, is_word, variable_arguments}
use Rattle.dm_macro.specs.Bodies.{names_with, is_last, parameter_of}

-- what is left of a list, and its first item
pub next_is : {A B : Type 0} (whole : List A → B) (items : List A) (i : ℕ) (item : A) (all : B) → i < length items → item ≡ get_or items i item → whole (drop i items) ≡ all → whole (item ∷ drop (i + 1) items) ≡ all
next_is whole items i item all lt is before = ap (λ x. whole (x ∷ drop (i + 1) items)) is ∙ sym (at_drop_more whole items i item lt) ∙ before

-- from a position on, in the first list or else in the second
pub position_from-append : (test : List ℕ → Bool) (at : ℕ) (xs ys : List (List ℕ)) → position_from test at xs ≡ None → position_from test at (xs ++ ys) ≡ position_from test (at + length xs) ys
position_from-append test at [] ys none = ap (λ n. position_from test n ys) (sym (add-zero at))
position_from-append test at (x ∷ xs) ys none =
    elim (test x) as (λ b. cond b (Some at) (position_from test (at + 1) xs) ≡ None → cond b (Some at) (position_from test (at + 1) (xs ++ ys)) ≡ position_from test (at + suc (length xs)) ys) [
      | true ↦ λ e. cc
      | false ↦ λ e. let same : at + 1 + length xs ≡ at + suc (length xs) = omega arith in position_from-append test (at + 1) xs ys e ∙ ap (λ n. position_from test n ys) same
    ] none

pub position_from-front : (test : List ℕ → Bool) (at place : ℕ) (xs ys : List (List ℕ)) → position_from test at xs ≡ Some place → position_from test at (xs ++ ys) ≡ Some place
position_from-front test at place [] ys some = cc
position_from-front test at place (x ∷ xs) ys some =
    elim (test x) as (λ b. cond b (Some at) (position_from test (at + 1) xs) ≡ Some place → cond b (Some at) (position_from test (at + 1) (xs ++ ys)) ≡ Some place) [
      | true ↦ λ e. e
      | false ↦ λ e. position_from-front test (at + 1) place xs ys e
    ] some

-- THE PARAMETER THAT A TOKEN NAMES

-- the names behind those of the parameters
abbrev others_of : Bool → List (List ℕ)
others_of variadic = cond variadic (variable_arguments ∷ []) []

pub parameter_of-other : (names : List (List ℕ)) (pp : PpToken) → false ≡ is_identifier pp → None ≡ parameter_of names pp
unfolding parameter_of
parameter_of-other names pp other = sym (cond-false _ _ _ (sym other))

pub parameter_of-named : (names : List (List ℕ)) (variadic : Bool) (pp : PpToken) (place : ℕ) → true ≡ is_identifier pp → Some place ≡ position_from (bytes_eq pp.spelling) 0 names → Some place ≡ parameter_of (names_with names variadic) pp
unfolding parameter_of
parameter_of-named names variadic pp place identifier found =
    sym (cond-true _ _ _ (sym identifier) ∙ position_from-front (bytes_eq pp.spelling) 0 place names (others_of variadic) (sym found))

-- a name that none of the named parameters has
behind_named : (names : List (List ℕ)) (variadic : Bool) (pp : PpToken) → true ≡ is_identifier pp → None ≡ position_from (bytes_eq pp.spelling) 0 names
    → parameter_of (names_with names variadic) pp ≡ position_from (bytes_eq pp.spelling) (0 + length names) (others_of variadic)
unfolding parameter_of
behind_named names variadic pp identifier none =
    cond-true _ _ _ (sym identifier) ∙ position_from-append (bytes_eq pp.spelling) 0 names (others_of variadic) (sym none)

and_last : (a b : Bool) → true ≡ a → (a && b) ≡ b
and_last a b is = ap (λ x. x && b) (sym is)

pub parameter_of-variable : (names : List (List ℕ)) (variadic : Bool) (pp : PpToken) → true ≡ is_identifier pp → None ≡ position_from (bytes_eq pp.spelling) 0 names
    → variadic ≡ true → true ≡ is_word variable_arguments pp → Some (length names) ≡ parameter_of (names_with names variadic) pp
parameter_of-variable names variadic pp identifier none is_so word =
    let count = length names in
    let same : 0 + count ≡ count = omega arith in
    sym (behind_named names variadic pp identifier none
    ∙ ap (λ v. position_from (bytes_eq pp.spelling) (0 + count) (others_of v)) is_so
    ∙ cond-true _ _ _ (sym (and_last _ (bytes_eq pp.spelling variable_arguments) identifier) ∙ sym word)
    ∙ ap (λ (n : ℕ). Some n) same)

pub parameter_of-word : (names : List (List ℕ)) (variadic : Bool) (pp : PpToken) → true ≡ is_identifier pp → None ≡ position_from (bytes_eq pp.spelling) 0 names
    → variadic ≡ true → false ≡ is_word variable_arguments pp → None ≡ parameter_of (names_with names variadic) pp
parameter_of-word names variadic pp identifier none is_so word =
    let count = length names in
    sym (behind_named names variadic pp identifier none
    ∙ ap (λ v. position_from (bytes_eq pp.spelling) (0 + count) (others_of v)) is_so
    ∙ cond-false _ _ _ (sym (and_last _ (bytes_eq pp.spelling variable_arguments) identifier) ∙ sym word))

pub parameter_of-fixed : (names : List (List ℕ)) (variadic : Bool) (pp : PpToken) → true ≡ is_identifier pp → None ≡ position_from (bytes_eq pp.spelling) 0 names
    → variadic ≡ false → None ≡ parameter_of (names_with names variadic) pp
parameter_of-fixed names variadic pp identifier none is_so =
    let count = length names in
    sym (behind_named names variadic pp identifier none ∙ ap (λ v. position_from (bytes_eq pp.spelling) (0 + count) (others_of v)) is_so)

-- the last token, by its index
pub is_last-at : (test : PpToken → Bool) (tokens : List PpToken) (last : PpToken) → 0 < length tokens → last ≡ get_or tokens (length tokens - 1) last → is_last test tokens ≡ test last
unfolding is_last
is_last-at test [] last some is = absurd (omega arith)
is_last-at test (token ∷ []) last some is = ap test (sym is)
is_last-at test (token ∷ next ∷ others) last some is =
    let less : length (token ∷ next ∷ others) - 1 ≡ suc (length (next ∷ others) - 1) = omega arith in
    is_last-at test (next ∷ others) last (omega arith) (is ∙ ap (λ k. get_or (token ∷ next ∷ others) k last) less)

pub is_last-nothing : (test : PpToken → Bool) (tokens : List PpToken) → length tokens < 1 → false ≡ is_last test tokens
unfolding is_last
is_last-nothing test [] few = refl
is_last-nothing test (token ∷ others) few = absurd (omega arith)
