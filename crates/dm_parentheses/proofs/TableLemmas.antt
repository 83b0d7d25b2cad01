-- What is looked up in a table.
use Rattle.std.proofs.Common.{◌≡◌, ℕ, zero, suc, ◌+◌, ◌<◌, List, [], ◌∷◌, Option, None, Some, option_map, option_and_then, slice_get, length, drop, refl, sym, ap, ◌∙◌, arith}
use Rattle.std.proofs.lemmas.Option.{slice_get-map}
use Rattle.std.proofs.lemmas.List.{length-map, length-drop}
use Rattle.dm_parentheses.specs.declared.sign.Sign.{Sign}
use Rattle.dm_parentheses.specs.declared.ends.Token.{Token}
use Rattle.dm_parentheses.specs.Parentheses.{before_end}
use Rattle.dm_parentheses.specs.Table.{all_ends, signs_of, distances_of}
use Rattle.dm_parentheses.proofs.ParenthesesLemmas.{before_end-inside}

-- the table of a list has the end from each of its tokens on
all_ends-at : (signs : List Sign) (index : ℕ) → option_and_then (λ distance. distance) (slice_get (all_ends signs) index) ≡ before_end 0 (drop index signs)
unfolding all_ends before_end
all_ends-at [] zero = refl
all_ends-at [] (suc index) = refl
all_ends-at (sign ∷ others) zero = refl
all_ends-at (sign ∷ others) (suc index) = all_ends-at others index

distance-taken : (token : Option Token) → option_and_then (λ (token : Token). token.distance) token ≡ option_and_then (λ distance. distance) (option_map (λ (token : Token). token.distance) token)
distance-taken None = refl
distance-taken (Some token) = refl

-- what a table tells of a token
pub distance-is : (tokens : List Token) (signs : List Sign) (index : ℕ) → signs_of tokens ≡ signs → distances_of tokens ≡ all_ends (signs_of tokens)
    → option_and_then (λ (token : Token). token.distance) (slice_get tokens index) ≡ before_end 0 (drop index signs)
distance-is tokens signs index are is =
    distance-taken (slice_get tokens index)
    ∙ ap (option_and_then (λ distance. distance)) (sym (slice_get-map (λ token. token.distance) tokens index) ∙ ap (λ distances. slice_get distances index) is)
    ∙ all_ends-at (signs_of tokens) index
    ∙ ap (λ all. before_end 0 (drop index all)) are

-- a table has as many tokens as its list
pub tokens-length : (tokens : List Token) (signs : List Sign) → signs_of tokens ≡ signs → length signs ≡ length tokens
tokens-length tokens signs are = ap length (sym are) ∙ length-map tokens (λ (token : Token). token.sign)

-- a distance leads to a token of the list
pub distance-inside : (signs : List Sign) (index distance : ℕ) → Some distance ≡ before_end 0 (drop index signs) → index + distance < length signs
distance-inside signs index distance is =
    let inside = before_end-inside 0 (drop index signs) distance (sym is) in
    omega (arith, inside, length-drop index signs)

-- the table of one token more
pub all_ends-more : (tokens : List Token) (signs : List Sign) (token : Token) → signs_of tokens ≡ signs → distances_of tokens ≡ all_ends (signs_of tokens)
    → token.distance ≡ before_end 0 (token.sign ∷ signs) → distances_of (token ∷ tokens) ≡ all_ends (signs_of (token ∷ tokens))
unfolding all_ends
all_ends-more tokens signs token are is first =
    ap (λ distance. distance ∷ distances_of tokens) (first ∙ ap (λ all. before_end 0 (token.sign ∷ all)) (sym are))
    ∙ ap (λ distances. before_end 0 (token.sign ∷ signs_of tokens) ∷ distances) is
