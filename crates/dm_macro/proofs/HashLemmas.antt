-- The first `#` of a body that isn't followed by a parameter.
use Rattle.std.proofs.Common.{◌≡◌, ℕ, zero, suc, ◌+◌, ◌<◌, Bool, true, false, cond, not, ◌&&◌, ◌||◌, List, [], ◌∷◌, length, get_or, drop, None, Some, refl, sym, ap, ◌∙◌, slice_get, bytes_eq, add-one, drop-cons}
use Rattle.std.specs.List.{list_any}
use Rattle.std.specs.Option.{option_map_or}
use Rattle.std.proofs.lemmas.Bool.{false≢true}
use Rattle.dm_token.specs.declared.token.PpToken.{PpToken}
use Rattle.dm_macro.specs.Signs.{is_hash, is_identifier, variable_arguments}
use Rattle.dm_macro.specs.Forms.{is_parameter, hash_not_before}
use Rattle.dm_macro.specs.NameSets.{NameSet, has_name, HasNamesOf}

first_left : (tokens : List PpToken) (i : ℕ) → slice_get (drop i tokens) 0 ≡ slice_get tokens i
first_left [] zero = refl
first_left [] (suc i) = refl
first_left (token ∷ tokens) zero = refl
first_left (token ∷ tokens) (suc i) = first_left tokens i

-- one more token
pub hash_step : (test : PpToken → Bool) (body : List PpToken) (i : ℕ) (token : PpToken) → i < length body → token ≡ get_or body i token
    → hash_not_before test (drop i body)
    ≡ cond (is_hash token && not (option_map_or test (slice_get body (i + 1)) false)) (Some token) (hash_not_before test (drop (i + 1) body))
hash_step test body i token lt is =
    whole
    ∙ (λ j. cond (is_hash (sym is j) && not (option_map_or test (first_left body (i + 1) j) false)) (Some (sym is j)) (hash_not_before test (drop (i + 1) body)))
  where
    whole : hash_not_before test (drop i body) ≡ hash_not_before test (get_or body i token ∷ drop (i + 1) body)
    whole = rw (add-one i, drop-cons body i token lt)

neither : (a b : Bool) → (a || b) ≡ false → (a ≡ false) × (b ≡ false)
neither true b e = absurd (false≢true (sym e))
neither false b e = (refl, e)

-- a body without `#` has none that lacks its parameter
pub no_hash : (test : PpToken → Bool) (body : List PpToken) → list_any is_hash body ≡ false → hash_not_before test body ≡ None
no_hash test [] e = refl
no_hash test (token ∷ body) e =
    let parts = neither (is_hash token) (list_any is_hash body) e in
    ap (λ b. cond (b && not (option_map_or test (slice_get body 0) false)) (Some token) (hash_not_before test body)) parts.0 ∙ no_hash test body parts.1

-- a set of names tells a parameter as the list does
pub set_tells : (names : List (List ℕ)) (set : NameSet) (variadic : Bool) (body : List PpToken) → HasNamesOf names set
    → hash_not_before (is_parameter (has_name set) variadic) body ≡ hash_not_before (is_parameter (λ name. list_any (bytes_eq name) names) variadic) body
set_tells names set variadic body same =
    λ i. hash_not_before (λ token. is_identifier token && (same token.spelling i || (variadic && bytes_eq token.spelling variable_arguments))) body

-- the token there is the first one
pub stops_there : (test : PpToken → Bool) (body : List PpToken) (i : ℕ) (token : PpToken) → i < length body → token ≡ get_or body i token
    → is_hash token ≡ true → option_map_or test (slice_get body (i + 1)) false ≡ false → hash_not_before test (drop i body) ≡ Some token
stops_there test body i token lt is hash lacks =
    hash_step test body i token lt is ∙ (λ j. cond (hash j && not (lacks j)) (Some token) (hash_not_before test (drop (i + 1) body)))

-- the token there isn't
pub goes_on_other : (test : PpToken → Bool) (body : List PpToken) (i : ℕ) (token : PpToken) → i < length body → token ≡ get_or body i token
    → is_hash token ≡ false → hash_not_before test (drop i body) ≡ hash_not_before test (drop (i + 1) body)
goes_on_other test body i token lt is hash =
    hash_step test body i token lt is ∙ (λ j. cond (hash j && not (option_map_or test (slice_get body (i + 1)) false)) (Some token) (hash_not_before test (drop (i + 1) body)))

pub goes_on_parameter : (test : PpToken → Bool) (body : List PpToken) (i : ℕ) (token : PpToken) → i < length body → token ≡ get_or body i token
    → option_map_or test (slice_get body (i + 1)) false ≡ true → hash_not_before test (drop i body) ≡ hash_not_before test (drop (i + 1) body)
goes_on_parameter test body i token lt is has =
    hash_step test body i token lt is
    ∙ (λ j. cond (is_hash token && not (has j)) (Some token) (hash_not_before test (drop (i + 1) body)))
    ∙ never (is_hash token)
  where
    never : (b : Bool) → cond (b && false) (Some token) (hash_not_before test (drop (i + 1) body)) ≡ hash_not_before test (drop (i + 1) body)
    never true = refl
    never false = refl
