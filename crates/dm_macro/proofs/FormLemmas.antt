-- The parts of a line.
use Rattle.std.proofs.Common.{◌≡◌, ℕ, ◌+◌, ◌<◌, Bool, true, false, cond, not, ◌&&◌, List, [], ◌∷◌, length, get_or, refl, sym, ap, ◌∙◌, subst, arith, slice_get}
use Rattle.std.specs.List.{position_or_len}
use Rattle.std.specs.Option.{option_map_or}
use Rattle.std.proofs.lemmas.Bool.{false≢true}
use Rattle.std.proofs.lemmas.Option.{slice_get-get_or}
use Rattle.dm_token.specs.declared.token.PpToken.{PpToken}
use Rattle.dm_spell.specs.Punctuators.{left_parenthesis, right_parenthesis}
use Rattle.dm_macro.specs.Signs.{is_row, is_right_parenthesis, is_punctuator}
use Rattle.dm_macro.specs.Forms.{is_function_like}
use Rattle.dm_macro.proofs.Listings.{row_is}

left : (a b : Bool) → (a && b) ≡ true → a ≡ true
left true b e = refl
left false b e = e

-- a `(` is no `)`
not_closing : (token : PpToken) → is_punctuator left_parenthesis token ≡ true → is_right_parenthesis token ≡ false
not_closing token e = ap (is_row right_parenthesis) (row_is left_parenthesis token.kind e)

-- where a `(` comes first, the first `)` is behind it
pub opened_first : (behind : List PpToken) → is_function_like behind ≡ true → 0 < position_or_len is_right_parenthesis behind
opened_first [] e = absurd (false≢true e)
opened_first (token ∷ others) e =
    let none = not_closing token (left (is_punctuator left_parenthesis token) (not token.blank_before) e) in
    subst (λ b. 0 < cond (not b) (1 + position_or_len is_right_parenthesis others) 0) (sym none) (omega arith)

-- a test of what stands at a position
pub tested_at : (test : PpToken → Bool) (tokens : List PpToken) (i : ℕ) (token : PpToken) → i < length tokens → token ≡ get_or tokens i token
    → option_map_or test (slice_get tokens i) false ≡ test token
tested_at test tokens i token lt is = ap (λ found. option_map_or test found false) (slice_get-get_or tokens i token lt) ∙ ap test (sym is)
