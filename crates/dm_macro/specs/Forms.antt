-- A `define` directive as a line of tokens, `#`, `define`, the macro's name and the tokens behind that (6.10.3).
--     is_function_like behind, parameters_of behind, is_variadic behind, replacement_list behind      the parts of what stands behind the name
--     definition_of hash name behind origin plain      the definition that these parts make
--     IsAllowed name behind      the form and the constraints whose breach is refusal 5
--     Gives line origin plain definition      the line is allowed, and this is its definition
--     bare_hash definition      the first `#` of the body that lacks its parameter, for which refusal 11 comes
--     AreSame one other      the two definitions are the same macro, else refusal 12 comes
use Rattle.std.specs.Prelude.{◌≡◌, ℕ, Bool, true, false, not, ◌&&◌, ◌||◌, ◌-◌, if◌then◌else◌, List, [], ◌∷◌, ◌++◌, map, length, drop, replicate, filter, find, flat_map, Option, None, Some, IsTrue, MatchBool, bytes_eq, slice_get}
use Rattle.std.specs.List.{list_any, before_first, after_first, IsDistinct}
use Rattle.std.specs.Option.{option_map_or}
use Rattle.dm_token.specs.declared.token.PpKind.{PpKind}
use Rattle.dm_token.specs.declared.token.PpKind.TheVariants.{Identifier, Punctuator}
use Rattle.dm_token.specs.declared.token.PpToken.{PpToken}
use Rattle.dm_token.specs.declared.place.Place.{Place}
use Rattle.dm_token.specs.declared.stop.Stop.{Stop}
use Rattle.dm_token.specs.declared.stop.Stop.TheVariants.{Refused}
use Rattle.dm_token.specs.declared.expansion.Origin.{Origin}
use Rattle.dm_token.specs.declared.expansion.Definition.{Definition}
use Rattle.dm_spell.specs.Punctuators.{left_parenthesis, comma, ellipsis}
use Rattle.dm_macro.specs.Signs.{is_punctuator, is_right_parenthesis, is_ellipsis, is_hash, is_hash_hash, is_identifier, is_word, is_macro_name, variable_arguments}

-- THE PARTS BEHIND THE NAME

-- whether the macro is function-like: the next token is a `(` that no white space precedes (6.10.3p10, 6.10p1)
abbrev pub is_function_like : List PpToken → Bool
is_function_like [] = false
is_function_like (token ∷ others) = is_punctuator left_parenthesis token && not token.blank_before

-- the tokens between the `(` and the first `)`
abbrev pub listed : List PpToken → List PpToken
listed behind = drop 1 (before_first is_right_parenthesis behind)

-- the names in a parameter list, in order
abbrev pub names_in : List PpToken → List (List ℕ)
names_in tokens = map (λ token. token.spelling) (filter is_identifier tokens)

-- whether there is a `...` among tokens
abbrev pub has_ellipsis : List PpToken → Bool
has_ellipsis tokens = list_any is_ellipsis tokens

-- the parameters' names, where there is a parameter list
abbrev pub parameters_of : List PpToken → Option (List (List ℕ))
parameters_of behind = if is_function_like behind then Some (names_in (listed behind)) else None

-- whether the parameter list has a `...`
abbrev pub is_variadic : List PpToken → Bool
is_variadic behind = is_function_like behind && has_ellipsis (listed behind)

-- the replacement list (6.10.3p9, p10)
abbrev pub replacement_list : List PpToken → List PpToken
replacement_list behind = if is_function_like behind then after_first is_right_parenthesis behind else behind

-- the offset after the `)` of the parameter list, or after the name where there is none
abbrev pub head_end_of : PpToken → List PpToken → ℕ
head_end_of name behind =
    if is_function_like behind then option_map_or (λ token. token.end) (find is_right_parenthesis behind) name.end else name.end

-- the definition that a directive's `#`, its name and the tokens behind that make
abbrev pub definition_of : PpToken → PpToken → List PpToken → Origin → Bool → Definition
definition_of hash name behind origin plain =
    record {
      name = name.spelling;
      parameters = parameters_of behind;
      variadic = is_variadic behind;
      body = replacement_list behind;
      origin = origin;
      place = name.place;
      hash = hash.place.byte;
      head_end = head_end_of name behind;
      head_plain = plain;
    }

-- THE FORM

-- items with commas between them
abbrev pub separated : List PpKind → List PpKind
separated [] = []
separated (item ∷ others) = item ∷ flat_map (λ other. Punctuator comma ∷ other ∷ []) others

-- These are the tokens of a parameter list: its names, and then the `...` if there is one, with commas between them
-- (6.10p1, 6.10.3p10).
abbrev pub IsParameterList : List PpToken → Type 0
IsParameterList tokens =
    map (λ token. token.kind) tokens
    ≡ separated (replicate (length (names_in tokens)) Identifier ++ (if has_ellipsis tokens then Punctuator ellipsis ∷ [] else []))

-- whether `__VA_ARGS__` is among names
abbrev pub has_variable_arguments : List (List ℕ) → Bool
has_variable_arguments names = list_any (λ name. bytes_eq name variable_arguments) names

-- What stands behind a function-like macro's name begins with a parameter list, whose names differ (6.10.3p6) and aren't
-- `__VA_ARGS__` (6.10.3p5).
abbrev pub HasParameterList : List PpToken → Type 0
HasParameterList behind =
    (list_any is_right_parenthesis behind ≡ true) × IsParameterList (listed behind)
    × IsDistinct bytes_eq (names_in (listed behind)) × (has_variable_arguments (names_in (listed behind)) ≡ false)

-- whether white space stands before the body (6.10.3p3)
abbrev pub is_set_off : List PpToken → Bool
is_set_off [] = true
is_set_off (token ∷ others) = token.blank_before

-- whether a replacement list has a `##` at one of its ends
abbrev pub has_paste_at_an_end : List PpToken → Bool
has_paste_at_an_end body =
    option_map_or is_hash_hash (slice_get body 0) false || option_map_or is_hash_hash (slice_get body (length body - 1)) false

-- whether a replacement list has the token `__VA_ARGS__`
abbrev pub uses_variable_arguments : List PpToken → Bool
uses_variable_arguments body = list_any (is_word variable_arguments) body

-- whether a replacement list has no `##` at either end (6.10.3.3p1), and `__VA_ARGS__` only in a variadic macro (6.10.3p5)
abbrev pub is_body : Bool → List PpToken → Bool
is_body variadic body = not (has_paste_at_an_end body) && (variadic || not (uses_variable_arguments body))

-- What stands behind the name begins with a parameter list, or with white space.
abbrev pub HasHead : List PpToken → Type 0
HasHead behind = MatchBool (is_function_like behind) (HasParameterList behind) (IsTrue (is_set_off behind))

-- The form and the constraints of 6.10.3, apart from those on `#` and on a second definition.
abbrev pub IsAllowed : PpToken → List PpToken → Type 0
IsAllowed name behind =
    IsTrue (is_macro_name name) × HasHead behind × IsTrue (is_body (is_variadic behind) (replacement_list behind))

-- A directive's line, from its `#`, is allowed and gives this definition.
abbrev pub Gives : List PpToken → Origin → Bool → Definition → Type 0
Gives (hash ∷ directive ∷ name ∷ behind) origin plain definition =
    IsAllowed name behind × (definition ≡ definition_of hash name behind origin plain)
Gives (hash ∷ directive ∷ []) origin plain definition = ⊥
Gives (hash ∷ []) origin plain definition = ⊥
Gives [] origin plain definition = ⊥

-- THE OPERATOR `#`

-- whether a token is a parameter in the body of a macro that has such names; `__VA_ARGS__` counts as one in a variadic
-- macro (6.10.3.1p2)
abbrev pub is_parameter : (List ℕ → Bool) → Bool → PpToken → Bool
is_parameter has variadic token =
    is_identifier token && (has token.spelling || (variadic && bytes_eq token.spelling variable_arguments))

-- the first `#` that isn't followed by what passes a test
abbrev pub hash_not_before : (PpToken → Bool) → List PpToken → Option PpToken
hash_not_before test [] = None
hash_not_before test (token ∷ others) =
    if is_hash token && not (option_map_or test (slice_get others 0) false) then Some token else hash_not_before test others

-- the first `#` of a function-like macro that isn't followed by a parameter (6.10.3.2p1); in an object-like macro `#` is
-- no operator
abbrev pub bare_hash : Definition → Option PpToken
bare_hash definition =
    option_map_or (λ names. hash_not_before (is_parameter (λ name. list_any (bytes_eq name) names) definition.variadic) definition.body)
    definition.parameters None

-- the stop by the refusal of this number, at a place
abbrev pub refused : ℕ → Place → Stop
refused number place = Refused (record { number = number; detail = 0; place = place })

-- THE SAME MACRO

-- Two replacement lists are identical: the same spellings in the same order, and white space between the same tokens
-- (6.10.3p1).
abbrev pub AreIdentical : List PpToken → List PpToken → Type 0
AreIdentical one other =
    (map (λ token. token.spelling) one ≡ map (λ token. token.spelling) other)
    × (map (λ token. token.blank_before) (drop 1 one) ≡ map (λ token. token.blank_before) (drop 1 other))

-- Two definitions have the same form, the same number and spelling of parameters, and identical replacement lists
-- (6.10.3p2).
abbrev pub AreSame : Definition → Definition → Type 0
AreSame one other =
    (one.parameters ≡ other.parameters) × (one.variadic ≡ other.variadic) × AreIdentical one.body other.body
