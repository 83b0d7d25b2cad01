-- The arguments of an invocation of a function-like macro (6.10.3p4, p10 to p12).
use Rattle.std.specs.Prelude.{ℕ, zero, suc, Bool, ◌-◌, ◌&&◌, ◌==◌, nat_lt, List, [], ◌∷◌, ◌++◌, length, Option, Some, None, if◌then◌else◌}
use Rattle.dm_token.specs.declared.expansion.Definition.{Definition}
use Rattle.dm_spell.specs.Punctuators.{left_parenthesis, right_parenthesis, comma}
use Rattle.dm_macro.specs.Signs.{is_punctuator}
use Rattle.dm_macro.specs.Bodies.{named_parameters}
use Rattle.dm_expand.specs.Items.{Item}

-- parentheses and commas
unfoldable pub opens : Item → Bool
opens item = is_punctuator left_parenthesis item.pp

unfoldable pub closes : Item → Bool
closes item = is_punctuator right_parenthesis item.pp

unfoldable pub separates : Item → Bool
separates item = is_punctuator comma item.pp

-- what stands between a `(` and its closing `)`, that `)`, and what follows it
pub record Enclosed : Type 0 where
  pub inside : List Item
  pub closing : Item
  pub rest : List Item

-- one token more inside
unfoldable pub inside_too : Item → Option Enclosed → Option Enclosed
inside_too item None = None
inside_too item (Some enclosed) = Some (record enclosed { inside = item ∷ enclosed.inside })

-- the depth behind a token, among parentheses
unfoldable pub depth_behind : ℕ → Item → ℕ
depth_behind depth item = if opens item then suc depth else if closes item then depth - 1 else depth

-- what is enclosed, behind a `(` and so many `(` more that are still open
unfoldable pub enclosed_in : ℕ → List Item → Option Enclosed
enclosed_in depth [] = None
enclosed_in depth (item ∷ others) =
    if closes item && (depth == 0) then Some (record { inside = []; closing = item; rest = others })
    else inside_too item (enclosed_in (depth_behind depth item) others)

-- one token more in the first argument
unfoldable pub in_first : Item → List (List Item) → List (List Item)
in_first item [] = (item ∷ []) ∷ []
in_first item (argument ∷ arguments) = (item ∷ argument) ∷ arguments

-- the tokens between the commas that no inner parentheses enclose, up to so many commas; what stands behind these is
-- one argument, commas included
unfoldable pub separated : ℕ → ℕ → List Item → List (List Item)
separated commas depth [] = [] ∷ []
separated commas depth (item ∷ others) =
    if separates item && (depth == 0) && nat_lt 0 commas then [] ∷ separated (commas - 1) depth others
    else in_first item (separated commas (depth_behind depth item) others)

-- the arguments of a macro with so many parameters: as many as parameters, where `()` has none for a macro without
unfoldable pub exact_arguments : ℕ → List (List Item) → Option (List (List Item))
exact_arguments zero ([] ∷ []) = Some []
exact_arguments zero given = None
exact_arguments (suc others) given = if length given == suc others then Some given else None

-- the same where the parameters end in `...`: the variable arguments come last, and are empty where there are none
unfoldable pub variadic_arguments : ℕ → List (List Item) → Option (List (List Item))
variadic_arguments parameters given =
    if length given == parameters then Some (given ++ [] ∷ [])
    else if length given == suc parameters then Some given
    else None

-- the arguments that an invocation gives, or `None` where their number is wrong
unfoldable pub arguments_of : Definition → List Item → Option (List (List Item))
arguments_of definition inside =
    let parameters = length (named_parameters definition.parameters) in
    if definition.variadic
    then variadic_arguments parameters (separated parameters 0 inside)
    else exact_arguments parameters (separated parameters 0 inside)
