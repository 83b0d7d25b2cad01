-- What is read behind a macro's name.
use Rattle.std.specs.Prelude.{◌≡◌, true, false, List, Option, None, Some, find}
use Rattle.std.specs.List.{list_any, after_first}
use Rattle.std.specs.Borrow.{Bor}
use Rattle.dm_token.specs.declared.token.PpToken.{PpToken}
use Rattle.dm_macro.specs.declared.form.Parts.{Parts}
use Rattle.dm_macro.specs.Signs.{is_right_parenthesis}
use Rattle.dm_macro.specs.Forms.{listed, parameters_of, is_variadic, replacement_list, head_end_of}

-- The tokens are split at the first `)`, if there is one.
abbrev pub Splits : List PpToken → Option (Bor (List PpToken) × Bor PpToken × Bor (List PpToken)) → Type 0
Splits behind None = list_any is_right_parenthesis behind ≡ false
Splits behind (Some parts) =
    (list_any is_right_parenthesis behind ≡ true) × (parts.0.now ≡ listed behind)
    × (find is_right_parenthesis behind ≡ Some parts.1.now) × (parts.2.now ≡ after_first is_right_parenthesis behind)

-- These are the parts behind a name.
abbrev pub ArePartsOf : PpToken → List PpToken → Parts → Type 0
ArePartsOf name behind parts =
    (parts.parameters ≡ parameters_of behind) × (parts.variadic ≡ is_variadic behind)
    × (parts.body.now ≡ replacement_list behind) × (parts.head_end ≡ head_end_of name behind)
