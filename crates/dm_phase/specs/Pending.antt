-- Phase 2 at the front of what is left of a text.
use Rattle.std.specs.Prelude.{◌≡◌, Bool, true, false, List, [], ◌∷◌, ◌++◌, Option, Some, None, Result, Ok, Err}
use Rattle.dm_phase.specs.declared.Character.{Character}
use Rattle.dm_phase.specs.Phases.{is_splice}

-- A text by its first character and the others; without a first it is empty.
abbrev pub text_of : Option Character → List Character → List Character
text_of None others = []
text_of (Some first) others = first ∷ others

-- Whether a character is a backslash, and a newline is the first of those behind it.
unfoldable pub begins_splice : Character → List Character → Bool
begins_splice character [] = false
begins_splice character (next ∷ others) = is_splice character next

-- What is left behind a character: without the newline where the two are a splice.
abbrev pub Splices : Character → List Character → Bool → List Character → Type 0
Splices character text true left = (next : Character) × (is_splice character next ≡ true) × (text ≡ next ∷ left)
Splices character text false left = (begins_splice character text ≡ false) × (text ≡ left)

-- A text behind others.
abbrev pub behind : List Character → Result (List Character) Character → Result (List Character) Character
behind before (Ok text) = Ok (before ++ text)
behind before (Err backslash) = Err backslash
