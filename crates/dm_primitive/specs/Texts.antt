-- The characters of strings.
use Rattle.std.specs.Prelude.{◌≡◌, ℕ, List, [], ◌∷◌, ◌++◌, Option, Some, None, Result, Ok, Err}
use Rattle.dm_meaning.specs.declared.cause.Cause.{Cause}
use Rattle.dm_meaning.specs.declared.cause.Cause.TheVariants.{Bounds}
use Rattle.std.specs.declared.alloc.Global.{Global}
use Rattle.std.specs.declared.rc.Rc.{Rc}
use Rattle.dm_meaning.specs.Values as values
use Rattle.dm_primitive.specs.declared.text.Character.{Character}
use Rattle.dm_primitive.specs.declared.text.Character.TheVariants.{Byte, End, Refused}
use Rattle.dm_value.specs.declared.place.At.{At}
use Rattle.dm_value.specs.Places.{view_of_at}

-- a string, or why it can't be read
abbrev pub Text : Type 0
Text = Result (List ℕ) Cause

-- some characters, and those behind them
abbrev pub behind : List ℕ → Text → Text
behind bytes (Ok more) = Ok (bytes ++ more)
behind bytes (Err cause) = Err cause

-- a character, and those behind it
abbrev pub and_character : Character → Text → Text
and_character (Byte byte) later = behind (byte ∷ []) later
and_character End later = Ok []
and_character (Refused cause) later = Err cause

-- what stands at the next place, where the array goes so far
abbrev pub text_at_next : Option (Rc At Global) → (values.At → Text) → Text
text_at_next None later = Err Bounds
text_at_next (Some at) later = later (view_of_at at.value)
