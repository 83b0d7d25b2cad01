-- What calls of the machine's functions do.
use Rattle.std.specs.Prelude.{◌≡◌, ℕ, List}
use Rattle.dm_int.specs.declared.Kind.TheVariants.{Char}
use Rattle.dm_type.specs.CTypes.{integer}
use Rattle.dm_type.specs.Tables.{Table, Has}
use Rattle.dm_value.specs.Views.{view_of_value}
use Rattle.dm_meaning.specs.Memory.{Memory}
use Rattle.dm_meaning.specs.Objects.{Layout}
use Rattle.dm_meaning.specs.Primitives as primitives
use Rattle.dm_meaning.specs.Values.{Value}
use Rattle.dm_primitive.specs.declared.call.Answer.{Answer}
use Rattle.dm_primitive.specs.declared.call.Answer.TheVariants.{Gives, Stops, Refuses}
use Rattle.dm_primitive.specs.declared.primitive.Primitive.{Primitive}
use Rattle.dm_primitive.specs.declared.primitive.Primitive.TheVariants.{Putchar, Getchar, Puts, Exit}
use Rattle.dm_primitive.specs.declared.streams.Streams.{Streams}

-- what a call of one does
abbrev pub meaning_of : Primitive → Layout → Memory → List Value → List ℕ → List ℕ → primitives.Answer
meaning_of Putchar layout memory arguments input output = primitives.put_character arguments input output
meaning_of Getchar layout memory arguments input output = primitives.get_character input output
meaning_of (Puts character) layout memory arguments input output = primitives.put_line layout memory arguments input output
meaning_of Exit layout memory arguments input output = primitives.end_program arguments

-- the type that it names is char
abbrev pub IsOver : Table → Primitive → Type 0
IsOver table Putchar = Unit {0}
IsOver table Getchar = Unit {0}
IsOver table (Puts character) = Has table character (integer Char)
IsOver table Exit = Unit {0}

-- What it answers, with the input and the output that it leaves. These stay where it gives no value.
abbrev pub IsAnswer : primitives.Answer → Streams → Answer → Streams → Type 0
IsAnswer meant before (Gives value) after = meant ≡ primitives.answers (view_of_value value) after.input.now after.output
IsAnswer meant before (Stops status) after = (meant ≡ primitives.stops status) × (after ≡ before)
IsAnswer meant before (Refuses cause) after = (meant ≡ primitives.refuses cause) × (after ≡ before)
