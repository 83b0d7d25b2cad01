-- The functions that the machine itself has (7.21.7.8, 7.21.7.6, 7.21.7.9, 7.22.4.4), where the unit declares them with the types of the
-- built-in headers and doesn't define them. Each is one step.
--     Prim name arguments layout memory input output      what a call of one does
use Rattle.std.specs.Prelude.{ℕ, zero, suc, Bool, ◌&&◌, List, [], ◌∷◌, ◌++◌, Option, Some, None, option_map, Result, Ok, Err, bytes_eq, codes, ℤ, pos, neg_ℤ, if◌then◌else◌}
use Rattle.dm_int.specs.declared.Kind.TheVariants.{Char, UChar, Int}
use Rattle.dm_int.specs.Kinds.{bits_of}
use Rattle.dm_type.specs.CTypes.{CType, void, integer, pointer, function, const, no_types, more_types}
use Rattle.dm_type.specs.Alike.{are_compatible}
use Rattle.dm_meaning.specs.declared.cause.Cause.{Cause}
use Rattle.dm_meaning.specs.declared.cause.Cause.TheVariants.{Null, Bounds, OtherType}
use Rattle.dm_meaning.specs.Values.{At, Pointer, null, to, Value, integer_value, pointer_value}
use Rattle.dm_meaning.specs.Objects.{Layout}
use Rattle.dm_meaning.specs.Memory.{Memory, Block, contents_at, look}
use Rattle.dm_meaning.specs.Causes.{earliest, read_causes, moved_pointer}

-- what a call of one does
pub data Answer : Type 0 where
  -- it gives a value, and leaves this input and this output
  answers : Value → List ℕ → List ℕ → Answer
  -- it ends the program with this status
  stops : ℕ → Answer
  -- it is undefined
  refuses : Cause → Answer

-- what is left of a number in a byte
abbrev pub byte_in : ℤ → ℕ
byte_in number = bits_of UChar number

-- the character written, as an unsigned char (7.21.7.8p2)
abbrev pub put_character : List Value → List ℕ → List ℕ → Answer
put_character (integer_value kind number ∷ []) input output =
    answers (integer_value Int (pos (byte_in number))) input (output ++ byte_in number ∷ [])
put_character other input output = refuses OtherType

-- the next byte of the input, or EOF
abbrev pub get_character : List ℕ → List ℕ → Answer
get_character [] output = answers (integer_value Int (neg_ℤ (pos 1))) [] output
get_character (byte ∷ input) output = answers (integer_value Int (pos byte)) input output

-- one more character, where it isn't the closing 0, and those after it
abbrev pub and_text : Value → Result (List ℕ) Cause → Result (List ℕ) Cause
and_text (integer_value kind (pos zero)) later = Ok []
and_text (integer_value kind number) (Ok bytes) = Ok (byte_in number ∷ bytes)
and_text (integer_value kind number) (Err cause) = Err cause
and_text other later = Err OtherType

-- the character at a place, if it can be read, and those after it
abbrev pub unless_cause : Option Cause → Value → Result (List ℕ) Cause → Result (List ℕ) Cause
unless_cause (Some cause) character later = Err cause
unless_cause None character later = and_text character later

abbrev pub text_on : Option Pointer → (At → Result (List ℕ) Cause) → Result (List ℕ) Cause
text_on None next = Err Bounds
text_on (Some null) next = Err Bounds
text_on (Some (to at)) next = next at

-- the string that begins at a place, of at most so many characters (7.1.1p1)
abbrev pub text_at : Layout → Memory → ℕ → At → Result (List ℕ) Cause
text_at layout memory zero at = Err Bounds
text_at layout memory (suc most) at =
    unless_cause (earliest (read_causes layout memory [] (integer Char) at)) (contents_at memory at)
    (text_on (moved_pointer layout memory (integer Char) (to at) (pos 1)) (text_at layout memory most))

-- a string has no more characters than its object has bytes; that an object isn't there shows at the first one
abbrev pub most_in : Layout → Option Block → ℕ
most_in layout None = 1
most_in layout (Some block) = layout.size block.kind

abbrev pub written_line : Result (List ℕ) Cause → List ℕ → List ℕ → Answer
written_line (Ok bytes) input output = answers (integer_value Int (pos 0)) input (output ++ bytes ++ 10 ∷ [])
written_line (Err cause) input output = refuses cause

-- the string and a newline are written (7.21.7.9p2)
abbrev pub put_line : Layout → Memory → List Value → List ℕ → List ℕ → Answer
put_line layout memory (pointer_value null ∷ []) input output = refuses Null
put_line layout memory (pointer_value (to at) ∷ []) input output =
    written_line (text_at layout memory (most_in layout (look memory at.name)) at) input output
put_line layout memory other input output = refuses OtherType

-- the program ends with the status, modulo 256
abbrev pub end_program : List Value → Answer
end_program (integer_value kind number ∷ []) = stops (byte_in number)
end_program other = refuses OtherType

-- One of the functions: its name, its type, and what a call of it does.
pub record Primitive : Type 0 where
  pub name : List ℕ
  pub kind : CType
  pub meaning : Layout → Memory → List Value → List ℕ → List ℕ → Answer

-- a function of one parameter
abbrev pub of_one : CType → CType → CType
of_one result parameter = function result (more_types parameter no_types)

-- the table
abbrev pub primitives : List Primitive
primitives =
    record { name = codes "putchar"; kind = of_one (integer Int) (integer Int); meaning = λ layout memory arguments input output. put_character arguments input output } ∷
    record { name = codes "getchar"; kind = function (integer Int) no_types; meaning = λ layout memory arguments input output. get_character input output } ∷
    record { name = codes "puts"; kind = of_one (integer Int) (pointer (const (integer Char))); meaning = put_line } ∷
    record { name = codes "exit"; kind = of_one void (integer Int); meaning = λ layout memory arguments input output. end_program arguments } ∷ []

abbrev pub is_primitive : List ℕ → CType → Primitive → Bool
is_primitive name kind primitive = bytes_eq name primitive.name && are_compatible kind primitive.kind

-- the function of this name and type, if it is one of them
abbrev pub primitive_in : List Primitive → List ℕ → CType → Option Primitive
primitive_in [] name kind = None
primitive_in (first ∷ rest) name kind = if is_primitive name kind first then Some first else primitive_in rest name kind

-- What a call does, where it is a call of one of them.
abbrev pub Prim : List ℕ → CType → Layout → Memory → List Value → List ℕ → List ℕ → Option Answer
Prim name kind layout memory arguments input output = option_map (λ primitive. primitive.meaning layout memory arguments input output) (primitive_in primitives name kind)
