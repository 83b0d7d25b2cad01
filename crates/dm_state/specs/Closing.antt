-- What comes at the closing brace of a body.
--     closing program number      the value that the function gives there, if it may come there
use Rattle.std.specs.Prelude.{ℕ, Option, Some, None, pos, if◌then◌else◌}
use Rattle.dm_int.specs.declared.Kind.TheVariants.{Int}
use Rattle.dm_meaning.specs.Programs.{Program, declaration_of}
use Rattle.dm_meaning.specs.Statements.{type_declared}
use Rattle.dm_meaning.specs.Steps.{gives_nothing, is_main}
use Rattle.dm_meaning.specs.Values.{Value, integer_value, unset}

abbrev pub closing : Program → ℕ → Option Value
closing program number =
    if is_main (declaration_of program number) then Some (integer_value Int (pos 0))
    else if gives_nothing (type_declared program number) then Some unset
    else None
