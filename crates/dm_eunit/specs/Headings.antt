-- What the code has on the way through the declarator of a function definition, as the definition has it.
--     begun_over later begun      its steps so far, with what its own parameters declare
--     headed_over later heading      what it says
use Rattle.std.specs.Prelude.{List}
use Rattle.std.specs.FinMap as finite
use Rattle.dm_type.specs.declared.shape.Shape.{Shape}
use Rattle.dm_type.specs.Tables.{Table, IsId}
use Rattle.dm_typing.specs.Views.{type_over}
use Rattle.dm_edeclarator.specs.Steps.{steps_over, StepsFit}
use Rattle.dm_eunit.specs.declared.heading.Begun.{Begun as BegunHeld}
use Rattle.dm_eunit.specs.declared.heading.Heading.{Heading as HeadingHeld}
use Rattle.dm_eunit.specs.Naming.{with_names}
use Rattle.dm_eunit.specs.Parts.{Begun, Headed}

abbrev pub begun_over : List Shape → BegunHeld → Begun
begun_over later begun = record {
  steps = steps_over later begun.steps;
  numbers = begun.own.numbers;
  scope = with_names finite.empty begun.own.names.items;
}

abbrev pub BegunFits : Table → BegunHeld → Type 0
BegunFits types begun = StepsFit types begun.steps

abbrev pub headed_over : List Shape → HeadingHeld → Headed
headed_over later heading = record {
  kind = type_over later heading.kind;
  numbers = heading.own.numbers;
  scope = with_names finite.empty heading.own.names.items;
}

abbrev pub HeadedFits : Table → HeadingHeld → Type 0
HeadedFits types heading = IsId types heading.kind
