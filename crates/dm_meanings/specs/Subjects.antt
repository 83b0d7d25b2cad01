-- A definition, with what is looked up of it in a unit.
--     IsSubject definition reading subject      the names of its parameters, and where it stands among the external declarations
use Rattle.std.specs.Prelude.{◌≡◌}
use Rattle.dm_token.specs.declared.expansion.Definition.{Definition}
use Rattle.dm_macro.specs.Bodies.{named_parameters}
use Rattle.dm_reading.specs.declared.reading.Reading.{Reading}
use Rattle.dm_rules.specs.Places.{externals_behind}
use Rattle.dm_rules.specs.Words.{AreNames}
use Rattle.dm_meanings.specs.declared.capture.Subject.{Subject}

pub record IsSubject (definition : Definition) (reading : Reading) (subject : Subject) : Type 0 where
  pub names : AreNames subject.parameters (named_parameters definition.parameters)
  pub behind : subject.behind ≡ externals_behind definition reading
