-- A source file after phases 1 and 2.
use Rattle.std.specs.Prelude.{List}
use Rattle.dm_phase.specs.declared.Character.{Character}

-- its characters
pub record FlatText : Type 0 where
  pub characters : List Character
