-- The characters that a cursor has left.
use Rattle.std.specs.Prelude.{◌+◌, ◌-◌, ◌<◌, ◌^◌, List, length}
use Rattle.dm_phase.specs.declared.Character.{Character}
use Rattle.dm_phase.specs.declared.cursor.Cursor.{Cursor}
use Rattle.dm_phase.specs.Positions.{InOrder}
use Rattle.dm_phase.specs.Sparse.{characters_from}

-- the characters
abbrev pub ahead : Cursor → List Character
ahead cursor = characters_from cursor.index cursor.at cursor.jumps.now cursor.rest.now

-- They stand in order, and their numbers and offsets are numbers of the machine.
pub record IsSound (cursor : Cursor) : Type 0 where
  pub small : cursor.index + length cursor.rest.now < 2 ^ 64
  pub fits : cursor.at < 2 ^ 32
  pub order : InOrder 0 (2 ^ 32 - 1) (ahead cursor)
