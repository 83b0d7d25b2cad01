-- What a writer has written.
use Rattle.std.specs.Prelude.{◌≡◌, true, List}
use Rattle.dm_phase.specs.declared.Character.{Character}
use Rattle.dm_phase.specs.declared.writer.Writer.{Writer}
use Rattle.dm_phase.specs.Sparse.{characters_from, spends}

-- the characters
abbrev pub written : Writer → List Character
written writer = characters_from 0 0 writer.jumps.items writer.text.items

-- its jumps lie among the bytes, and its end is theirs
abbrev pub IsKept : Writer → Type 0
IsKept writer = spends 0 0 writer.jumps.items writer.text.items writer.end ≡ true
