-- What a reader of a file has left.
use Rattle.std.specs.Prelude.{ℕ, ◌+◌, List, length}
use Rattle.dm_phase.specs.declared.Character.{Character}
use Rattle.dm_phase.specs.declared.reader.Reader.{Reader}
use Rattle.dm_phase.specs.Front.{unread_after_phase_1}

-- The text that is left, after phase 1.
abbrev pub left : Reader → List Character
left reader = unread_after_phase_1 reader.has_ended reader.at reader.rest.now

-- The offset at which the file ends.
abbrev pub end_of : Reader → ℕ
end_of reader = reader.at + length reader.rest.now
