-- A text after phases 1 and 2 by its bytes and its jumps. A character at which there is no jump stands for one byte of
-- the file, directly behind what the character before it stands for.
--     characters_from index at jumps bytes      the characters of bytes
--     spends index at jumps bytes end      whether no jump lies behind the bytes, and they end at that offset
use Rattle.std.specs.Prelude.{ℕ, ◌+◌, ◌<◌, ◌≤◌, ◌⊎◌, Bool, false, ◌==◌, List, [], ◌∷◌, if◌then◌else◌}
use Rattle.dm_phase.specs.declared.Character.{Character}
use Rattle.dm_phase.specs.declared.jump.Jump.{Jump}

-- a character that stands for one byte
abbrev pub plain : ℕ → ℕ → Character
plain byte at = record { byte = byte; at = at; width = 1 }

-- a character at a jump
abbrev pub jumped : ℕ → Jump → Character
jumped byte jump = record { byte = byte; at = jump.at; width = jump.width }

-- The characters of bytes. The first has this number, and stands at this offset if there is no jump at it.
unfoldable pub characters_from : ℕ → ℕ → List Jump → List ℕ → List Character
characters_from index at jumps [] = []
characters_from index at [] (byte ∷ bytes) = plain byte at ∷ characters_from (index + 1) (at + 1) [] bytes
characters_from index at (jump ∷ jumps) (byte ∷ bytes) =
    if index == jump.index
    then jumped byte jump ∷ characters_from (index + 1) (jump.at + jump.width) jumps bytes
    else plain byte at ∷ characters_from (index + 1) (at + 1) (jump ∷ jumps) bytes

-- Whether no jump lies behind the bytes, and they end at that offset.
unfoldable pub spends : ℕ → ℕ → List Jump → List ℕ → ℕ → Bool
spends index at [] [] end = at == end
spends index at (jump ∷ jumps) [] end = false
spends index at [] (byte ∷ bytes) end = spends (index + 1) (at + 1) [] bytes end
spends index at (jump ∷ jumps) (byte ∷ bytes) end =
    if index == jump.index
    then spends (index + 1) (jump.at + jump.width) jumps bytes end
    else spends (index + 1) (at + 1) (jump ∷ jumps) bytes end

-- No jump is at the next so many characters.
abbrev pub IsClear : ℕ → ℕ → List Jump → Type 0
IsClear index count [] = Unit {0}
IsClear index count (jump ∷ jumps) = (jump.index < index) ⊎ (index + count ≤ jump.index)

-- The character of a byte that has this number.
unfoldable pub first_from : ℕ → ℕ → List Jump → ℕ → Character
first_from index at [] byte = plain byte at
first_from index at (jump ∷ jumps) byte = if index == jump.index then jumped byte jump else plain byte at

-- The jumps behind the character with this number.
unfoldable pub behind_jump : ℕ → List Jump → List Jump
behind_jump index [] = []
behind_jump index (jump ∷ jumps) = if index == jump.index then jumps else jump ∷ jumps
