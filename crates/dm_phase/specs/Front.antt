-- The next character after phase 1 at the front of what is left of a file.
use Rattle.std.specs.Prelude.{ℕ, Bool, not, ◌+◌, List, [], ◌∷◌, Option, Some, None, ◌==◌, ◌&&◌, if◌then◌else◌}
use Rattle.std.specs.Option.{option_map_or}
use Rattle.dm_token.specs.Places.{newline}
use Rattle.dm_phase.specs.declared.Character.{Character}
use Rattle.dm_phase.specs.Phases.{backslash, carriage_return, question_mark, joined, replaced, replacement}

-- The length of the mark for UTF-8 at the front of bytes, 0 where there is none.
unfoldable pub mark_length : List ℕ → ℕ
mark_length (a ∷ b ∷ c ∷ bytes) = if (a == 239) && (b == 187) && (c == 191) then 3 else 0
mark_length bytes = 0

-- The characters of bytes from an offset on, with the newline that they lack, unless the text has ended.
unfoldable pub unread : Bool → ℕ → List ℕ → List Character
unread has_ended offset [] = if has_ended then [] else (record { byte = newline; at = offset; width = 0 }) ∷ []
unread has_ended offset (byte ∷ bytes) = (record { byte = byte; at = offset; width = 1 }) ∷ unread (byte == newline) (offset + 1) bytes

-- The same after phase 1.
unfoldable pub unread_after_phase_1 : Bool → ℕ → List ℕ → List Character
unread_after_phase_1 has_ended offset bytes = replaced (joined (unread has_ended offset bytes))

-- The byte and the width of the next character at a question mark.
abbrev pub front_at_question_mark : List ℕ → ℕ × ℕ
front_at_question_mark (b ∷ c ∷ bytes) =
    if b == question_mark then option_map_or (λ byte. (byte, 3)) (replacement c) (question_mark, 1) else (question_mark, 1)
front_at_question_mark bytes = (question_mark, 1)

-- The same at a carriage return.
abbrev pub front_at_carriage_return : List ℕ → ℕ × ℕ
front_at_carriage_return [] = (newline, 1)
front_at_carriage_return (b ∷ bytes) = if b == newline then (newline, 2) else (carriage_return, 1)

-- The same at the front of what is left.
unfoldable pub front : Bool → List ℕ → Option (ℕ × ℕ)
front has_ended [] = if has_ended then None else Some (newline, 0)
front has_ended (a ∷ bytes) =
    Some (if a == question_mark then front_at_question_mark bytes else if a == carriage_return then front_at_carriage_return bytes else (a, 1))

-- A byte that stands for itself wherever it stands, and begins no splice.
unfoldable pub is_plain : ℕ → Bool
is_plain byte = not (byte == question_mark) && not (byte == carriage_return) && not (byte == backslash)

-- Whether no newline is lacking behind bytes.
unfoldable pub ended_behind : Bool → List ℕ → Bool
ended_behind has_ended [] = has_ended
ended_behind has_ended (byte ∷ bytes) = ended_behind (byte == newline) bytes
