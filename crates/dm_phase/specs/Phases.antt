-- Translation phases 1 and 2 (5.1.1.2) as rewritings of a whole text, one after another.
use Rattle.std.specs.Prelude.{ℕ, Bool, ◌+◌, List, [], ◌∷◌, Option, Some, None, option_map, Result, Ok, Err, codes, ◌==◌, ◌&&◌, if◌then◌else◌}
use Rattle.std.specs.Option.{option_map_or}
pub use Rattle.dm_token.specs.Bytes.{newline, carriage_return, question_mark, backslash}
use Rattle.dm_token.specs.Bytes.{partner}
use Rattle.dm_phase.specs.declared.Character.{Character}

-- The bytes of a file as characters: each stands for itself, from an offset on.
unfoldable pub characters_at : ℕ → List ℕ → List Character
characters_at offset [] = []
characters_at offset (byte ∷ bytes) = (record { byte = byte; at = offset; width = 1 }) ∷ characters_at (offset + 1) bytes

-- Whether three characters are the bytes EF BB BF, which mark a file as UTF-8.
abbrev pub is_mark : Character → Character → Character → Bool
is_mark a b c = (a.byte == 239) && (b.byte == 187) && (c.byte == 191)

-- They are dropped from the front.
unfoldable pub without_mark : List Character → List Character
without_mark (a ∷ b ∷ c ∷ text) = if is_mark a b c then text else a ∷ b ∷ c ∷ text
without_mark text = text

-- A text that isn't empty and doesn't end in a newline, as it shall (5.1.1.2p1, phase 2), gets one, of width 0.
unfoldable pub ended : List Character → List Character
ended [] = []
ended (c ∷ []) = if c.byte == newline then c ∷ [] else c ∷ (record { byte = newline; at = c.at + c.width; width = 0 }) ∷ []
ended (c ∷ d ∷ text) = c ∷ ended (d ∷ text)

-- An end of line becomes one newline (5.1.1.2p1, phase 1): a carriage return and the newline directly after it.
unfoldable pub joined : List Character → List Character
joined [] = []
joined (c ∷ []) = c ∷ []
joined (c ∷ d ∷ text) =
    if (c.byte == carriage_return) && (d.byte == newline)
    then (record { byte = newline; at = c.at; width = c.width + d.width }) ∷ joined text
    else c ∷ joined (d ∷ text)

-- What two question marks and a byte stand for (5.2.1.1).
abbrev pub replacement : ℕ → Option ℕ
replacement third = partner third (codes "=(/)'<!>-") (codes "#[\\]^{|}~")

-- The character that three characters stand for, if they are a trigraph.
unfoldable pub trigraph : Character → Character → Character → Option Character
trigraph a b c =
    if (a.byte == question_mark) && (b.byte == question_mark)
    then option_map (λ byte. record { byte = byte; at = a.at; width = a.width + b.width + c.width }) (replacement c.byte)
    else None

-- Trigraphs are replaced from the left (5.1.1.2p1, phase 1).
unfoldable pub replaced : List Character → List Character
replaced (a ∷ b ∷ c ∷ text) = option_map_or (λ d. d ∷ replaced text) (trigraph a b c) (a ∷ replaced (b ∷ c ∷ text))
replaced text = text

-- Whether a character is a backslash directly before a newline.
abbrev pub is_splice : Character → Character → Bool
is_splice c d = (c.byte == backslash) && (d.byte == newline)

-- Each backslash directly before a newline is deleted with it (5.1.1.2p1, phase 2), in one pass.
unfoldable pub spliced : List Character → List Character
spliced [] = []
spliced (c ∷ []) = c ∷ []
spliced (c ∷ d ∷ text) = if is_splice c d then spliced text else c ∷ spliced (d ∷ text)

-- The backslash that is deleted with the text's last newline, if that is deleted.
unfoldable pub last_splice : List Character → Option Character
last_splice [] = None
last_splice (c ∷ []) = None
last_splice (c ∷ d ∷ []) = if is_splice c d then Some c else None
last_splice (c ∷ d ∷ e ∷ text) = last_splice (d ∷ e ∷ text)

-- The text after phase 1, with a newline at its end.
unfoldable pub after_phase_1 : List ℕ → List Character
after_phase_1 bytes = replaced (joined (ended (without_mark (characters_at 0 bytes))))

-- The text after phase 2, or the backslash that would be deleted with its last newline.
unfoldable pub after_phase_2 : List Character → Result (List Character) Character
after_phase_2 text = option_map_or Err (last_splice text) (Ok (spliced text))

-- The text of a file after phases 1 and 2, or that backslash.
unfoldable pub flat_text : List ℕ → Result (List Character) Character
flat_text bytes = after_phase_2 (after_phase_1 bytes)
