-- Where the characters of a text stand in the file.
use Rattle.std.proofs.Common.{◌≡◌, ℕ, ◌+◌, ◌≤◌, max, List, [], ◌∷◌, ◌++◌, length, arith}
use Rattle.dm_token.specs.Places.{newline}
use Rattle.dm_phase.specs.declared.Character.{Character}

-- Each character begins after the one before it, not before that one's end, and none ends behind the file.
abbrev pub InOrder : ℕ → ℕ → List Character → Type 0
InOrder first end [] = Unit {0}
InOrder first end (c ∷ text) = (first ≤ c.at) × (c.at + c.width ≤ end) × InOrder (c.at + max 1 c.width) end text

-- A character and those behind it end in a newline.
abbrev pub LastIsNewline : Character → List Character → Type 0
LastIsNewline c [] = c.byte ≡ newline
LastIsNewline c (d ∷ text) = LastIsNewline d text

-- A text that isn't empty ends in a newline.
abbrev pub EndsInNewline : List Character → Type 0
EndsInNewline [] = Unit {0}
EndsInNewline (c ∷ text) = LastIsNewline c text

-- A text may begin later than it has to.
pub InOrder-weaker : (first later end : ℕ) (text : List Character) → first ≤ later → InOrder later end text → InOrder first end text
InOrder-weaker first later end [] h order = tt
InOrder-weaker first later end (c ∷ text) h order = (omega arith, order.1, order.2)

-- What is behind a front of a text is in order too.
pub InOrder-behind : (first end : ℕ) (front text : List Character) → InOrder first end (front ++ text) → InOrder first end text
InOrder-behind first end [] text order = order
InOrder-behind first end (c ∷ front) text order =
    InOrder-weaker first (c.at + max 1 c.width) end text (omega arith) (InOrder-behind (c.at + max 1 c.width) end front text order.2)

-- So many characters fit.
pub length-in_order : (first end : ℕ) (text : List Character) → InOrder first end text → length text + first ≤ max first (end + 1)
length-in_order first end [] h = omega arith
length-in_order first end (c ∷ text) h = omega (arith, length-in_order (c.at + max 1 c.width) end text h.2)

-- The file may be longer than it has to be.
pub InOrder-wider : (first end later : ℕ) (text : List Character) → end ≤ later → InOrder first end text → InOrder first later text
InOrder-wider first end later [] h order = tt
InOrder-wider first end later (c ∷ text) h order = (order.0, omega (arith, order.1), InOrder-wider (c.at + max 1 c.width) end later text h order.2)
