-- What a sink was given.
use Rattle.std.specs.Prelude.{◌≡◌, ℕ, List, ◌++◌, Option, option_map}

-- the output with bytes at its end
abbrev pub appended : Option (List ℕ) → List ℕ → Option (List ℕ)
appended told bytes = option_map (λ before. before ++ bytes) told

-- the output with a front of the bytes at its end
abbrev pub MayHaveAppended : Option (List ℕ) → Option (List ℕ) → List ℕ → Type 0
MayHaveAppended before after bytes = (front : List ℕ) × (rest : List ℕ) × (bytes ≡ front ++ rest) × (after ≡ appended before front)
