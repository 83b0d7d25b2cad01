-- Where pointers move to, as the code says it.
use Rattle.std.specs.Prelude.{ℕ, ◌^◌, ℤ, pos, neg_ℤ, ◌≤ℤ◌, Option, option_map, [], ◌∷◌, ◌++◌, take}
use Rattle.dm_meaning.specs.Values as values
use Rattle.dm_layout.specs.declared.moves.Tail.{Tail}
use Rattle.dm_layout.specs.declared.moves.Tail.TheVariants.{Element, Itself, Past}

-- the last step of a path, where there is one
abbrev pub steps_of : Tail → values.Path
steps_of (Element number) = values.part number ∷ []
steps_of Itself = []
steps_of Past = values.past ∷ []

-- by how many elements a pointer may be asked to move: any integer, or its negative
abbrev pub IsCount : ℤ → Type 0
IsCount count = (neg_ℤ (pos (2 ^ 64)) ≤ℤ count) × (count ≤ℤ pos (2 ^ 64))

-- the path of which so many steps stay, before its new last step
abbrev pub moved_path : values.Path → Option (ℕ × Tail) → Option values.Path
moved_path path found = option_map (λ (one : ℕ × Tail). take one.0 path ++ steps_of one.1) found
