-- Heights as the code counts them.
use Rattle.std.specs.Prelude.{ℕ}

-- the greatest number of 32 bits: a height above it isn't counted
abbrev pub most_counted : ℕ
most_counted = 4294967295
