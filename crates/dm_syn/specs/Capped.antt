-- Heights as the code counts them, up to the greatest number of 32 bits.
use Rattle.std.specs.Prelude.{ℕ, min}

abbrev pub capped : ℕ → ℕ
capped height = min height 4294967295
