-- What is said to words that aren't good.
use Rattle.std.specs.Prelude.{ℕ, List, codes}

unfoldable pub usage_line : List ℕ
usage_line = codes "usage: demacro plan M [--json] | apply M [--json] | expand M UNIT | run M UNIT [--order N] [--steps N] [--input FILE] | gen N\n"
