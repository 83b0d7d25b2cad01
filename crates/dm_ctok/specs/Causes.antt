-- Why what stands between quotes isn't read.
use Rattle.std.specs.Prelude.{◌≡◌, ℕ, List, Option, None}
use Rattle.dm_ctok.specs.declared.escape.Unread.{Unread}
use Rattle.dm_ctok.specs.declared.escape.Unread.TheVariants.{Memory, Escape}

-- memory ran out, or there are no values
abbrev pub IsCause : Unread → Option (List ℕ) → Type 0
IsCause Memory values = Unit {0}
IsCause Escape values = values ≡ None
