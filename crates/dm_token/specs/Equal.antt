-- Equal lists of marks.
use Rattle.std.specs.Prelude.{Bool, List}
use Rattle.std.specs.Cmp.Lexicographic.{pointwise}
use Rattle.dm_token.specs.declared.expansion.Mark.{Mark}
use Rattle.dm_token.specs.contracts.expansion.MarkPartialEq.TheImpl as mark_eq

-- as long, and equal mark for mark
abbrev pub equal : List Mark → List Mark → Bool
equal = pointwise (mark_eq.ghosts).eq
