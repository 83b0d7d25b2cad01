-- What is noted at the end follows from what is noted of the rest.
use Rattle.std.proofs.Common.{◌==◌, List, length}
use Rattle.std.specs.List.{list_any}
use Rattle.dm_stable.specs.declared.marks.Mark.{Mark}
use Rattle.dm_stable.specs.Marks.{Follows}
use Rattle.dm_stable.proofs.marks.note_parameters.Given as goal

abbrev pub invariant-loop-object : goal.invariant-loop-object
invariant-loop-object l = (final : List Mark) → Follows (λ d token. list_any (λ number. number == d) l.left) l.received.items final → Follows (λ d token. list_any (λ number. number == d) l.parameters) l.initial.received.items final

abbrev pub decreases-loop-object : goal.decreases-loop-object
decreases-loop-object l = length l.left
