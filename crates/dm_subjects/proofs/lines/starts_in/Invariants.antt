-- The lines that begin among the bytes that are left come behind those that were found.
use Rattle.std.proofs.Common.{◌≡◌, ◌++◌, drop}
use Rattle.dm_subjects.specs.Newlines.{starts_from}
use Rattle.dm_subjects.proofs.lines.starts_in.Given as goal

abbrev pub invariant-loop-at : goal.invariant-loop-at
invariant-loop-at l = l.starts ++ starts_from l.at (drop l.at l.bytes) ≡ starts_from 0 l.bytes
