use Rattle.std.proofs.Common.{◌≡◌, ◌+◌, ◌≤◌, drop}
use Rattle.dm_typing.specs.Specifiers.{count_of}
use Rattle.dm_edeclarator.proofs.specifiers.count_of.Given as goal

-- the count so far, and that of the rest
abbrev pub invariant-loop-word : goal.invariant-loop-word
invariant-loop-word l = (l.count + count_of l.row (drop l.word-index l.words) ≡ count_of l.row l.words) × (l.count ≤ l.word-index)
