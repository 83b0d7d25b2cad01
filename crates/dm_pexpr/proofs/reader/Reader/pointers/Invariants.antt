-- The pointers so far and those from here on are all that stand there.
use Rattle.std.proofs.Common.{◌≡◌, ◌≤◌, ◌+◌, ◌-◌, ◌++◌, length}
use Rattle.dm_syn.specs.Spans.{pointers_after}
use Rattle.dm_pexpr.specs.Parsing.{pointers, all_turns}
use Rattle.dm_pexpr.specs.Parts.{source_of}
use Rattle.dm_pexpr.proofs.reader.Reader.pointers.Given as goal

abbrev pub invariant-loop-next : goal.invariant-loop-next
invariant-loop-next l =
    (l.pointers ++ pointers (source_of l.self) l.scope (all_turns (source_of l.self) - length l.pointers) l.after ≡ pointers (source_of l.self) l.scope (all_turns (source_of l.self)) l.at)
    × (l.after ≡ pointers_after l.at l.pointers)
    × (l.at + length l.pointers ≤ l.after)
    × (l.at ≤ length l.self.tokens.now → l.after ≤ length l.self.tokens.now)

abbrev pub decreases-loop-next : goal.decreases-loop-next
decreases-loop-next l = length l.self.tokens.now - l.after
