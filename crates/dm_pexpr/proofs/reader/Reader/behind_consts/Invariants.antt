-- The `const`s passed and those from here on are all that stand there.
use Rattle.std.proofs.Common.{◌≡◌, ◌≤◌, ◌+◌, ◌-◌, length}
use Rattle.dm_pexpr.specs.Parsing.{consts, all_turns}
use Rattle.dm_pexpr.specs.Parts.{source_of}
use Rattle.dm_pexpr.proofs.reader.Reader.behind_consts.Given as goal

abbrev pub invariant-loop-next : goal.invariant-loop-next
invariant-loop-next l =
    (l.at ≤ l.after)
    × (l.at + consts (source_of l.self) l.scope (all_turns (source_of l.self)) l.at ≡ l.after + consts (source_of l.self) l.scope (all_turns (source_of l.self) - (l.after - l.at)) l.after)
    × (l.at ≤ length l.self.tokens.now → l.after ≤ length l.self.tokens.now)

abbrev pub decreases-loop-next : goal.decreases-loop-next
decreases-loop-next l = length l.self.tokens.now - l.after
