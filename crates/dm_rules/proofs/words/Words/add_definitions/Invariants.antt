-- The names up to here are among them.
use Rattle.std.proofs.Common.{◌≡◌, ℕ, ◌||◌, List, take}
use Rattle.std.specs.List.{list_any}
use Rattle.dm_mentions.specs.Mentions.{is_definition}
use Rattle.dm_rules.specs.Words.{has}
use Rattle.dm_rules.proofs.words.Words.add_definitions.Given as goal

abbrev pub invariant-loop-one : goal.invariant-loop-one
invariant-loop-one l = (other : List ℕ) → has l.self other ≡ (has l.fn.self other || list_any (is_definition other) (take l.one-index l.read))
