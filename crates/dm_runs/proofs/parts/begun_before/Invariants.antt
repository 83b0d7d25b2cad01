-- What begins among the tokens up to here.
use Rattle.std.proofs.Common.{◌≡◌, ◌+◌, false, take, map}
use Rattle.std.specs.List.{range_with_len}
use Rattle.dm_runs.specs.Spans.{begun_among, begun_before}
use Rattle.dm_runs.proofs.PartLemmas.{behind}
use Rattle.dm_runs.proofs.parts.begun_before.Given as goal

abbrev pub invariant-loop-token : goal.invariant-loop-token
invariant-loop-token l = record {
  begun : l.begun ≡ begun_among false (take l.token-index l.tokens);
  behind : l.is_behind_literal ≡ behind false (take l.token-index l.tokens);
  counts : l.counts.items ≡ map (begun_before l.tokens) (range_with_len 0 (l.token-index + 1));
}
