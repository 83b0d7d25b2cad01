-- The occurrences up to here are left out.
use Rattle.std.proofs.Common.{◌≡◌, ◌<◌, ℕ, ◌+◌, ◌-◌, ◌&&◌, not, false, length, drop, slice_index_or}
use Rattle.dm_meanings.specs.Captures.{is_own}
use Rattle.dm_meanings.proofs.OwnLemmas.{is_in_one}
use Rattle.dm_meanings.proofs.own.own_tokens.Given as goal

abbrev pub invariant-loop-one : goal.invariant-loop-one
invariant-loop-one l = record {
  long : length l.own.items ≡ l.fn.run.span.after - l.fn.run.span.first;
  own : (at : ℕ) → at < length l.own.items
      → (slice_index_or l.own.items at false && not (is_in_one (drop l.one-index l.occurrences) (l.fn.run.span.first + at))) ≡ is_own l.fn.run (l.fn.run.span.first + at);
}
