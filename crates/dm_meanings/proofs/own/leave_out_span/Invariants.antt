-- The tokens up to here are left out.
use Rattle.std.proofs.Common.{◌≡◌, ◌≤◌, ◌<◌, ◌⊎◌, ℕ, ◌+◌, ◌&&◌, not, false, length, slice_index_or}
use Rattle.dm_meanings.proofs.OwnLemmas.{is_between}
use Rattle.dm_meanings.proofs.own.leave_out_span.Given as goal

abbrev pub invariant-loop-token : goal.invariant-loop-token
invariant-loop-token l = record {
  long : length l.own ≡ length l.initial.own;
  reached : (l.token ≡ l.fn.span.first) ⊎ (l.token ≤ l.fn.span.after);
  own : (at : ℕ) → at < length l.initial.own
      → slice_index_or l.own at false ≡ (slice_index_or l.initial.own at false && not (is_between l.fn.span.first l.token (l.fn.first + at)));
}
