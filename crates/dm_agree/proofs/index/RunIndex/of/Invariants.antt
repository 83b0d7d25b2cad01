-- The runs so far are found by their spans, and the tokens are marked with which they begin.
use Rattle.std.proofs.Common.{take}
use Rattle.dm_agree.specs.Index.{AreStarts, IsRunIndex}
use Rattle.dm_agree.proofs.index.RunIndex.of.Given as goal

abbrev pub invariant-loop-run : goal.invariant-loop-run
invariant-loop-run l = record {
  found : IsRunIndex l.by_span (take l.run-index l.runs);
  begun : AreStarts l.starts.items (take l.run-index l.runs);
}
