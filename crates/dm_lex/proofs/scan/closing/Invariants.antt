use Rattle.std.proofs.Common.{◌≡◌, ◌+◌, drop, false}
use Rattle.dm_lex.specs.Cuts.{is_within_line}
use Rattle.dm_lex.specs.Reach.{closing, beyond, run}
use Rattle.dm_lex.proofs.scan.closing.Given as goal

abbrev pub invariant-loop-at : goal.invariant-loop-at
invariant-loop-at l = record {
  far : closing l.quote false l.text ≡ beyond l.at (closing l.quote l.behind_backslash (drop l.at l.text));
  line : run is_within_line l.text ≡ l.at + run is_within_line (drop l.at l.text);
}
