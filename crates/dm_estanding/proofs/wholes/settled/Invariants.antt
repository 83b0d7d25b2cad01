-- The entries before the next one are settled.
use Rattle.std.specs.Prelude.{◌≡◌, length}
use Rattle.dm_estanding.specs.Wholes.{settled}
use Rattle.dm_estanding.proofs.WholeLemmas.{settled_from}
use Rattle.dm_estanding.proofs.wholes.settled.Given as goal

abbrev pub invariant-loop-number : goal.invariant-loop-number
invariant-loop-number l = record {
  left : settled_from l.links 0 l.number l.entries ≡ settled l.links 0 l.fn.entries;
  many : length l.entries ≡ length l.fn.entries;
}
