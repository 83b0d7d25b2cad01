-- The first position up to here.
use Rattle.std.proofs.Common.{◌≡◌, ◌≤◌}
use Rattle.dm_token.specs.declared.unit.Read.{Read}
use Rattle.dm_rules.specs.Lines.{first_position, is_between}
use Rattle.dm_rules.proofs.index.Index.first_between.Given as goal

abbrev pub invariant-loop-hash : goal.invariant-loop-hash
invariant-loop-hash l = record {
  first : l.found ≡ first_position (λ (one : Read). is_between l.fn.file l.fn.from l.hash one.definition) 0 l.fn.self.reading.now.pp.read;
  still : l.fn.to ≤ l.fn.from → l.hash ≤ l.fn.from;
}
