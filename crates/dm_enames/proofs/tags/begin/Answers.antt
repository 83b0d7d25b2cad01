-- The struct stands innermost, and hasn't its members.
use Rattle.std.specs.Prelude.{is_ok}
use Rattle.dm_enames.proofs.TagStepLemmas.{begun-anyway, begun-known}
use Rattle.dm_enames.proofs.tags.begin.Goals as goal

pub invariant_of-known : goal.invariant_of-known
invariant_of-known c =
    let known = c.args.known.now in record {
      entries = known.entries;
      trees = known.trees;
      numbers = known.numbers;
      unfinished = begun-anyway (is_ok c.push.result) known.types known.begun.items c.push.new.self.items c.args.number c.push.ensures.items c.requires known.unfinished;
    }

pub returns-clause-known : goal.returns-clause-known
returns-clause-known c = λ later. begun-known later c.args.known.now c.push.new.self.items c.args.number c.in_ok-push.ensures.items
