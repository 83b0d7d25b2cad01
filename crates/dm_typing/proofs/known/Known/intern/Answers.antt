-- What was numbered before is numbered still, whether the table grew or not.
use Rattle.std.specs.Prelude.{reverse}
use Rattle.dm_typing.proofs.BoundLemmas.{open-same}
use Rattle.dm_typing.proofs.LaterLemmas.{extends-anyway, types-later, trees-later, numbers-it}
use Rattle.dm_typing.proofs.known.Known.intern.Goals as goal

pub invariant_of-self : goal.invariant_of-self
invariant_of-self c =
    let kept = extends-anyway c.intern.result c.args.self.now.types c.intern.new.self c.intern.ensures.kept c.intern.ensures.err in record {
      entries = types-later c.args.self.now.types c.intern.new.self c.args.self.now.declared kept.0 c.args.self.now.entries;
      trees = trees-later c.args.self.now.types c.intern.new.self c.args.self.now.constants kept.0 c.args.self.now.trees;
      numbers = c.args.self.now.numbers;
      unfinished = open-same c.args.self.now.types c.intern.new.self (reverse c.args.self.now.begun.items) kept.1 c.args.self.now.unfinished;
    }

pub returns-clause-number : goal.returns-clause-number
returns-clause-number c = numbers-it c.args.self.now.types c.intern.new.self c.args.shape c.in_ok-id.id c.in_ok-id.ensures.kept c.requires c.in_ok-id.ensures.typed
