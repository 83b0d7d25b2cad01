-- The number is that of an entry.
use Rattle.std.specs.Prelude.{length}
use Rattle.std.proofs.Common.{sym, ◌∙◌}
use Rattle.dm_estanding.proofs.NameLemmas.{put-anyway}
use Rattle.dm_eunit.proofs.ReopeningLemmas.{unlinked-below}
use Rattle.dm_eunit.proofs.reopening.declare_one.Goals as goal

pub invariant_of-known : goal.invariant_of-known
invariant_of-known c =
    let old = c.args.known.now in record {
      entries = old.entries;
      trees = old.trees;
      numbers = put-anyway c.declare.result (length old.declared) old.scopes c.declare.new.self c.args.one.now.name c.args.one.now.number
          (unlinked-below old.declared c.args.one.now.number (sym c.is_unlinked.ensures ∙ c.if-not-is_unlinked.false)) old.numbers
          c.declare.ensures.declared c.declare.ensures.twice c.declare.ensures.err;
      unfinished = old.unfinished;
    }
