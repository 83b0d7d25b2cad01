-- The number is that of an entry.
use Rattle.std.specs.Prelude.{length}
use Rattle.dm_estanding.proofs.NameLemmas.{put-anyway, declared-again, scopes-kept}
use Rattle.dm_estanding.proofs.naming.name_entry.Goals as goal

pub invariant_of-known : goal.invariant_of-known
invariant_of-known c =
    let old = c.args.known.now in record {
      entries = old.entries;
      trees = old.trees;
      numbers = put-anyway c.declare.result (length old.declared) old.scopes c.declare.new.self c.args.name.now c.args.number c.requires old.numbers
          c.declare.ensures.declared c.declare.ensures.twice c.declare.ensures.err;
      unfinished = old.unfinished;
    }

pub returns-clause-scopes : goal.returns-clause-scopes
returns-clause-scopes c = λ known.
    declared-again c.in_ok-_new._new c.args.known.now.scopes c.declare.new.self c.args.name.now c.args.number c.in_ok-_new.ensures.new c.in_ok-_new.ensures.declared c.in_ok-_new.ensures.twice
    known

pub returns-clause-outer : goal.returns-clause-outer
returns-clause-outer c =
    (scopes-kept c.in_ok-_new._new c.args.known.now.scopes c.declare.new.self c.args.name.now c.args.number c.in_ok-_new.ensures.declared c.in_ok-_new.ensures.twice).0

pub returns-clause-depth : goal.returns-clause-depth
returns-clause-depth c =
    (scopes-kept c.in_ok-_new._new c.args.known.now.scopes c.declare.new.self c.args.name.now c.args.number c.in_ok-_new.ensures.declared c.in_ok-_new.ensures.twice).1
