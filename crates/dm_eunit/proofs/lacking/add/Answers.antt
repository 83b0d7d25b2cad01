-- One name more.
use Rattle.dm_eunit.proofs.LackingLemmas.{adds}
use Rattle.dm_eunit.proofs.lacking.add.Goals as goal

pub returns-clause-set : goal.returns-clause-set
returns-clause-set c =
    (adds c.in_ok-_new._new c.args.names.now c.declare.new.self c.args.name.now 0 c.requires c.in_ok-_new.ensures.new c.in_ok-_new.ensures.declared c.in_ok-_new.ensures.twice).set

pub returns-clause-has : goal.returns-clause-has
returns-clause-has c =
    (adds c.in_ok-_new._new c.args.names.now c.declare.new.self c.args.name.now 0 c.requires c.in_ok-_new.ensures.new c.in_ok-_new.ensures.declared c.in_ok-_new.ensures.twice).has_too
