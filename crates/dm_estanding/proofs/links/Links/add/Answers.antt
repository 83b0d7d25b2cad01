-- The summary has one declaration more.
use Rattle.std.proofs.Common.{subst}
use Rattle.dm_estanding.specs.Summaries.{IsAdded}
use Rattle.dm_estanding.proofs.SummaryLemmas.{summary-added}
use Rattle.dm_estanding.proofs.links.Links.add.Goals as goal

pub returns-clause-summary : goal.returns-clause-summary
returns-clause-summary c = λ later begins declared linked old called once proper bound bounds.
    let shapes = c.added.new.known.types.shapes in
    let made = c.in_ok-whole.whole in
    let added = subst (λ whole. IsAdded shapes whole c.args.kind c.args.defines made) c.whole.ensures.whole c.in_ok-whole.ensures.made in
    summary-added later c.args.self.now (record { names = c.declare.new.self; wholes = c.insert.new.self }) declared linked c.args.name.now c.args.number c.args.kind c.args.defines bound
    c.in_ok-_new._new shapes made old called once proper bounds c.in_ok-_new.ensures.new c.in_ok-_new.ensures.declared c.in_ok-_new.ensures.twice begins added c.in_ok-insert.ensures.updates.0
